-- `receiver::Receiver::formed` meets its contract: the parts of the test in their order. The settings and the dimension
-- bound the entries that are used before these are looked at.
use Rattle.std.proofs.Common.{rules, ◌≡◌, refl, ap, ap₂, sym, ◌∙◌, ℕ, ◌*◌, ◌≤◌, arith, length, Bool, true, false, not, Some, None}
use Rattle.std.proofs.Common.{◌-◌, take, length-take-le, length-drop}
use Rattle.std.specs.Prelude.{⊤, Result, Ok, Err}
use Rattle.std.specs.Bool.{then_some}
use Rattle.std.specs.Result.{result_ok}
use Rattle.std.proofs.Math.Seq.{take_all}
use Rattle.std.proofs.lemmas.Option.{none-some}
use Rattle.basics.specs.Choice.{pick}
use Rattle.refusal.specs.Refusal.{refusal_number}
use Rattle.refusal.specs.Laws.First.{number-positive}
use Rattle.refusal.specs.declared.Refusal.{Refusal}
use Rattle.settings.specs.Laws.Accepted.{accepted}
use Rattle.matrix.specs.Matrix.{entries_below, identifying, is_reduced}
use Rattle.walk.specs.Walk.{oversized, walked}
use Rattle.walk.specs.declared.Walk.{Walk}
use Rattle.walk.proofs.Laws.Whole.{whole-entries, whole-rows, whole-vector}
use Rattle.receiver.specs.Receiver.{setup_of, setup_refusal, used, unused, well_formed}
use Rattle.receiver.specs.Laws.WellFormed.{formed-settings, formed-dimension, formed-entries, formed-rest, formed-reduced}
use Rattle.receiver.specs.Laws.Sound.{used-fit}
use Rattle.receiver.specs.declared.Receiver.{Receiver}
use Rattle.receiver.proofs.Receiver.formed.Goals as goal

settled : (r : Result ⊤ Refusal) (v : ⊤) → Some v ≡ result_ok r → refusal_number r ≡ 0
settled (Ok x) v e = refl
settled (Err x) v e = absurd (none-some v (sym e))

unsettled : (r : Result ⊤ Refusal) → None ≡ result_ok r → refusal_number r ≡ 0 → ⊥
unsettled (Ok x) e z = none-some x e
unsettled (Err x) e z = number-positive x z

-- a vector that is 0 where there is none
picked : (b : Bool) (v : ℕ) → then_some b (pick b v 0) ≡ then_some b v
picked true v = refl
picked false v = refl

module _ (r : Receiver) where
  -- what a part that fails says
  unformed : (v : ℕ) → false ≡ well_formed r → None ≡ then_some (well_formed r) v
  unformed v e = ap (λ b. then_some b v) e

  module _ (size : length r.entries ≡ 256) (s : setup_refusal (setup_of r) ≡ 0) (low : r.dimension ≤ r.n) where
    narrow : r.n ≤ 16
    narrow = (accepted r.q r.n r.k s).narrow

    -- the entries that are used are among the 256
    short : r.dimension * r.n ≤ 256
    short = used-fit r.q r.n r.k r.dimension s low

    -- the part that is lent is what the receiver uses
    part : length (used r) ≡ r.dimension * r.n
    part = length-take-le (r.dimension * r.n) r.entries (omega (arith, short))

    -- and the part that is lent then is the rest
    rest : (b : Bool) → b ≡ entries_below 1 (take (256 - r.dimension * r.n) (unused r)) → entries_below 1 (unused r) ≡ b
    rest b e = sym (e ∙ ap (entries_below 1) (take_all (256 - r.dimension * r.n) (unused r) (simp length-drop (omega arith))))

    module _ (w : Walk) (walk : w ≡ walked 32 r.n (used r) r.dimension) where
      -- what the walk over what is used tells of the entries
      told : (b : Bool) → b ≡ oversized r.q w → entries_below r.q (used r) ≡ not b
      told b e =
          whole-entries 32 r.q r.n r.dimension (used r) (omega (arith, narrow)) part ∙ sym (ap not (e ∙ ap (oversized r.q) walk))

      -- and of the matrix, where they are below q
      whole : entries_below r.q (used r) ≡ true → entries_below 1 (unused r) ≡ true
          → then_some w.reduced w.vector ≡ then_some (well_formed r) (identifying r.n r.dimension (used r))
      whole b z =
          let wide : 2 * r.n ≤ 32 = omega (arith, narrow) in
          ap₂ then_some
          (ap (λ x. x.reduced) walk ∙ whole-rows 32 r.q r.n r.dimension (used r) wide part b)
          (ap (λ x. x.vector) walk ∙ whole-vector 32 r.q r.n r.dimension (used r) wide part b)
          ∙ picked (is_reduced r.n r.dimension (used r)) (identifying r.n r.dimension (used r))
          ∙ ap (λ x. then_some x (identifying r.n r.dimension (used r))) (formed-reduced r s low b z)

pub overflow_mul-size : goal.overflow_mul-size
overflow_mul-size c =
    let s = sym c.check.ensures ∙ settled _ _ c.in_ok-ok.ensures.value in
    omega (arith, short c.args.self.now (search rules) s (omega (arith, c.if-self.false)))

pub returns-then-self : goal.returns-then-self
returns-then-self c = unformed _ _ (formed-dimension _ c.if-self.true)

pub returns-in_err-ok : goal.returns-in_err-ok
returns-in_err-ok c =
    c.from_residual.ensures
    ∙ unformed c.args.self.now _ (formed-settings _ (λ z. unsettled _ c.in_err-ok.ensures.value (c.check.ensures ∙ z)))

pub shared_ref_as_front-rows : goal.shared_ref_as_front-rows
shared_ref_as_front-rows c =
    let s = sym c.check.ensures ∙ settled _ _ c.in_ok-ok.ensures.value in
    short c.args.self.now (search rules) s c.if-self.false

pub rows-walked-requires : goal.rows-walked-requires
rows-walked-requires c =
    let s = sym c.check.ensures ∙ settled _ _ c.in_ok-ok.ensures.value in
    let r = c.args.self.now in
    (narrow r (search rules) s c.if-self.false, omega (arith, part r (search rules) s c.if-self.false))

pub returns : goal.returns
returns c =
    let s = sym c.check.ensures ∙ settled _ _ c.in_ok-ok.ensures.value in
    let r = c.args.self.now in
    c.then_some.ensures
    ∙ whole r (search rules) s c.if-self.false _ c.rows-walked.ensures
    (told r (search rules) s c.if-self.false _ c.rows-walked.ensures false c.if-oversized.ensures)
    (rest r (search rules) s c.if-self.false true c.if-not-entries_below.ensures)

pub returns-then-oversized : goal.returns-then-oversized
returns-then-oversized c =
    let s = sym c.check.ensures ∙ settled _ _ c.in_ok-ok.ensures.value in
    let r = c.args.self.now in
    unformed _ _ (formed-entries r s c.if-self.false (told r (search rules) s c.if-self.false _ c.rows-walked.ensures true c.if-oversized.ensures))

pub returns-then-not-entries_below : goal.returns-then-not-entries_below
returns-then-not-entries_below c =
    let s = sym c.check.ensures ∙ settled _ _ c.in_ok-ok.ensures.value in
    let r = c.args.self.now in
    unformed _ _
    (formed-rest r s c.if-self.false (told r (search rules) s c.if-self.false _ c.rows-walked.ensures false c.if-oversized.ensures)
    (rest r (search rules) s c.if-self.false false c.if-not-entries_below.ensures))
