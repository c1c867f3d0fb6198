-- What an answer of Take tells; no part of the meaning.
--   zero-idle == a zero row taken in leaves the receiver, with the answer "idle"
--   take-told == the numbers and values that an answer of Take tells
-- Assumes nothing.
use Rattle.std.specs.Prelude.{◌≡◌, refl, Bool, false, ◌&&◌, ltb, length, Ok}
use Rattle.std.proofs.Math.Path.{ap, ap₂, sym, subst}
use Rattle.std.proofs.Common.{◌∙◌, arith}
use Rattle.std.proofs.Math.Bool.{true}
use mathlib.Core.List.{[], ◌∷◌, ◌++◌}
use Rattle.std.proofs.Math.Decide.{ℕ_discrete}
use borrow.Author.Tests.{eq-eqb, ne_eqb, le-ltb, ltb-false}
use Rattle.basics.specs.Choice.{pick}
use Rattle.refusal.specs.Laws.First.{kept, done}
use Rattle.linear.specs.Span.{InSpan}
use Rattle.linear.specs.Eliminate.{dimension}
use Rattle.receiver.specs.Receiver.{Offer, held_rows, holding, is_zero, take_refusal, taken_in, take_of, taken_as, take_number, take_raised, take_idle}
use Rattle.receiver.specs.Receiver.{TakeTells}
use Rattle.receiver.specs.Laws.Sound.{Sound, sound}
use Rattle.receiver.specs.Laws.Untouched.{spanned-untouched, zero-spanned, held-spanned}
use Rattle.receiver.specs.Laws.TakeAccepted.{TakeAccepted, take-accepted, take-known, accepted-row}
use Rattle.receiver.specs.declared.Receiver.{Receiver}
use Rattle.receiver.specs.declared.Taken.{Taken}
use Rattle.receiver.specs.declared.Effect.TheVariants.{Raised, Held, Idle}

module _ (r : Receiver) (o : Offer) where
  -- what the answers for a row taken in tell, where a zero row does not let the dimension grow
  accepted-number : (zero grew : Bool) → take_number (Ok (pick zero Idle (pick grew Raised Held))) ≡ 0
  accepted-number true grew = refl
  accepted-number false true = refl
  accepted-number false false = refl

  accepted-raised : (zero grew : Bool) → (zero ≡ true → grew ≡ false) → take_raised (Ok (pick zero Idle (pick grew Raised Held))) ≡ grew
  accepted-raised true grew kept = sym (kept refl)
  accepted-raised false true kept = refl
  accepted-raised false false kept = refl

  accepted-idle : (zero grew : Bool) → take_idle (Ok (pick zero Idle (pick grew Raised Held))) ≡ zero
  accepted-idle true grew = refl
  accepted-idle false true = refl
  accepted-idle false false = refl

  module _ (size : length r.entries ≡ 256) where
    -- a row that is not refused
    taken-told : take_refusal r o ≡ 0 → TakeTells r o (taken_in r o)
    unfolding taken_in holding
    taken-told z =
        record {
          number = accepted-number (is_zero o.row) grew ∙ sym z;
          raised = raised;
          idle = accepted-idle (is_zero o.row) grew ∙ ap (λ b. b && is_zero o.row) (sym (eq-eqb (take_refusal r o) 0 z));
          untouched = λ e. left (held-spanned r size s o.row (accepted-row r o a) (ltb-false r.dimension _ (sym raised ∙ e)));
        }
      where
        a : TakeAccepted r o
        a = take-accepted r o z

        s : Sound r
        s = sound r size a.formed

        -- a row in the span leaves the receiver
        left : InSpan r.q r.n (held_rows r) o.row → (taken_in r o).receiver ≡ r
        left i = spanned-untouched r size s o.row i

        grew : Bool
        grew = ltb r.dimension (taken_in r o).receiver.dimension

        still : is_zero o.row ≡ true → grew ≡ false
        still e =
            let same = ap (λ x. x.dimension) (left (zero-spanned r size s o.row a.sized e)) in
            le-ltb r.dimension (taken_in r o).receiver.dimension (omega (arith, same))

        raised : take_raised (taken_in r o).answer ≡ grew
        raised = accepted-raised (is_zero o.row) grew still

    -- a zero row leaves the receiver, and is idle
    pub zero-idle : take_refusal r o ≡ 0 → is_zero o.row ≡ true → taken_as r (Ok Idle) ≡ taken_in r o
    unfolding taken_in
    zero-idle z e =
        let a = take-accepted r o z in
        let s = sound r size a.formed in
        ap₂ taken_as (sym (spanned-untouched r size s o.row (zero-spanned r size s o.row a.sized e)))
        (ap (λ b. Ok (pick b Idle (pick (ltb r.dimension (dimension r.q r.n (held_rows r ++ (o.row ∷ [])))) Raised Held))) (sym e))

    pub take-told : (a : Taken) → a ≡ take_of r o → TakeTells r o a
    unfolding take_of
    take-told a e = cases (ℕ_discrete (take_refusal r o) 0)
      where
        cases : Dec (take_refusal r o ≡ 0) → TakeTells r o a
        cases (yes z) = subst (TakeTells r o) (done _ _ _ z ∙ sym e) (taken-told z)
        cases (no z) =
            subst (TakeTells r o) (kept _ _ _ z ∙ sym e)
            (record {
              number = take-known r o z;
              raised = sym (le-ltb r.dimension _ (omega arith));
              idle = sym (ap (λ b. b && is_zero o.row) (ne_eqb (take_refusal r o) 0 z));
              untouched = λ _. refl;
            })
