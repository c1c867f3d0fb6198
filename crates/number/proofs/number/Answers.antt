-- `number::number` meets its contract: the tests in their order; what passes them is Reduced, and has the numbering's index by its vector.
use Rattle.std.proofs.Common.{◌≡◌, ◌∙◌, sym, ap, ℕ, ◌*◌, ◌≤◌, List, Bool, length, true, false, Ok, arith}
use Rattle.std.proofs.lemmas.Result.{err_from_is_err_and}
use mathlib.Core.Bool.{not}
use borrow.Author.Tests.{not-true, not-false}
use Rattle.basics.specs.Choice.{pick}
use Rattle.basics.specs.Laws.Choice.{holds}
use Rattle.matrix.specs.Matrix.{Reduced, is_reduced, identifying, entries_below}
use Rattle.matrix.specs.Laws.Tests.{reduced-exactly}
use Rattle.walk.specs.declared.Walk.{Walk}
use Rattle.walk.specs.Walk.{walked, oversized}
use Rattle.walk.proofs.Laws.Whole.{whole-entries, whole-rows, whole-vector}
use Rattle.refusal.specs.Laws.First.{number-positive}
use Rattle.numbering.specs.Numbering.{choice_refusal}
use Rattle.numbering.specs.Laws.Chosen.{chosen, accepted-bytes}
use Rattle.number.proofs.NumberAccepted.{by-choice, by_length, by-entry, by_form, reduced-numbered, number-refused, number-told}
use Rattle.number.proofs.number.Goals as goal

-- what the walk over a matrix of k×n entries tells of it
module _ (q n k t : ℕ) (m : List ℕ) (chose : choice_refusal q n k t ≡ 0) (sized : length m ≡ k * n) (w : Walk)
    (e : w ≡ walked 32 n m k) where
  wide : 2 * n ≤ 32
  wide = omega (arith, (chosen q n k t chose).settings.narrow)

  entries-told : (large : Bool) → large ≡ oversized q w → entries_below q m ≡ not large
  entries-told large o = whole-entries 32 q n k m wide sized ∙ sym (ap not (o ∙ ap (oversized q) e))

  module _ (small : false ≡ oversized q w) where
    below : entries_below q m ≡ true
    below = entries-told false small

    rows-told : w.reduced ≡ is_reduced n k m
    rows-told = ap (λ w. w.reduced) e ∙ whole-rows 32 q n k m wide sized below

    reduced : w.reduced ≡ true → Reduced q n k m
    reduced r = (reduced-exactly q n k m sized (holds _ below)).0 (holds _ (sym rows-told ∙ r))

    vector-told : w.reduced ≡ true → w.vector ≡ identifying n k m
    vector-told r =
        ap (λ w. w.vector) e ∙ whole-vector 32 q n k m wide sized below
        ∙ ap (λ b. pick b (identifying n k m) 0) (sym rows-told ∙ r)

pub returns-in_err-check-clause-value : goal.returns-in_err-check-clause-value
returns-in_err-check-clause-value c =
    let p = err_from_is_err_and c.from_residual.result c.from_residual.ensures.1 in
    let told = c.in_err-check.ensures.refusal in
    rw (p.1, p.2) (number-refused _ _ _ _ _ _ (told ∙ sym (by-choice _ _ _ _ _ (λ z. number-positive _ (told ∙ z)))))

pub returns-in_err-check-clause-result_value : goal.returns-in_err-check-clause-result_value
returns-in_err-check-clause-result_value c = number-told _ _ _ _ _ _ (returns-in_err-check-clause-value c)

pub overflow_mul-k : goal.overflow_mul-k
overflow_mul-k c = omega (arith, accepted-bytes _ _ _ (chosen _ _ _ _ (sym c.in_ok-check.ensures.refusal)).settings)

pub returns-then-matrix-k-clause-value : goal.returns-then-matrix-k-clause-value
returns-then-matrix-k-clause-value c =
    number-refused _ _ _ _ _ _ (sym (by_length _ _ _ _ _ (sym c.in_ok-check.ensures.refusal) c.if-matrix-k.true))

pub returns-then-matrix-k-clause-result_value : goal.returns-then-matrix-k-clause-result_value
returns-then-matrix-k-clause-result_value c = number-told _ _ _ _ _ _ (returns-then-matrix-k-clause-value c)

pub rows-walked-requires : goal.rows-walked-requires
rows-walked-requires c =
    ((chosen _ _ _ _ (sym c.in_ok-check.ensures.refusal)).settings.narrow, omega (arith, c.if-matrix-k.false))

pub returns-then-not-walked-clause-value : goal.returns-then-not-walked-clause-value
returns-then-not-walked-clause-value c =
    let chose = sym c.in_ok-check.ensures.refusal in
    let s = c.if-matrix-k.false in
    let e = c.rows-walked.ensures in
    let small = c.if-oversized.ensures in
    number-refused _ _ _ _ _ _
    (sym
    (by_form _ _ _ _ _ chose s (below _ _ _ _ _ chose s _ e small)
    (sym (rows-told _ _ _ _ _ chose s _ e small) ∙ not-true _ c.if-not-walked.true)))

pub returns-then-not-walked-clause-result_value : goal.returns-then-not-walked-clause-result_value
returns-then-not-walked-clause-result_value c = number-told _ _ _ _ _ _ (returns-then-not-walked-clause-value c)

pub rank-requires : goal.rank-requires
rank-requires c =
    let chose = sym c.in_ok-check.ensures.refusal in
    let s = c.if-matrix-k.false in
    let e = c.rows-walked.ensures in
    let small = c.if-oversized.ensures in (
      (chosen _ _ _ _ chose).settings,
      reduced _ _ _ _ _ chose s _ e small (not-false _ c.if-not-walked.false),
      vector-told _ _ _ _ _ chose s _ e small (not-false _ c.if-not-walked.false),
    )

pub returns-clause-value : goal.returns-clause-value
returns-clause-value c =
    let chose = sym c.in_ok-check.ensures.refusal in
    ap Ok c.rank.ensures
    ∙ sym
    (reduced-numbered _ _ _ _ _ chose
    (reduced _ _ _ _ _ chose c.if-matrix-k.false _ c.rows-walked.ensures c.if-oversized.ensures (not-false _ c.if-not-walked.false)))

pub returns-clause-result_value : goal.returns-clause-result_value
returns-clause-result_value c = number-told _ _ _ _ _ _ (returns-clause-value c)

pub returns-then-oversized-clause-value : goal.returns-then-oversized-clause-value
returns-then-oversized-clause-value c =
    let chose = sym c.in_ok-check.ensures.refusal in
    number-refused _ _ _ _ _ _
    (sym
    (by-entry _ _ _ _ _ chose c.if-matrix-k.false
    (entries-told _ _ _ _ _ chose c.if-matrix-k.false _ c.rows-walked.ensures true c.if-oversized.ensures)))

pub returns-then-oversized-clause-result_value : goal.returns-then-oversized-clause-result_value
returns-then-oversized-clause-result_value c = number-told _ _ _ _ _ _ (returns-then-oversized-clause-value c)
