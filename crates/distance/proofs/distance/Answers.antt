-- `distance::distance` meets its contract: refused, or found in two arrays of zeros.
-- Each list of tests is unfolded, so that one that an edit writes out is met test by test.
use Rattle.std.proofs.Common.{ℕ, Ok, ap, sym, ◌∙◌, arith}
use Rattle.std.proofs.lemmas.Result.{err_from_is_err_and}
use Rattle.basics.specs.Laws.Replicate.{take-replicate, zeros-lent}
use Rattle.refusal.specs.Laws.First.{refused, accepted}
use Rattle.reduce.specs.Reduce.{row_list_refusal}
use Rattle.reduce.specs.Laws.RowList.{square-fits}
use Rattle.distance.specs.Distance.{distance_refusal, distance_of}
use Rattle.distance.specs.Laws.DistanceAccepted.{distance-accepted, distance-told}
use Rattle.distance.proofs.distance.Goals as goal

pub returns-in_err-check-clause-value : goal.returns-in_err-check-clause-value
unfolding row_list_refusal distance_refusal distance_of
returns-in_err-check-clause-value c =
    let p = err_from_is_err_and c.from_residual.result c.from_residual.ensures.1 in
    rw (p.1, p.2) (refused _ _ _ c.in_err-check.ensures)

pub returns-in_err-check-clause-result_value : goal.returns-in_err-check-clause-result_value
returns-in_err-check-clause-result_value c = distance-told _ _ _ _ _ _ _ (returns-in_err-check-clause-value c)

pub overflow_mul-size : goal.overflow_mul-size
unfolding row_list_refusal distance_refusal
overflow_mul-size c =
    let ok = distance-accepted _ _ _ _ _ _ (sym c.in_ok-check.ensures) in omega (arith, square-fits ok.narrow)

pub slice_bounds-matrix-end : goal.slice_bounds-matrix-end
unfolding row_list_refusal distance_refusal
slice_bounds-matrix-end c = square-fits (distance-accepted _ _ _ _ _ _ (sym c.in_ok-check.ensures)).narrow

pub slice_bounds-reduced_distance-end : goal.slice_bounds-reduced_distance-end
unfolding row_list_refusal distance_refusal
slice_bounds-reduced_distance-end c =
    sym (zeros-lent _ 256 (square-fits (distance-accepted _ _ _ _ _ _ (sym c.in_ok-check.ensures)).narrow))

pub slice_bounds-other-end : goal.slice_bounds-other-end
unfolding row_list_refusal distance_refusal
slice_bounds-other-end c = square-fits (distance-accepted _ _ _ _ _ _ (sym c.in_ok-check.ensures)).narrow

pub slice_bounds-reduced_distance-end-2 : goal.slice_bounds-reduced_distance-end-2
unfolding row_list_refusal distance_refusal
slice_bounds-reduced_distance-end-2 c =
    sym (zeros-lent _ 256 (square-fits (distance-accepted _ _ _ _ _ _ (sym c.in_ok-check.ensures)).narrow))

pub reduced_distance-distance-requires-clause-distance_accepted : goal.reduced_distance-distance-requires-clause-distance_accepted
unfolding row_list_refusal distance_refusal
reduced_distance-distance-requires-clause-distance_accepted c = distance-accepted _ _ _ _ _ _ (sym c.in_ok-check.ensures)

pub reduced_distance-distance-requires-clause-matrix_value : goal.reduced_distance-distance-requires-clause-matrix_value
unfolding row_list_refusal distance_refusal
reduced_distance-distance-requires-clause-matrix_value c =
    let ok = distance-accepted _ _ _ _ _ _ (sym c.in_ok-check.ensures) in
    let zeros = take-replicate {A = ℕ} _ 256 0 (square-fits ok.narrow) in
    (zeros, zeros)

pub returns-clause-value : goal.returns-clause-value
unfolding row_list_refusal distance_refusal distance_of
returns-clause-value c = ap Ok c.reduced_distance-distance.ensures ∙ accepted _ _ (sym c.in_ok-check.ensures)

pub returns-clause-result_value : goal.returns-clause-result_value
returns-clause-result_value c = distance-told _ _ _ _ _ _ _ (returns-clause-value c)
