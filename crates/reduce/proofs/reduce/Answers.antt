-- `reduce::reduce` meets its contract: a refusal leaves the output, and what is not refused is what reducing the rows requires.
-- Each list of tests is unfolded, so that one that an edit writes out is met test by test.
use Rattle.std.proofs.Common.{Ok, ap, sym, ◌∙◌, replicate}
use Rattle.std.proofs.lemmas.Result.{err_from_is_err_and}
use Rattle.refusal.specs.Laws.First.{number-positive, refused, accepted, kept, done}
use Rattle.reduce.specs.Reduce.{reduce_refusal, reduce_of, reduce_buffer}
use Rattle.reduce.specs.Laws.ReduceAccepted.{reduce-accepted, reduce-told}
use Rattle.reduce.proofs.reduce.Goals as goal

pub returns-in_err-check-clause-value : goal.returns-in_err-check-clause-value
unfolding reduce_refusal reduce_of
returns-in_err-check-clause-value c =
    let p = err_from_is_err_and c.from_residual.result c.from_residual.ensures.1 in
    rw (p.1, p.2) (refused _ _ _ c.in_err-check.ensures)

pub returns-in_err-check-clause-output_after : goal.returns-in_err-check-clause-output_after
unfolding reduce_refusal reduce_buffer
returns-in_err-check-clause-output_after c = kept _ _ _ (λ z. number-positive _ (c.in_err-check.ensures ∙ z))

pub returns-in_err-check-clause-result_value : goal.returns-in_err-check-clause-result_value
returns-in_err-check-clause-result_value c = reduce-told _ _ _ _ _ _ (returns-in_err-check-clause-value c)

pub reduce_rows-requires : goal.reduce_rows-requires
unfolding reduce_refusal
reduce_rows-requires c =
    let a = reduce-accepted _ _ _ _ _ (sym c.in_ok-check.ensures) in
    (a.field, a.narrow, a.sized, a.below, c.clear.ensures ∙ ap (λ x. replicate x 0) a.room)

pub returns-clause-value : goal.returns-clause-value
unfolding reduce_refusal reduce_of
returns-clause-value c = ap Ok c.reduce_rows.ensures.value ∙ accepted _ _ (sym c.in_ok-check.ensures)

pub returns-clause-output_after : goal.returns-clause-output_after
unfolding reduce_refusal reduce_buffer
returns-clause-output_after c = c.reduce_rows.ensures.output_after ∙ done _ _ _ (sym c.in_ok-check.ensures)

pub returns-clause-result_value : goal.returns-clause-result_value
returns-clause-result_value c = reduce-told _ _ _ _ _ _ (returns-clause-value c)
