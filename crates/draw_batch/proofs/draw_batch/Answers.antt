-- `draw_batch::draw_batch` meets its contract: a refusal of the whole touches nothing, and a list that is not refused is drawn.
use Rattle.std.proofs.Common.{sym, ◌∙◌}
use Rattle.std.proofs.lemmas.Result.{err_from_is_err_and}
use Rattle.refusal.specs.Laws.First.{number-positive, kept, done}
use Rattle.draw_batch.specs.Batch.{batch_refusal, batch_matrices, batch_answers}
use Rattle.draw_batch.specs.Laws.BatchAccepted.{batch-accepted}
use Rattle.draw_batch.proofs.draw_batch.Goals as goal

pub returns-in_err-check-clause-value : goal.returns-in_err-check-clause-value
unfolding batch_refusal
returns-in_err-check-clause-value c =
    let p = err_from_is_err_and c.from_residual.result c.from_residual.ensures.1 in
    rw (p.1, p.2) c.in_err-check.ensures

pub returns-in_err-check-clause-matrices_after : goal.returns-in_err-check-clause-matrices_after
unfolding batch_refusal batch_matrices
returns-in_err-check-clause-matrices_after c =
    kept _ _ _ (λ z. number-positive _ (c.in_err-check.ensures ∙ z))

pub returns-in_err-check-clause-answers_after : goal.returns-in_err-check-clause-answers_after
unfolding batch_refusal batch_answers
returns-in_err-check-clause-answers_after c =
    kept _ _ _ (λ z. number-positive _ (c.in_err-check.ensures ∙ z))

pub draw_parts-requires : goal.draw_parts-requires
unfolding batch_refusal
draw_parts-requires c =
    let a = batch-accepted _ _ _ _ _ _ _ (sym c.in_ok-check.ensures) in
    (a.choice, a.sized, a.counted)

pub returns-clause-value : goal.returns-clause-value
unfolding batch_refusal
returns-clause-value c = c.in_ok-check.ensures

pub returns-clause-matrices_after : goal.returns-clause-matrices_after
unfolding batch_refusal batch_matrices
returns-clause-matrices_after c =
    c.draw_parts.ensures.matrices_after ∙ done _ _ _ (sym c.in_ok-check.ensures)

pub returns-clause-answers_after : goal.returns-clause-answers_after
unfolding batch_refusal batch_answers
returns-clause-answers_after c =
    c.draw_parts.ensures.answers_after ∙ done _ _ _ (sym c.in_ok-check.ensures)
