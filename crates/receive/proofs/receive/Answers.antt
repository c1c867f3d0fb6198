-- `receive::receive` meets its contract: a refusal, or the answer for the rows' span.
-- Each list of tests is unfolded, so that one that an edit writes out is met test by test.
use Rattle.std.proofs.Common.{sym, ◌∙◌}
use Rattle.std.proofs.lemmas.Result.{err_from_is_err_and}
use Rattle.refusal.specs.Laws.First.{done}
use Rattle.reduce.specs.Reduce.{rows_size_refusal, row_list_refusal}
use Rattle.receive.specs.Receive.{receive_refusal, receive_of}
use Rattle.receive.proofs.Laws.ReceiveAccepted.{receive-accepted, receive-told}
use Rattle.receive.proofs.Laws.Space.{received-refused}
use Rattle.receive.proofs.receive.Goals as goal

pub returns-in_err-check-clause-value : goal.returns-in_err-check-clause-value
unfolding rows_size_refusal row_list_refusal receive_refusal receive_of
returns-in_err-check-clause-value c =
    let p = err_from_is_err_and c.from_residual.result c.from_residual.ensures.1 in
    rw (p.1, p.2) (received-refused _ _ _ c.in_err-check.ensures)

pub returns-in_err-check-clause-told : goal.returns-in_err-check-clause-told
returns-in_err-check-clause-told c = receive-told _ _ _ _ _ _ _ (returns-in_err-check-clause-value c)

pub reduced_answer-requires : goal.reduced_answer-requires
unfolding rows_size_refusal row_list_refusal receive_refusal
reduced_answer-requires c =
    let a = receive-accepted _ _ _ _ _ _ (sym c.in_ok-check.ensures) in
    (a.0.choice, a.0.few, a.0.sized, a.1)

pub returns-clause-value : goal.returns-clause-value
unfolding rows_size_refusal row_list_refusal receive_refusal receive_of
returns-clause-value c =
    c.reduced_answer.ensures
    ∙ done _ _ _ (sym c.in_ok-check.ensures)

pub returns-clause-told : goal.returns-clause-told
returns-clause-told c = receive-told _ _ _ _ _ _ _ (returns-clause-value c)
