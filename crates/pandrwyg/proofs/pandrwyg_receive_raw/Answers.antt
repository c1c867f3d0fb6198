-- `pandrwyg::pandrwyg_receive_raw` meets its contract: a refusal leaves the answer, and what is not refused is written to it.
use Rattle.std.proofs.Common.{◌∙◌, ap, sym, length, arith}
use Rattle.refusal.specs.Laws.First.{number-positive, first-refused, done}
use Rattle.reduce.specs.Laws.ReduceRows.{input-most}
use Rattle.receive.specs.Answer.{received_number, received_dimension}
use Rattle.receive.proofs.Laws.Space.{space-dimension, received-refused}
use Rattle.pandrwyg.specs.Exported.{left_bytes, exported_of, exported_number, exported_bytes}
use Rattle.pandrwyg.specs.Laws.ExportedAccepted.{exported-accepted, exported-told}
use Rattle.pandrwyg.proofs.pandrwyg_receive_raw.Goals as goal

pub reduced_answer-requires : goal.reduced_answer-requires
reduced_answer-requires c =
    let a = exported-accepted _ _ _ _ _ _ _ (sym c.in-Ok.ensures) in (a.rows.choice, a.rows.few, a.rows.sized, a.below)

pub leave-requires : goal.leave-requires
leave-requires c =
    let x = c.args in
    let a = exported-accepted _ _ _ _ _ _ _ (sym c.in-Ok.ensures) in
    let s = a.rows.choice.settings in
    let d = ap received_dimension c.reduced_answer.ensures ∙ space-dimension x.q x.n x.k x.t _ _ in
    (a.room, omega (arith, s.narrow, input-most x.q x.n x.row_count x.rows.now s.size a.rows.sized a.below _ d))

pub returns-in-Ok-clause-value : goal.returns-in-Ok-clause-value
unfolding exported_of
returns-in-Ok-clause-value c =
    c.leave.ensures.value ∙ ap received_number (c.reduced_answer.ensures ∙ done _ _ _ (sym c.in-Ok.ensures))

pub returns-in-Ok-clause-answer_after : goal.returns-in-Ok-clause-answer_after
unfolding exported_of exported_bytes
returns-in-Ok-clause-answer_after c =
    c.leave.ensures.answer_after
    ∙ ap (left_bytes c.args.answer.now) (c.reduced_answer.ensures ∙ done _ _ _ (sym c.in-Ok.ensures))

pub returns-in-Ok-clause-value_2 : goal.returns-in-Ok-clause-value_2
unfolding exported_number
returns-in-Ok-clause-value_2 c =
    returns-in-Ok-clause-value c ∙ (exported-told _ _ _ _ _ _ (length c.args.answer.now)).number

pub returns-in-Err-clause-value : goal.returns-in-Err-clause-value
unfolding exported_of
returns-in-Err-clause-value c = c.into.ensures ∙ ap received_number (received-refused _ _ _ c.in-Err.ensures)

pub returns-in-Err-clause-answer_after : goal.returns-in-Err-clause-answer_after
unfolding exported_of exported_bytes
returns-in-Err-clause-answer_after c = ap (left_bytes c.args.answer.now) (received-refused _ _ _ c.in-Err.ensures)

pub returns-in-Err-clause-value_2 : goal.returns-in-Err-clause-value_2
unfolding exported_number
returns-in-Err-clause-value_2 c =
    let told = c.in-Err.ensures in c.into.ensures ∙ told ∙ sym (first-refused _ _ (λ z. number-positive _ (told ∙ z)))
