-- `settings::count` meets its contract: settings that are not refused are accepted, and the table's entry is their count.
use Rattle.std.proofs.Common.{Ok, sym, ap, ◌∙◌, arith}
use Rattle.std.proofs.lemmas.Result.{err_from_is_err_and}
use Rattle.refusal.specs.Laws.First.{refused, accepted as unrefused}
use Rattle.settings.specs.Settings.{count_of}
use Rattle.settings.specs.Laws.Accepted.{accepted, entry-of-accepted, count-told}
use Rattle.settings.proofs.count.Goals as goal

pub returns-in_err-check-clause-value : goal.returns-in_err-check-clause-value
unfolding count_of
returns-in_err-check-clause-value c =
    let p = err_from_is_err_and c.from_residual.result c.from_residual.ensures.1 in
    rw (p.1, p.2) (refused _ _ _ c.in_err-check.ensures)

pub returns-in_err-check-clause-result_value : goal.returns-in_err-check-clause-result_value
returns-in_err-check-clause-result_value c = count-told _ _ _ _ (returns-in_err-check-clause-value c)

pub coefficient-requires : goal.coefficient-requires
coefficient-requires c =
    let a = accepted _ _ _ (sym c.in_ok-check.ensures) in
    (a.size, a.narrow, omega (arith, a.dimension, a.narrow))

pub returns-clause-value : goal.returns-clause-value
unfolding count_of
returns-clause-value c =
    let settled = sym c.in_ok-check.ensures in
    ap Ok (c.coefficient.ensures ∙ entry-of-accepted _ _ _ (accepted _ _ _ settled)) ∙ unrefused _ _ settled

pub returns-clause-result_value : goal.returns-clause-result_value
returns-clause-result_value c = count-told _ _ _ _ (returns-clause-value c)
