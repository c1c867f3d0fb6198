-- `convert::convert` meets its contract: refused, or the counterpart.
use Rattle.std.proofs.Common.{◌∙◌, ap, sym, Ok}
use Rattle.std.proofs.Math.Path.{ap₂}
use Rattle.std.proofs.lemmas.Result.{err_from_is_err_and}
use Rattle.refusal.specs.Laws.First.{refused}
use Rattle.numbering.specs.Numbering.{index_in, index_of, drawn}
use Rattle.convert.specs.Convert.{convert_of}
use Rattle.convert.specs.Laws.ConvertAccepted.{convert-accepted, convert-done, convert-told}
use Rattle.convert.proofs.convert.Goals as goal

pub returns-in_err-first-clause-value : goal.returns-in_err-first-clause-value
unfolding convert_of
returns-in_err-first-clause-value c =
    let p = err_from_is_err_and c.from_residual.result c.from_residual.ensures.1 in
    rw (p.1, p.2) (refused _ _ _ c.in_err-first.ensures.refusal)

pub returns-in_err-first-clause-result_value : goal.returns-in_err-first-clause-result_value
returns-in_err-first-clause-result_value c = convert-told _ _ _ _ _ _ _ (returns-in_err-first-clause-value c)

pub counterpart-requires : goal.counterpart-requires
counterpart-requires c =
    let a = convert-accepted _ _ _ _ _ _ (sym c.in_ok-first.ensures.refusal) in
    (a.choice.settings, a.inside)

pub returns-clause-value : goal.returns-clause-value
returns-clause-value c =
    let a = c.args in
    let chose = c.in_ok-first.ensures.chosen in
    ap Ok
    (c.counterpart.ensures
    ∙ ap₂ (λ from to. index_in to (index_of a.q a.n a.k to (drawn a.q a.n a.k from a.index))) chose.0 chose.1)
    ∙ sym (convert-done _ _ _ _ _ _ (sym c.in_ok-first.ensures.refusal))

pub returns-clause-result_value : goal.returns-clause-result_value
returns-clause-result_value c = convert-told _ _ _ _ _ _ _ (returns-clause-value c)
