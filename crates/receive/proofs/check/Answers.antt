-- `receive::check` meets its contract: the choice of a numbering is tested first, then the list of rows.
-- Each list of tests is unfolded, so that one that an edit writes out is met test by test.
use Rattle.std.proofs.Common.{sym, ◌∙◌}
use Rattle.std.proofs.lemmas.Result.{err_from_is_err_and}
use Rattle.refusal.specs.Laws.First.{number-positive, first-refused, first-passed, first_one}
use Rattle.numbering.specs.Laws.Chosen.{chosen}
use Rattle.reduce.specs.Reduce.{rows_size_refusal, row_list_refusal}
use Rattle.receive.specs.Receive.{receive_refusal}
use Rattle.receive.proofs.check.Goals as goal

pub returns-in_err-check : goal.returns-in_err-check
unfolding rows_size_refusal row_list_refusal receive_refusal
returns-in_err-check c =
    let p = err_from_is_err_and c.from_residual.result c.from_residual.ensures.1 in
    let told = c.in_err-check.ensures.refusal in
    rw (p.1, p.2) (told ∙ sym (first-refused _ _ (λ z. number-positive _ (told ∙ z))))

pub check_rows-requires : goal.check_rows-requires
check_rows-requires c = (chosen _ _ _ _ (sym c.in_ok-check.ensures.refusal)).settings.narrow

pub returns : goal.returns
unfolding rows_size_refusal row_list_refusal receive_refusal
returns c = c.check_rows.ensures ∙ sym (first-passed _ _ (sym c.in_ok-check.ensures.refusal) ∙ first_one _)
