-- `distance::check` meets its contract: q and n are tested first, then the first list whole, then the second.
-- Each list of tests is unfolded, so that one that an edit writes out is met test by test.
use Rattle.std.proofs.Common.{sym, ◌∙◌}
use Rattle.std.proofs.lemmas.Result.{err_from_is_err_and}
use Rattle.refusal.specs.Laws.First.{number-positive, first-refused, first-passed, first_one}
use Rattle.reduce.specs.Reduce.{row_list_refusal}
use Rattle.reduce.specs.Laws.RowList.{row-settings-accepted}
use Rattle.distance.specs.Distance.{distance_refusal}
use Rattle.distance.proofs.check.Goals as goal

pub returns-in_err-check_row_settings : goal.returns-in_err-check_row_settings
unfolding row_list_refusal distance_refusal
returns-in_err-check_row_settings c =
    let p = err_from_is_err_and c.from_residual.result c.from_residual.ensures.1 in
    let told = c.in_err-check_row_settings.ensures in
    rw (p.1, p.2) (told ∙ sym (first-refused _ _ (λ z. number-positive _ (told ∙ z))))

pub check_rows-requires : goal.check_rows-requires
check_rows-requires c = (row-settings-accepted _ _ (sym c.in_ok-check_row_settings.ensures)).2

pub returns-in_err-check_rows : goal.returns-in_err-check_rows
unfolding row_list_refusal distance_refusal
returns-in_err-check_rows c =
    let p = err_from_is_err_and c.from_residual-in_err-check_rows.result c.from_residual-in_err-check_rows.ensures.1 in
    let told = c.in_err-check_rows.ensures in
    rw (p.1, p.2)
    (told ∙ sym (first-passed _ _ (sym c.in_ok-check_row_settings.ensures) ∙ first-refused _ _ (λ z. number-positive _ (told ∙ z))))

pub check_rows-requires-2 : goal.check_rows-requires-2
check_rows-requires-2 c = (row-settings-accepted _ _ (sym c.in_ok-check_row_settings.ensures)).2

pub returns : goal.returns
unfolding row_list_refusal distance_refusal
returns c =
    c.check_rows-2.ensures
    ∙ sym
    (first-passed _ _ (sym c.in_ok-check_row_settings.ensures) ∙ first-passed _ _ (sym c.in_ok-check_rows.ensures) ∙ first_one _)
