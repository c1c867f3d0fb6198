-- `reduce::check_rows` meets its contract: the size of the list is tested first, then its entries.
-- Each list of tests is unfolded, so that one that an edit writes out is met test by test.
use Rattle.std.proofs.Common.{sym, ◌∙◌}
use Rattle.std.proofs.lemmas.Result.{err_from_is_err_and}
use Rattle.refusal.specs.Laws.First.{number-positive, first-refused, first-passed, test-refused, test-passed, first-none}
use Rattle.reduce.specs.Reduce.{rows_size_refusal, row_list_refusal}
use Rattle.reduce.proofs.check_rows.Goals as goal

pub returns-in_err-check_rows_size : goal.returns-in_err-check_rows_size
unfolding rows_size_refusal row_list_refusal
returns-in_err-check_rows_size c =
    let p = err_from_is_err_and c.from_residual.result c.from_residual.ensures.1 in
    let told = c.in_err-check_rows_size.ensures in
    rw (p.1, p.2) (told ∙ sym (first-refused _ _ (λ z. number-positive _ (told ∙ z))))

pub returns-then-not-entries_below : goal.returns-then-not-entries_below
unfolding rows_size_refusal row_list_refusal
returns-then-not-entries_below c =
    sym (first-passed _ _ (sym c.in_ok-check_rows_size.ensures) ∙ test-refused _ _ _ tt (sym c.if-not-entries_below.ensures))

pub returns : goal.returns
unfolding rows_size_refusal row_list_refusal
returns c =
    sym
    (first-passed _ _ (sym c.in_ok-check_rows_size.ensures) ∙ test-passed _ _ _ (sym c.if-not-entries_below.ensures) ∙ first-none)
