-- `reduce::check` meets its contract: the tests in their order, each passed or answered.
-- Each list of tests is unfolded, so that one that an edit writes out is met test by test.
use Rattle.std.proofs.Common.{sym, ◌∙◌, ne_eqb, eq-eqb, arith}
use Rattle.std.proofs.lemmas.Result.{err_from_is_err_and}
use Rattle.refusal.specs.Laws.First.{number-positive, first-refused, first-passed, test-refused, test-passed, first-none, first_head}
use Rattle.reduce.specs.Reduce.{row_settings_refusal, rows_size_refusal, reduce_refusal}
use Rattle.reduce.specs.Laws.RowList.{row-settings-accepted, square-fits}
use Rattle.reduce.proofs.check.Goals as goal

pub returns-in_err-check_row_settings : goal.returns-in_err-check_row_settings
unfolding row_settings_refusal rows_size_refusal reduce_refusal
returns-in_err-check_row_settings c =
    let p = err_from_is_err_and c.from_residual.result c.from_residual.ensures.1 in
    let told = c.in_err-check_row_settings.ensures in
    rw (p.1, p.2) (told ∙ sym (sym (first_head _ _ _) ∙ first-refused _ _ (λ z. number-positive _ (told ∙ z))))

pub check_rows_size-requires : goal.check_rows_size-requires
unfolding row_settings_refusal
check_rows_size-requires c = (row-settings-accepted _ _ (sym c.in_ok-check_row_settings.ensures)).2

pub returns-in_err-check_rows_size : goal.returns-in_err-check_rows_size
unfolding row_settings_refusal rows_size_refusal reduce_refusal
returns-in_err-check_rows_size c =
    let p =
    err_from_is_err_and c.from_residual-in_err-check_rows_size.result c.from_residual-in_err-check_rows_size.ensures.1
    in
    let told = c.in_err-check_rows_size.ensures in
    rw (p.1, p.2)
    (told
    ∙ sym
    (sym (first_head _ _ _)
    ∙ first-passed _ _ (sym c.in_ok-check_row_settings.ensures)
    ∙ first-refused _ _ (λ z. number-positive _ (told ∙ z))))

pub overflow_mul-n : goal.overflow_mul-n
unfolding row_settings_refusal
overflow_mul-n c =
    let a = row-settings-accepted c.args.q c.args.n (sym c.in_ok-check_row_settings.ensures) in omega (arith, square-fits a.2)

pub returns-then-size-n : goal.returns-then-size-n
unfolding row_settings_refusal rows_size_refusal reduce_refusal
returns-then-size-n c =
    sym
    (sym (first_head _ _ _)
    ∙ first-passed _ _ (sym c.in_ok-check_row_settings.ensures)
    ∙ first-passed _ _ (sym c.in_ok-check_rows_size.ensures)
    ∙ test-refused _ _ _ tt (ne_eqb _ _ c.if-size-n.true))

pub returns-then-not-entries_below : goal.returns-then-not-entries_below
unfolding row_settings_refusal rows_size_refusal reduce_refusal
returns-then-not-entries_below c =
    sym
    (sym (first_head _ _ _)
    ∙ first-passed _ _ (sym c.in_ok-check_row_settings.ensures)
    ∙ first-passed _ _ (sym c.in_ok-check_rows_size.ensures)
    ∙ test-passed _ _ _ (eq-eqb _ _ c.if-size-n.false)
    ∙ test-refused _ _ _ tt (sym c.if-not-entries_below.ensures))

pub returns : goal.returns
unfolding row_settings_refusal rows_size_refusal reduce_refusal
returns c =
    sym
    (sym (first_head _ _ _)
    ∙ first-passed _ _ (sym c.in_ok-check_row_settings.ensures)
    ∙ first-passed _ _ (sym c.in_ok-check_rows_size.ensures)
    ∙ test-passed _ _ _ (eq-eqb _ _ c.if-size-n.false)
    ∙ test-passed _ _ _ (sym c.if-not-entries_below.ensures)
    ∙ first-none)
