-- `pandrwyg::check` meets its contract: the tests in their order, each passed or answered.
use Rattle.std.proofs.Common.{sym, ◌∙◌}
use Rattle.std.proofs.lemmas.Result.{err_from_is_err_and}
use borrow.Author.Tests.{eq-eqb, ne_eqb}
use Rattle.refusal.specs.Laws.First.{number-positive, first-refused, first-passed, test-refused, test-passed}
use Rattle.pandrwyg.specs.Exported.{exported_refusal}
use Rattle.pandrwyg.specs.Laws.ExportedAccepted.{exported-unrefused}
use Rattle.pandrwyg.proofs.check.Goals as goal

pub returns-in_err-check_size : goal.returns-in_err-check_size
unfolding exported_refusal
returns-in_err-check_size c =
    let p = err_from_is_err_and c.from_residual.result c.from_residual.ensures.1 in
    let told = c.in_err-check_size.ensures in
    rw (p.1, p.2) (told ∙ sym (first-refused _ _ (λ z. number-positive _ (told ∙ z))))

pub returns-then-size-ne-ANSWER_SIZE : goal.returns-then-size-ne-ANSWER_SIZE
unfolding exported_refusal
returns-then-size-ne-ANSWER_SIZE c =
    sym (first-passed _ _ (sym c.in_ok-check_size.ensures) ∙ test-refused _ _ _ tt (ne_eqb _ _ c.if-size-ne-ANSWER_SIZE.true))

pub returns-then-not-entries_below : goal.returns-then-not-entries_below
unfolding exported_refusal
returns-then-not-entries_below c =
    sym
    (first-passed _ _ (sym c.in_ok-check_size.ensures)
    ∙ test-passed _ _ _ (eq-eqb _ _ c.if-size-ne-ANSWER_SIZE.false)
    ∙ test-refused _ _ _ tt (sym c.if-not-entries_below.ensures))

pub returns : goal.returns
returns c =
    sym
    (exported-unrefused _ _ _ _ _ _ _ (sym c.in_ok-check_size.ensures) c.if-size-ne-ANSWER_SIZE.false
    (sym c.if-not-entries_below.ensures))
