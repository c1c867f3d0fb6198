-- `settings::check_listing` meets its contract: the count's refusal, or the test of the count.
use Rattle.std.proofs.Common.{sym, ◌∙◌}
use Rattle.std.proofs.lemmas.Result.{err_from_is_err_and}
use Rattle.refusal.specs.Laws.First.{number-positive, done}
use Rattle.settings.specs.Laws.Listable.{list-settings, list-large, list-none}
use Rattle.settings.proofs.check_listing.Goals as goal

pub returns-in_err-count : goal.returns-in_err-count
returns-in_err-count c =
    let p = err_from_is_err_and c.from_residual.result c.from_residual.ensures.1 in
    let told = c.in_err-count.ensures.result_value.0 in
    rw (p.1, p.2) (told ∙ sym (list-settings _ _ _ (λ z. number-positive _ (told ∙ z))))

pub returns-then-branch-le-GREATEST_LISTING : goal.returns-then-branch-le-GREATEST_LISTING
returns-then-branch-le-GREATEST_LISTING c =
    let told = c.in_ok-count.ensures.result_value in
    let counted = told.1 ∙ sym (done _ _ _ (sym told.0)) in
    sym (list-none _ _ _ (sym told.0) (rw counted at c.if-branch-le-GREATEST_LISTING.true))

pub returns-else-branch-le-GREATEST_LISTING : goal.returns-else-branch-le-GREATEST_LISTING
returns-else-branch-le-GREATEST_LISTING c =
    let told = c.in_ok-count.ensures.result_value in
    let counted = told.1 ∙ sym (done _ _ _ (sym told.0)) in
    sym (list-large _ _ _ (sym told.0) (rw counted at c.if-branch-le-GREATEST_LISTING.false))
