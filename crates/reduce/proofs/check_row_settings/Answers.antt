-- `reduce::check_row_settings` meets its contract: the tests in their order, each passed or answered.
use Rattle.std.proofs.Common.{sym, ◌∙◌}
use Rattle.refusal.specs.Laws.First.{test-refused, test-passed, first-none}
use Rattle.reduce.specs.Reduce.{row_settings_refusal}
use Rattle.reduce.proofs.check_row_settings.Goals as goal

pub returns-then-not-is_size : goal.returns-then-not-is_size
unfolding row_settings_refusal
returns-then-not-is_size c = sym (test-refused _ _ _ tt (sym c.if-not-is_size.ensures))

pub returns-then-not-row_length_ok : goal.returns-then-not-row_length_ok
unfolding row_settings_refusal
returns-then-not-row_length_ok c =
    sym (test-passed _ _ _ (sym c.if-not-is_size.ensures) ∙ test-refused _ _ _ tt (sym c.if-not-row_length_ok.ensures))

pub returns : goal.returns
unfolding row_settings_refusal
returns c =
    sym
    (test-passed _ _ _ (sym c.if-not-is_size.ensures) ∙ test-passed _ _ _ (sym c.if-not-row_length_ok.ensures) ∙ first-none)
