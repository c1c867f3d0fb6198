-- `settings::check` meets its contract: each return is the first refusal that the tests before it leave.
use Rattle.std.proofs.Common.{sym, ◌∙◌, arith}
use borrow.Author.Tests.{lt-leb}
use Rattle.basics.specs.Laws.Choice.{holds}
use Rattle.refusal.specs.Laws.First.{test-refused, test-passed}
use Rattle.settings.specs.Settings.{range_ok, settings_refusal}
use Rattle.settings.specs.Laws.Accepted.{row-length-fits, count-accepted, count-refused}
use Rattle.settings.proofs.check.Goals as goal
use Rattle.settings.proofs.check.Goals.{then-not-row_length_ok-via-then-not-row_length_ok, then-not-row_length_ok-via-else-not-row_length_ok+then-n-k}

pub returns-then-not-is_size : goal.returns-then-not-is_size
unfolding settings_refusal
returns-then-not-is_size c = sym (test-refused _ _ _ tt (sym c.if-not-is_size.ensures))

pub returns-then-not-row_length_ok : goal.returns-then-not-row_length_ok
unfolding settings_refusal range_ok
returns-then-not-row_length_ok c =
    let sized = sym c.if-not-is_size.ensures in
    elim c.then-not-row_length_ok.branch [
      | then-not-row_length_ok-via-then-not-row_length_ok w ↦
          sym (test-passed _ _ _ sized ∙ test-refused _ _ _ tt (rw (sym w.if-not-row_length_ok.ensures)))
      | then-not-row_length_ok-via-else-not-row_length_ok+then-n-k w ↦
          let long = sym w.if-not-row_length_ok.ensures in
          let wide = lt-leb c.args.k c.args.n (omega (arith, w.if-n-k.true)) in
          sym (test-passed _ _ _ sized ∙ test-refused _ _ _ tt (rw (long, wide)))
    ]

pub coefficient-requires : goal.coefficient-requires
coefficient-requires c =
    let fits = row-length-fits _ (sym c.if-not-row_length_ok.ensures) in
    (holds _ (sym c.if-not-is_size.ensures), fits.1, omega (arith, fits.1, c.if-n-k.false))

pub returns-then-coefficient-eq0 : goal.returns-then-coefficient-eq0
returns-then-coefficient-eq0 c =
    sym
    (count-refused _ _ _ (sym c.if-not-is_size.ensures) (sym c.if-not-row_length_ok.ensures) (omega (arith, c.if-n-k.false))
    (sym c.coefficient.ensures ∙ c.if-coefficient-eq0.true))

pub returns : goal.returns
returns c =
    sym
    (count-accepted _ _ _ (sym c.if-not-is_size.ensures) (sym c.if-not-row_length_ok.ensures) (omega (arith, c.if-n-k.false))
    (λ e. c.if-coefficient-eq0.false (c.coefficient.ensures ∙ e)))
