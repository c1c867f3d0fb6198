-- `reduce::check_rows_size` meets its contract: the tests in their order, each passed or answered.
use Rattle.std.proofs.Common.{sym, ◌∙◌, mul-le-mul, eq-eqb, ne_eqb, arith}
use borrow.Author.Tests.{le-leb, lt-leb}
use Rattle.refusal.specs.Laws.First.{test-refused, test-passed, first-none}
use Rattle.reduce.specs.Reduce.{most_rows, rows_size_refusal}
use Rattle.reduce.proofs.check_rows_size.Goals as goal

pub returns-then-row_count-gt-MOST_ROWS : goal.returns-then-row_count-gt-MOST_ROWS
unfolding rows_size_refusal
returns-then-row_count-gt-MOST_ROWS c =
    sym (test-refused _ _ _ tt (lt-leb c.args.row_count most_rows (omega (arith, c.if-row_count-gt-MOST_ROWS.true))))

pub overflow_mul-row_count : goal.overflow_mul-row_count
overflow_mul-row_count c =
    omega
    (arith, mul-le-mul {n₁ = c.args.row_count} {m₁ = c.args.n} {n₂ = 64} {m₂ = 16} c.if-row_count-gt-MOST_ROWS.false c.requires)

pub returns-then-size-row_count : goal.returns-then-size-row_count
unfolding rows_size_refusal
returns-then-size-row_count c =
    sym (test-passed _ _ _ (le-leb _ _ c.if-row_count-gt-MOST_ROWS.false) ∙ test-refused _ _ _ tt (ne_eqb _ _ c.if-size-row_count.true))

pub returns : goal.returns
unfolding rows_size_refusal
returns c =
    sym
    (test-passed _ _ _ (le-leb _ _ c.if-row_count-gt-MOST_ROWS.false)
    ∙ test-passed _ _ _ (eq-eqb _ _ c.if-size-row_count.false)
    ∙ first-none)
