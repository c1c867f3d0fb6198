-- The entries are below q exactly where the greatest of them is.
use Rattle.std.proofs.Common.{sym, ◌∙◌, ap, arith}
use Rattle.matrix.specs.Matrix.{entries_below}
use Rattle.matrix.specs.Laws.Tests.{below_none}
use Rattle.matrix.proofs.entries_below.Goals as goal

pub returns-then-q-eq0 : goal.returns-then-q-eq0
returns-then-q-eq0 c = sym (ap (λ x. entries_below x c.args.m.now) c.if-q-eq0.true ∙ below_none c.args.m.now)

pub returns : goal.returns
returns c = c.greatest.ensures _ (omega (arith, c.if-q-eq0.false))
