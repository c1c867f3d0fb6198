-- The vector is what the rows passed add.
use Rattle.std.proofs.Common.{◌≡◌}
use Rattle.basics.specs.Sum.{sum}
use Rattle.matrix.proofs.Laws.VectorRows.{row_power}
use Rattle.matrix.proofs.vector_of.Given as goal

abbrev pub invariant-loop-row : goal.invariant-loop-row
invariant-loop-row l = l.vector ≡ sum l.row (row_power l.n l.m)
