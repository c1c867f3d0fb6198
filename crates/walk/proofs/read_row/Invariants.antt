-- The entries passed are read.
use Rattle.std.proofs.Common.{◌≡◌}
use Rattle.walk.specs.Walk.{row_read}
use Rattle.walk.proofs.read_row.Given as goal

abbrev pub invariant-loop-j : goal.invariant-loop-j
invariant-loop-j l = l.row ≡ row_read l.n l.m l.i l.j
