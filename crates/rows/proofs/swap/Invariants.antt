-- The first entries of the two rows are exchanged.
use Rattle.std.proofs.Common.{◌≡◌}
use Rattle.rows.specs.Laws.Raise.{exchanged}
use Rattle.rows.proofs.swap.Given as goal

abbrev pub invariant-loop-j : goal.invariant-loop-j
invariant-loop-j l = l.m ≡ exchanged l.n l.at l.fn.m l.j l.j
