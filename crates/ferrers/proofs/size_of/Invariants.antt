-- `ferrers::size_of`: the dots of the columns passed and those of the shape that is left make up the size.
use Rattle.std.proofs.Common.{ℕ, ◌-◌}
use Rattle.ferrers.specs.Laws.SizeOf.{Counting}
use Rattle.ferrers.proofs.size_of.Given as goal

abbrev pub invariant-loop-j : goal.invariant-loop-j
invariant-loop-j l = (q : ℕ) × Counting q l.n l.k l.m (l.n - l.j) l.rows l.dots
