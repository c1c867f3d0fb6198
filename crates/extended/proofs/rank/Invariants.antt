-- `extended::rank`: what the columns passed add up to and the index of the shape that is left make up the index.
use Rattle.std.proofs.Common.{◌-◌}
use Rattle.extended.specs.Laws.Rank.{Ranking}
use Rattle.extended.proofs.rank.Given as goal

abbrev pub invariant-loop-j : goal.invariant-loop-j
invariant-loop-j l = Ranking l.q l.n l.k l.m (l.n - l.j) l.rows l.index
