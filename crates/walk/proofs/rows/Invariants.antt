-- The first i rows have ended.
use Rattle.std.proofs.Common.{◌≡◌}
use Rattle.walk.specs.Walk.{walked}
use Rattle.walk.proofs.rows.Given as goal

abbrev pub invariant-loop-i : goal.invariant-loop-i
invariant-loop-i l = l.walk ≡ walked 32 l.n l.m l.i
