-- The bytes passed are zeros, the others as they were.
use Rattle.std.proofs.Common.{◌≡◌, ◌++◌, drop, replicate}
use Rattle.matrix.proofs.clear.Given as goal

abbrev pub invariant-loop-x : goal.invariant-loop-x
invariant-loop-x l = l.m ≡ replicate l.x-index 0 ++ drop l.x-index l.fn.m
