-- The first i rows are above row d and cleared.
use Rattle.std.proofs.Common.{◌*◌}
use Rattle.rows.specs.Laws.Steps.{part}
use Rattle.reduction.specs.Laws.ClearAbove.{Clearing}
use Rattle.reduction.proofs.clear_above.Given as goal

abbrev pub invariant-loop-i : goal.invariant-loop-i
invariant-loop-i l = let m = l.initial.m in Clearing l.q l.n l.d m (part l.n (l.d * l.n) m) l.i l.m
