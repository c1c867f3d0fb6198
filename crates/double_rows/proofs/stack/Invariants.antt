-- The first i rows stand behind the first bytes, and zeros follow.
use Rattle.std.proofs.Common.{length, take}
use Rattle.double_rows.specs.Laws.Stack.{Stacked}
use Rattle.double_rows.proofs.stack.Given as goal

abbrev pub invariant-loop-i : goal.invariant-loop-i
invariant-loop-i l = Stacked (length l.initial.out) l.n l.doubled (take l.start l.initial.out) l.rows l.i l.to l.out
