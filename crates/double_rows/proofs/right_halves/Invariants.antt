-- The right halves of the first i rows that lead there stand in the bytes, and zeros follow.
use Rattle.double_rows.specs.Laws.Stack.{Halved}
use Rattle.double_rows.proofs.right_halves.Given as goal

abbrev pub invariant-loop-i : goal.invariant-loop-i
invariant-loop-i l = Halved l.n l.m l.i l.count l.out
