-- The value is x with the digits of the rows passed.
use Rattle.std.proofs.Common.{◌≡◌, ◌+◌, ◌*◌, ◌^◌}
use Rattle.matrix.specs.Matrix.{entry}
use Rattle.matrix.specs.Laws.Shape.{top_value}
use Rattle.matrix.proofs.append_digits.Given as goal

abbrev pub invariant-loop-i : goal.invariant-loop-i
invariant-loop-i l = l.value ≡ l.x * l.q ^ l.i + top_value l.q (entry l.n l.m) l.i l.c
