-- The indexes before `place` are drawn, each to its part.
use Rattle.draw_batch.proofs.Drawing.{Drawing}
use Rattle.draw_batch.proofs.draw_parts.Given as goal

abbrev pub invariant-loop-place : goal.invariant-loop-place
invariant-loop-place l = Drawing l.q l.n l.k l.t l.indexes l.fn.matrices l.fn.answers l.matrices l.answers l.at l.place
