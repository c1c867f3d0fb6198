-- `ferrers::draw`: for every shape that the vector and the tableau tell, the columns passed are written, and the tableau's digits that are
-- left are those of the others.
use Rattle.matrix.specs.Shape.{Shape}
use Rattle.ferrers.specs.Laws.WriteMatrix.{Shaped, Unranking}
use Rattle.ferrers.proofs.draw.Given as goal

abbrev pub invariant-loop-c : goal.invariant-loop-c
invariant-loop-c l = (s : Shape) → Shaped l.q l.n l.k l.v l.tableau s → Unranking l.q l.n l.k s l.m l.c l.rows l.entries
