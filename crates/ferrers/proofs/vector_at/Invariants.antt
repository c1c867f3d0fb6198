-- `ferrers::vector_at`: v holds the bits of the columns passed, and the others are those of the dots and the place that are left.
use Rattle.ferrers.specs.Laws.VectorAt.{Telling}
use Rattle.ferrers.proofs.vector_at.Given as goal

abbrev pub invariant-loop-c : goal.invariant-loop-c
invariant-loop-c l = Telling l.n l.k l.size l.place l.v l.c l.rows l.dots l.earlier
