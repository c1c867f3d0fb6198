-- `extended::unrank`: the columns from c on are written, and `rest` is the index of what is left of the matrix.
use Rattle.extended.specs.Laws.Unrank.{Unranking}
use Rattle.extended.proofs.unrank.Given as goal

abbrev pub invariant-loop-c : goal.invariant-loop-c
invariant-loop-c l = Unranking l.q l.n l.k l.initial.rest l.m l.v l.c l.rows l.rest
