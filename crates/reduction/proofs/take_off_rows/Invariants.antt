-- The residue of the second row by the rows from row i on is the first one's by all rows.
use Rattle.reduction.specs.Laws.InSpan.{Trying}
use Rattle.reduction.proofs.take_off_rows.Given as goal

abbrev pub invariant-loop-i : goal.invariant-loop-i
invariant-loop-i l = Trying l.q l.n l.d l.m l.initial.work l.i l.work
