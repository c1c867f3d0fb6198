-- Only row d has changed, and its residue by the rows from row i on is the row's by all rows.
use Rattle.reduction.specs.Laws.Residue.{Eliminating}
use Rattle.reduction.proofs.residue.Given as goal

abbrev pub invariant-loop-i : goal.invariant-loop-i
invariant-loop-i l = Eliminating l.q l.n l.d l.fn.m l.row l.i l.m
