-- m holds the rows that were held, with the first i of the input taken in.
use Rattle.linear.specs.Span.{rows_of}
use Rattle.linear.specs.Eliminate.{insert_rows}
use Rattle.reduction.specs.Laws.InsertRows.{Holds}
use Rattle.reduction.proofs.insert_rows.Given as goal

abbrev pub invariant-loop-i : goal.invariant-loop-i
invariant-loop-i l =
    Holds l.q l.n (insert_rows l.q l.n (rows_of l.n l.d l.initial.m) (rows_of l.n l.i l.input)) l.held l.m l.pivots
