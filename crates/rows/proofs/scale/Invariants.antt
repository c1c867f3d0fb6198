-- The first entries are the product's, the others as they were.
use Rattle.std.proofs.Common.{◌≡◌, ◌++◌, drop}
use Rattle.basics.specs.Table.{tabulate}
use Rattle.rows.specs.Laws.Steps.{multiple_at}
use Rattle.rows.proofs.scale.Given as goal

abbrev pub invariant-loop-entry : goal.invariant-loop-entry
invariant-loop-entry l =
    l.v ≡ tabulate (multiple_at l.q l.c l.initial.v) 0 l.entry-index ++ drop l.entry-index l.initial.v
