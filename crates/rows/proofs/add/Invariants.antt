-- The first j entries are the sum's, the others as they were.
use Rattle.std.proofs.Common.{◌≡◌}
use Rattle.rows.specs.Laws.Steps.{part}
use Rattle.rows.specs.Laws.Adding.{adding}
use Rattle.rows.proofs.add.Given as goal

abbrev pub invariant-loop-j : goal.invariant-loop-j
invariant-loop-j g l =
    let m = l.initial.m in
    l.m ≡ adding l.q l.n l.c l.to (part l.n l.from m) (part l.n l.to m) m l.j
