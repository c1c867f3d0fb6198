-- The first j entries of the sum are written.
use Rattle.std.proofs.Common.{◌≡◌}
use Rattle.rows.specs.Laws.Steps.{part}
use Rattle.rows.specs.Laws.Adding.{adding}
use Rattle.rows.proofs.enter_sum.Given as goal

abbrev pub invariant-loop-j : goal.invariant-loop-j
invariant-loop-j g l =
    let m = l.initial.m in
    l.m ≡ adding l.q l.n l.c l.to (part l.n 0 m) l.row m l.j
