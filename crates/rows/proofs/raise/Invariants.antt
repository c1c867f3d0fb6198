-- Row d stands at row i.
use Rattle.std.proofs.Common.{◌≡◌, ◌*◌, ◌≤◌}
use Rattle.rows.specs.Laws.Steps.{raised}
use Rattle.rows.proofs.raise.Given as goal

abbrev pub invariant-loop-i : goal.invariant-loop-i
invariant-loop-i l = (l.at ≤ l.i) × (l.m ≡ raised l.n (l.d * l.n) (l.i * l.n) l.initial.m)
