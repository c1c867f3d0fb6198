-- `ferrers::place_of`: the diagrams that come before by the columns passed and by the shape that is left make up the place.
use Rattle.std.proofs.Common.{◌-◌}
use Rattle.ferrers.proofs.PlaceOf.{Placing}
use Rattle.ferrers.proofs.place_of.Given as goal

abbrev pub invariant-loop-j : goal.invariant-loop-j
invariant-loop-j l = Placing l.q l.n l.k l.m (l.n - l.j) l.rows l.left l.place
