-- `ferrers::tableau_of`: the number read so far, before the tableau of the shape that is left, makes up the whole.
use Rattle.std.proofs.Common.{◌-◌}
use Rattle.ferrers.proofs.TableauOf.{Reading}
use Rattle.ferrers.proofs.tableau_of.Given as goal

abbrev pub invariant-loop-j : goal.invariant-loop-j
invariant-loop-j l = Reading l.q l.n l.k l.m (l.n - l.j) l.rows l.tableau
