use Rattle.matrix.specs.Laws.WriteColumn.{written-unit}
use Rattle.matrix.proofs.write_pivot.Goals as goal

pub returns : goal.returns
returns c = let p = c.requires in written-unit _ _ _ _ _ p.0 p.1 p.2 p.3
