-- `walk::read_row` meets its contract: after j turns the row's first j entries are read.
use Rattle.std.proofs.Common.{refl, ap, ◌∙◌, add-one, arith}
use Rattle.matrix.specs.Matrix.{entry}
use Rattle.walk.specs.Walk.{entered, row_read}
use Rattle.walk.proofs.Laws.RowRead.{row_read_lem, read-room}
use Rattle.walk.proofs.read_row.Goals as goal

pub loop-j-init : goal.loop-j-init
unfolding row_read
loop-j-init c = refl

pub enter-row-requires : goal.enter-row-requires
enter-row-requires c =
    let a = c.args in
    rw c.loop-j.invariant (read-room (row_read_lem a.n a.m.now a.i c.loop-j.j) (omega arith))

pub loop-j-preserved : goal.loop-j-preserved
unfolding row_read
loop-j-preserved c =
    let a = c.args in
    rw add-one (c.enter-row.ensures ∙ ap (λ r. entered r (entry a.n a.m.now a.i c.loop-j.j)) c.loop-j.invariant)
