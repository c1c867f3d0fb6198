use Rattle.std.proofs.Common.{refl, ap₂, ◌∙◌, add-one}
use Rattle.walk.specs.Walk.{ended, walked}
use Rattle.walk.proofs.Laws.Ended.{room-walked}
use Rattle.walk.proofs.rows.Goals as goal

pub loop-i-init : goal.loop-i-init
unfolding walked
loop-i-init c = refl

pub end_row-walk-requires : goal.end_row-walk-requires
end_row-walk-requires c =
    let a = c.args in
    (c.requires.0, rw c.loop-i.invariant (room-walked 32 a.n a.m.now c.loop-i.i))

pub loop-i-preserved : goal.loop-i-preserved
unfolding walked
loop-i-preserved c = rw add-one (c.end_row-walk.ensures ∙ ap₂ (ended 32 c.args.n) c.loop-i.invariant c.read_row.ensures)
