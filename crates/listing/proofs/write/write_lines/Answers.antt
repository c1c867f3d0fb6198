-- Each line passed is at most 276 bytes long, so that the next has its 320 bytes of room.
use Rattle.std.proofs.Common.{◌≡◌, ◌+◌, ◌-◌, refl, arith}
use Rattle.listing.specs.Line.{line_room}
use Rattle.listing.specs.Laws.WriteLines.{filling-start, filling-room, filling-more}
use Rattle.listing.proofs.write.write_lines.Goals as goal

pub loop-index-init : goal.loop-index-init
loop-index-init c = filling-start _ _ _ _ _ _ c.requires.1

pub slice_bounds-write_space-end : goal.slice_bounds-write_space-end
slice_bounds-write_space-end c =
    (filling-room _ _ _ _ _ _ _ _ _ c.loop-index.invariant c.requires.0 c.requires.2 c.requires.3 c.requires.4 line_room refl
    c.loop-index-test.true).0

pub loop-index-preserved : goal.loop-index-preserved
loop-index-preserved c =
    let lent : c.loop-index.at + line_room - c.loop-index.at ≡ line_room = omega arith in
    filling-more _ _ _ _ _ _ _ _ _ c.loop-index.invariant c.requires.0 c.requires.2 c.requires.3 c.requires.4 _ lent
    c.loop-index-test.true _ _ c.write_space-at.ensures.0 c.write_space-at.ensures.1
