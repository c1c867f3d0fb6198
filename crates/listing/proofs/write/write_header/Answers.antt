-- The word is the line's, and has room in the 320 bytes that are lent.
use Rattle.std.proofs.Common.{[], ◌∷◌, refl, arith, length-take-le}
use Rattle.text.specs.Text.{line_feed}
use Rattle.listing.specs.Line.{line_room}
use Rattle.listing.specs.Listing.{column_names, header}
use Rattle.listing.specs.Laws.Front.{composed-front}
use Rattle.listing.proofs.write.write_header.Goals as goal

pub returns : goal.returns
unfolding column_names header
returns c =
    composed-front c.args.buffer.now line_room (column_names ∷ (line_feed ∷ []) ∷ []) header _ _ refl
    (omega (arith, length-take-le line_room c.args.buffer.now c.requires)) c.put_word.ensures
