-- `has_room` decides `fits`, and `fits` decides the rest.
use Rattle.std.proofs.Common.{◌∙◌, sym}
use Rattle.text.proofs.Piece.{refused, fitted, copied}
use Rattle.text.proofs.append.append.Goals as goal

pub returns-then-not-has_room : goal.returns-then-not-has_room
returns-then-not-has_room c =
    refused c.args.buffer.now c.args.at c.args.piece.now (sym c.has_room.ensures ∙ c.if-not-has_room.true)

pub returns : goal.returns
returns c =
    let f = fitted c.args.buffer.now c.args.at c.args.piece.now (sym c.has_room.ensures ∙ c.if-not-has_room.false) in
    (f.0, f.1, copied _ _ _ _ c.copy_from_slice.ensures.after ∙ f.2)
