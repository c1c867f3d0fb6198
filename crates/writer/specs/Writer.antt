-- The line writer: the lent buffer, and how far it is filled.
--   appended w piece == the writer after a piece: the same borrow, at the buffer with the piece where it fits, and the place after it
--   Wrote            == what each of the writer's functions answers, and the writer that it leaves
-- `at_last x l` is the reference x, its pointer and its ghost name with it, at the list l.
-- Assumes nothing.
use Rattle.std.specs.Prelude.{◌≡◌, Bool, List, ℕ, length}
use denote.Ref.{at_last}
use Rattle.text.specs.Piece.{fits, place_after, buffer_after}
use Rattle.writer.specs.declared.Writer.{Writer}

abbrev pub appended : Writer → List ℕ → Writer
appended w piece = record {
  buffer = at_last w.buffer (buffer_after w.buffer.now w.at piece);
  at = place_after (length w.buffer.now) w.at piece;
}

-- the writer and the piece that a function is given, whether it says that the piece fitted, and the writer that it leaves
abbrev pub Wrote : Writer → List ℕ → Bool → Writer → Type 0
Wrote w piece fitted after = (fitted ≡ fits (length w.buffer.now) w.at piece) × (after ≡ appended w piece)
