-- Pieces of text put into a buffer that is filled up to some place. Document 01: "A piece that doesn't fit leaves both unchanged, and the
-- writer says so".
--   fits size at piece  == the piece has room between the place `at` and the buffer's end
--   place_after          == how far the buffer is filled afterwards
--   buffer_after         == the buffer afterwards
--   Appended            == what each function that puts a piece in answers, None where the piece does not fit, and what it leaves
--   joined pieces       == the pieces, one after the other
--   place_with, buffer_with == the place and the buffer after several pieces, each put in where it fits
--   Composed            == what a function that puts a line together answers and leaves: how far the buffer is filled, and the buffer
-- Theorems has what these come to: `piece-fits`, `piece-put` and `piece-refused`.
-- Assumes nothing.
use Rattle.std.specs.Prelude.{◌≡◌, Bool, Option, is_some, unwrap_or, List, [], ◌∷◌, ◌++◌, ℕ, ◌+◌, leb, length}
use Rattle.std.proofs.Math.Seq.{paste}
use Rattle.basics.specs.Choice.{pick}

abbrev pub fits : ℕ → ℕ → List ℕ → Bool
fits size at piece = leb (at + length piece) size

unfoldable pub place_after : ℕ → ℕ → List ℕ → ℕ
place_after size at piece = pick (fits size at piece) (at + length piece) at

unfoldable pub buffer_after : List ℕ → ℕ → List ℕ → List ℕ
buffer_after buffer at piece = pick (fits (length buffer) at piece) (paste buffer at piece (length piece)) buffer

-- the buffer, the place and the piece that a function is given, how far it says that the buffer is filled, and the buffer that it leaves
abbrev pub Appended : List ℕ → ℕ → List ℕ → Option ℕ → List ℕ → Type 0
Appended buffer at piece filled after =
    (unwrap_or filled at ≡ place_after (length buffer) at piece) × (is_some filled ≡ fits (length buffer) at piece)
    × (after ≡ buffer_after buffer at piece)

abbrev pub joined : List (List ℕ) → List ℕ
joined [] = []
joined (piece ∷ pieces) = piece ++ joined pieces

abbrev pub place_with : List ℕ → ℕ → List (List ℕ) → ℕ
place_with buffer at [] = at
place_with buffer at (piece ∷ pieces) = place_with (buffer_after buffer at piece) (place_after (length buffer) at piece) pieces

abbrev pub buffer_with : List ℕ → ℕ → List (List ℕ) → List ℕ
buffer_with buffer at [] = buffer
buffer_with buffer at (piece ∷ pieces) = buffer_with (buffer_after buffer at piece) (place_after (length buffer) at piece) pieces

abbrev pub Composed : List ℕ → List (List ℕ) → ℕ → List ℕ → Type 0
Composed buffer pieces size after = (size ≡ place_with buffer 0 pieces) × (after ≡ buffer_with buffer 0 pieces)
