-- What the definitions of Piece come to. Document 01: "A piece that doesn't fit leaves both unchanged, and the writer says so".
--   piece-fits, fits-piece == a piece fits exactly where the filled bytes and its own are at most the buffer's: one that just fills it fits
--   piece-put         == a piece that fits stands whole behind the filled bytes, every other byte is as it was, and the place moves past it
--   piece-refused     == one that is a byte too long, or longer, leaves the buffer and the place as they were, and this is what is said
-- Assumes nothing.
use Rattle.std.specs.Prelude.{◌≡◌, true, false, List, ◌++◌, ℕ, ◌+◌, ◌≤◌, ◌<◌}
use Rattle.std.proofs.Math.Path.{ap}
use Rattle.std.proofs.Common.{arith}
use borrow.Author.Tests.{le-leb, lt-leb, leb-true}
use Rattle.std.proofs.Math.ListN.{length, take, drop}
use Rattle.std.proofs.Math.Seq.{paste, take-length}
use Rattle.text.specs.Piece.{fits, place_after, buffer_after}

pub piece-fits : (size at : ℕ) (piece : List ℕ) → at + length piece ≤ size → fits size at piece ≡ true
piece-fits size at piece h = le-leb (at + length piece) size h

pub fits-piece : (size at : ℕ) (piece : List ℕ) → fits size at piece ≡ true → at + length piece ≤ size
fits-piece size at piece e = omega (arith, leb-true _ size e)

module _ (buffer : List ℕ) (at : ℕ) (piece : List ℕ) where
  pub piece-put : at + length piece ≤ length buffer
      → (fits (length buffer) at piece ≡ true) × (place_after (length buffer) at piece ≡ at + length piece)
      × (buffer_after buffer at piece ≡ take at buffer ++ piece ++ drop (at + length piece) buffer)
  unfolding place_after buffer_after
  piece-put h =
      let yes = piece-fits (length buffer) at piece h in
      let whole : paste buffer at piece (length piece) ≡ take at buffer ++ piece ++ drop (at + length piece) buffer =
      ap (λ p. take at buffer ++ p ++ drop (at + length piece) buffer) (take-length piece) in
      (yes, simp yes, simp yes whole)

  pub piece-refused : length buffer < at + length piece
      → (fits (length buffer) at piece ≡ false) × (place_after (length buffer) at piece ≡ at) × (buffer_after buffer at piece ≡ buffer)
  unfolding place_after buffer_after
  piece-refused h = let no = lt-leb (at + length piece) (length buffer) h in (no, simp no, simp no)
