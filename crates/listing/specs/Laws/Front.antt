-- Laws of what is written to a buffer's front; no part of the meaning.
--   written-length   == the buffer stays as long as it is
--   written-more, -part == a further piece behind, and a piece written to the first bytes of what is left
--   same_line        == what is said of a line, said of one that equals it
--   composed-line, -front == a line put together that has room stands at the front: of the buffer, or of one whose first bytes it is lent
-- Assumes nothing.
use Rattle.std.specs.Prelude.{◌≡◌, List, ◌++◌, ℕ, ◌+◌, ◌≤◌, length, take, drop}
use Rattle.std.proofs.Common.{ap, ◌∙◌, sym, append_assoc, arith, length-append, length-drop, take-append-drop, drop-drop}
use Rattle.std.proofs.lemmas.List.{drop-append-le}
use Rattle.text.specs.Piece.{joined, Composed}
use Rattle.text.proofs.Piece.{pieces-put}
use Rattle.listing.specs.Front.{written}

pub written-length : (start s : List ℕ) → length s ≤ length start → length (written s start) ≡ length start
written-length start s h = length-append s (drop (length s) start) ∙ ap (λ l. length s + l) (length-drop (length s) start) ∙ omega arith

-- a further piece behind what is written
pub written-more : (start s piece : List ℕ) → s ++ written piece (drop (length s) start) ≡ written (s ++ piece) start
written-more start s piece =
    sym (append_assoc s piece (drop (length piece) (drop (length s) start)))
    ∙ ap (λ t. s ++ piece ++ t) (drop-drop (length piece) (length s) start ∙ ap (λ i. drop i start) (sym (length-append s piece)))

-- a piece written to the first w bytes of what is left
pub written-part : (rest piece : List ℕ) (w : ℕ) → length piece ≤ length (take w rest)
    → written piece (take w rest) ++ drop w rest ≡ written piece rest
written-part rest piece w h =
    append_assoc piece (drop (length piece) (take w rest)) (drop w rest)
    ∙ ap (λ t. piece ++ t) (sym (drop-append-le (length piece) (take w rest) (drop w rest) h)
    ∙ ap (drop (length piece)) (take-append-drop w rest))

pub same_line : (line same : List ℕ) (size : ℕ) (buffer after : List ℕ) → line ≡ same
    → (size ≡ length line) × (after ≡ written line buffer) → (size ≡ length same) × (after ≡ written same buffer)
same_line line same size buffer after e r = (r.0 ∙ ap length e, r.1 ∙ ap (λ t. written t buffer) e)

-- a line that is put together, and has room, stands at the front
pub composed-line : (buffer : List ℕ) (pieces : List (List ℕ)) (line : List ℕ) (size : ℕ) (after : List ℕ) → joined pieces ≡ line
    → length line ≤ length buffer → Composed buffer pieces size after → (size ≡ length line) × (after ≡ written line buffer)
composed-line buffer pieces line size after e room c =
    same_line (joined pieces) line size buffer after e (pieces-put buffer pieces size after (rw e room) c)

pub composed-front : (buffer : List ℕ) (w : ℕ) (pieces : List (List ℕ)) (line : List ℕ) (size : ℕ) (after : List ℕ) → joined pieces ≡ line
    → length line ≤ length (take w buffer) → Composed (take w buffer) pieces size after
    → (size ≡ length line) × (after ++ drop w buffer ≡ written line buffer)
composed-front buffer w pieces line size after e room c =
    let r = composed-line (take w buffer) pieces line size after e room c in
    (r.0, ap (λ t. t ++ drop w buffer) r.1 ∙ written-part buffer line w room)
