-- Laws of putting pieces in; no part of the meaning.
--   refused, fitted    == what `append` answers and leaves of a piece that has no room, and of one that has
--   buffer_after-length, buffer_with-length == the buffer stays as long as it is
--   room-decided       == the code's two tests of the room are the one of `fits`
--   front-put          == the front of a buffer in which two pieces are put one after the other
--   copied             == what `append` leaves, where the buffer's bytes become the piece's
--   with-room          == pieces that have room together stand one after the other
--   pieces-put         == so at the buffer's front, with the rest as it was
-- Assumes nothing.
use Rattle.std.specs.Prelude.{◌≡◌, refl, Bool, true, false, List, [], ◌∷◌, ◌++◌, ℕ, ◌+◌, ◌-◌, ◌≤◌, leb, length, take, drop}
use Rattle.std.proofs.Common.{Some, None, ap, ap₂, ◌∙◌, append_assoc, append-nil, ⊎_elim, add-zero, zero-add, add_assoc, le_refl, arith, le-leb, length-append, drop-drop, take_at}
use Rattle.std.proofs.Math.Path.{sym}
use Rattle.std.proofs.lemmas.Bool.{lt-leb}
use Rattle.std.proofs.Math.Seq.{paste, paste-zero, take-length}
use Rattle.std.proofs.lemmas.List.Edits.{take-paste, drop-paste, length-paste}
use Rattle.basics.specs.Laws.Order.{le-or-lt}
use Rattle.text.specs.Piece.{fits, place_after, buffer_after, joined, place_with, buffer_with, Appended, Composed}
use Rattle.text.proofs.Theorems.{piece-fits, fits-piece}

module _ (buffer : List ℕ) (at : ℕ) (piece : List ℕ) where
  pub refused : fits (length buffer) at piece ≡ false → Appended buffer at piece None buffer
  unfolding place_after buffer_after
  refused e = (simp e, sym e, simp e)

  pub fitted : fits (length buffer) at piece ≡ true
      → Appended buffer at piece (Some (at + length piece)) (paste buffer at piece (length piece))
  unfolding place_after buffer_after
  fitted e = (simp e, sym e, simp e)

pub buffer_after-length : (buffer : List ℕ) (at : ℕ) (piece : List ℕ) → length (buffer_after buffer at piece) ≡ length buffer
buffer_after-length buffer at piece = cases (fits (length buffer) at piece) refl
  where
    cases : (b : Bool) → fits (length buffer) at piece ≡ b → length (buffer_after buffer at piece) ≡ length buffer
    cases false e = ap length (sym (refused buffer at piece e).2)
    cases true e =
        ap length (sym (fitted buffer at piece e).2)
        ∙ length-paste buffer at piece (length piece) (fits-piece (length buffer) at piece e) (le_refl (length piece))

pub buffer_with-length : (buffer : List ℕ) (at : ℕ) (pieces : List (List ℕ)) → length (buffer_with buffer at pieces) ≡ length buffer
buffer_with-length buffer at [] = refl
buffer_with-length buffer at (piece ∷ pieces) =
    buffer_with-length (buffer_after buffer at piece) (place_after (length buffer) at piece) pieces ∙ buffer_after-length buffer at piece

-- one piece after the other, or both at once
paste-paste : (b : List ℕ) (at : ℕ) (p c : List ℕ) → at + length p + length c ≤ length b
    → paste (paste b at p (length p)) (at + length p) c (length c) ≡ paste b at (p ++ c) (length (p ++ c))
paste-paste b at p c h =
    ap₂ (λ x y. x ++ take (length c) c ++ y)
    (take-paste b at p (length p) (omega arith) (le_refl (length p)))
    (sym (drop-drop (length c) (at + length p) (paste b at p (length p)))
    ∙ ap (drop (length c)) (drop-paste b at p (length p) (omega arith) (le_refl (length p)))
    ∙ drop-drop (length c) (at + length p) b)
    ∙ rw (take-length p, take-length c, take-length (p ++ c), length-append p c)
    (ap₂ (λ x y. x ++ drop y b) (append_assoc (take at b) p c) (add_assoc at (length p) (length c)))

pub with-room : (b : List ℕ) (at : ℕ) (pieces : List (List ℕ)) → at + length (joined pieces) ≤ length b
    → (place_with b at pieces ≡ at + length (joined pieces)) × (buffer_with b at pieces ≡ paste b at (joined pieces) (length (joined pieces)))
with-room b at [] h = (sym (add-zero at), paste-zero b at [])
with-room b at (p ∷ pieces) h =
    let c = joined pieces in
    let sum : length (p ++ c) ≡ length p + length c = length-append p c in
    let f = fitted b at p (piece-fits (length b) at p (omega arith)) in
    let more = with-room (buffer_after b at p) (place_after (length b) at p) pieces (omega (arith, buffer_after-length b at p, f.0)) in (
      more.0 ∙ omega (arith, f.0),
      more.1 ∙ ap₂ (λ x y. paste x y c (length c)) (sym f.2) (sym f.0) ∙ paste-paste b at p c (omega arith),
    )

pub pieces-put : (buffer : List ℕ) (pieces : List (List ℕ)) (size : ℕ) (after : List ℕ) → length (joined pieces) ≤ length buffer
    → Composed buffer pieces size after → (size ≡ length (joined pieces)) × (after ≡ joined pieces ++ drop (length (joined pieces)) buffer)
pieces-put buffer pieces size after h c =
    let r = with-room buffer 0 pieces (rw (zero-add (length (joined pieces))) h) in (
      c.0 ∙ r.0 ∙ zero-add (length (joined pieces)),
      c.1 ∙ r.1 ∙ ap₂ (λ p i. p ++ drop i buffer) (take-length (joined pieces)) (zero-add (length (joined pieces))),
    )

-- a piece copied over the bytes from a place on
pub copied : (buffer : List ℕ) (at : ℕ) (piece part : List ℕ) → part ≡ piece
    → take at buffer ++ (part ++ drop (at + length piece - at) (drop at buffer)) ≡ paste buffer at piece (length piece)
copied buffer at piece part e =
    let size : at + length piece - at ≡ length piece = omega arith in
    rw (e, size, drop-drop, take-length) (sym (append_assoc (take at buffer) piece (drop (at + length piece) buffer)))

pub room-decided : (size at length : ℕ) → at ≤ size → leb length (size - at) ≡ leb (at + length) size
room-decided size at length h =
    ⊎_elim (λ l. le-leb length (size - at) (omega arith) ∙ sym (le-leb (at + length) size l))
    (λ g. lt-leb length (size - at) (omega arith) ∙ sym (lt-leb (at + length) size g)) (le-or-lt (at + length) size)

pub front-put : (buffer : List ℕ) (p : List ℕ) (q : List ℕ) (place : ℕ) (middle : List ℕ) (size : ℕ) (after : List ℕ)
    → length p + length q ≤ length buffer
    → place ≡ place_after (length buffer) 0 p → middle ≡ buffer_after buffer 0 p
    → size ≡ place_after (length middle) place q → after ≡ buffer_after middle place q → take size after ≡ p ++ q
front-put buffer p q place middle size after h at b s a =
    let whole : joined (p ∷ q ∷ []) ≡ p ++ q = ap (λ t. p ++ t) (append-nil q) in
    let room : length (joined (p ∷ q ∷ [])) ≤ length buffer = omega (arith, ap length whole, length-append p q) in
    let r = pieces-put buffer (p ∷ q ∷ []) size after room
    (s ∙ ap₂ (λ m l. place_after (length m) l q) b at, a ∙ ap₂ (λ m l. buffer_after m l q) b at) in
    ap (take size) r.1 ∙ take_at (joined (p ∷ q ∷ [])) (drop (length (joined (p ∷ q ∷ []))) buffer) size (sym r.0) ∙ whole
