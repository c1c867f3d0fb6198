-- Parts of a flat matrix, read and replaced; no part of the meaning.
--   part-front, rows-front == what is read from the front of a list does not see what follows
--   pasted         == a row copied to its place
--   put-length     == the length stays
--   part-put       == what was put is read
--   before-put, rows-put, taken-put == what lies before it is as it was
--   after-put      == so is what lies after it
--   put-put        == what is put last is left
-- Assumes nothing.
use Rattle.std.specs.Prelude.{◌≡◌, refl, List, ◌∷◌, ◌++◌, ℕ, zero, suc, ◌+◌, ◌*◌, ◌-◌, ◌≤◌, length, take, drop}
use Rattle.std.proofs.Common.{ap, ap₂, sym, ◌∙◌, append_assoc, arith, length-append, length-drop, take-append-drop, length-take-le, take_at, drop_at, drop-drop}
use Rattle.std.proofs.lemmas.List.{take-append-le, drop-append-le}
use Rattle.std.proofs.Math.Seq.{drop-append-add, take-length, paste}
use Rattle.linear.specs.Span.{rows_of}
use Rattle.rows.specs.Laws.Steps.{part, put}

pub part-front : (n at : ℕ) (front rest : List ℕ) → at + n ≤ length front → part n at (front ++ rest) ≡ part n at front
part-front n at front rest h =
    ap (take n) (drop-append-le at front rest (omega arith)) ∙ take-append-le n (drop at front) rest (omega (arith, length-drop at front))

pub rows-front : (n d : ℕ) (front rest : List ℕ) → d * n ≤ length front → rows_of n d (front ++ rest) ≡ rows_of n d front
unfolding rows_of
rows-front n zero front rest h = refl
rows-front n (suc d) front rest h =
    ap₂ (λ x y. x ∷ y) (take-append-le n front rest (omega arith))
    (ap (rows_of n d) (drop-append-le n front rest (omega arith)) ∙ rows-front n d (drop n front) rest (omega (arith, length-drop n front)))

pub pasted : (n at : ℕ) (w m : List ℕ) → length w ≡ n → paste m at w (length w) ≡ put n at w m
pasted n at w m e =
    append_assoc (take at m) (take (length w) w) (drop (at + length w) m)
    ∙ ap₂ (λ x y. take at m ++ (x ++ drop (at + y) m)) (take-length w) e

module _ (n at : ℕ) (w m : List ℕ) (lw : length w ≡ n) (fits : at + n ≤ length m) where
  front : length (take at m) ≡ at
  front = length-take-le at m (omega arith)

  pub put-length : length (put n at w m) ≡ length m
  put-length =
      length-append (take at m) (w ++ drop (at + n) m) ∙ omega (arith, front, length-append w (drop (at + n) m), length-drop (at + n) m)

  pub part-put : part n at (put n at w m) ≡ w
  part-put = ap (take n) (drop_at (take at m) (w ++ drop (at + n) m) at front) ∙ take_at w (drop (at + n) m) n lw

  pub before-put : (k a : ℕ) → a + k ≤ at → part k a (put n at w m) ≡ part k a m
  before-put k a h =
      part-front k a (take at m) (w ++ drop (at + n) m) (omega (arith, front))
      ∙ sym (part-front k a (take at m) (drop at m) (omega (arith, front))) ∙ ap (part k a) (take-append-drop at m)

  pub rows-put : (d : ℕ) → d * n ≤ at → rows_of n d (put n at w m) ≡ rows_of n d m
  rows-put d h =
      rows-front n d (take at m) (w ++ drop (at + n) m) (omega (arith, front))
      ∙ sym (rows-front n d (take at m) (drop at m) (omega (arith, front))) ∙ ap (rows_of n d) (take-append-drop at m)

  pub taken-put : (k : ℕ) → k ≤ at → take k (put n at w m) ≡ take k m
  taken-put k h =
      take-append-le k (take at m) (w ++ drop (at + n) m) (omega (arith, front))
      ∙ sym (take-append-le k (take at m) (drop at m) (omega (arith, front))) ∙ ap (take k) (take-append-drop at m)

  pub after-put : (k : ℕ) → at + n ≤ k → drop k (put n at w m) ≡ drop k m
  after-put k h =
      let one : length (take at m) + (k - at) ≡ k = omega (arith, front) in
      let two : length w + (k - at - n) ≡ k - at = omega arith in
      let three : at + n + (k - at - n) ≡ k = omega arith in
      ap (λ x. drop x (put n at w m)) (sym one) ∙ drop-append-add (take at m) (w ++ drop (at + n) m) (k - at)
      ∙ ap (λ x. drop x (w ++ drop (at + n) m)) (sym two) ∙ drop-append-add w (drop (at + n) m) (k - at - n)
      ∙ drop-drop (k - at - n) (at + n) m ∙ ap (λ x. drop x m) three

  pub put-put : (u : List ℕ) → put n at u (put n at w m) ≡ put n at u m
  put-put u = ap₂ (λ x y. x ++ (u ++ y)) (taken-put at (omega arith)) (after-put (at + n) (omega arith))
