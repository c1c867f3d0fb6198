-- The bytes that a list of indexes is drawn to, part by part; no part of the meaning.
--   parts-length == there are as many of them as before
--   parts_at     == a place's part is what Draw leaves of it
--   parts_more   == the parts of one index more, as a loop draws them
-- Assumes nothing.
use Rattle.std.specs.Prelude.{◌≡◌, get_or}
use Rattle.std.proofs.Math.Path.{refl, ap, ap₂, sym}
use Rattle.std.proofs.Common.{◌∙◌, le_of_suc-le-suc, not-suc-le-zero, take-append-drop}
use mathlib.Core.List.{List, [], ◌∷◌, ◌++◌, append_assoc}
use Prim.Native.Nat.{ℕ, zero, suc, ◌+◌, ◌*◌, ◌<◌, ◌≤◌}
use Rattle.std.proofs.Math.Nat.{zero-mul}
use native.Mathlib.Omega.{arith}
use Rattle.std.proofs.Math.ListN.{length, take, drop, length-append, length-drop}
use Rattle.std.proofs.Math.Seq.{take_at, take-append-add, drop-append-add, length-take-le}
use Rattle.basics.specs.Laws.Parts.{part-next}
use Rattle.draw.specs.Draw.{draw_buffer}
use Rattle.draw.proofs.DrawLength.{draw-length}
use Rattle.draw_batch.specs.Batch.{draw_parts}

module _ (q n k t : ℕ) where
  pub parts-length : (indexes bytes : List ℕ) → length (draw_parts q n k t indexes bytes) ≡ length bytes
  unfolding draw_parts
  parts-length [] bytes = refl
  parts-length (i ∷ rest) bytes =
      length-append (draw_buffer q n k t i (take (k * n) bytes)) (draw_parts q n k t rest (drop (k * n) bytes))
      ∙ ap₂ ◌+◌ (draw-length q n k t i (take (k * n) bytes)) (parts-length rest (drop (k * n) bytes))
      ∙ sym (length-append (take (k * n) bytes) (drop (k * n) bytes))
      ∙ ap length (take-append-drop (k * n) bytes)

  -- what Draw leaves of the first part
  module _ (i : ℕ) (bytes : List ℕ) (h : k * n ≤ length bytes) where
    front : List ℕ
    front = draw_buffer q n k t i (take (k * n) bytes)

    front_length : length front ≡ k * n
    unfolding front
    front_length = draw-length q n k t i (take (k * n) bytes) ∙ length-take-le (k * n) bytes h

    take_beyond : (rest : List ℕ) (place : ℕ) → take (suc place * (k * n)) (front ++ rest) ≡ front ++ take (place * (k * n)) rest
    take_beyond rest place =
        let e : suc place * (k * n) ≡ length front + place * (k * n) = omega (arith, front_length) in
        ap (λ x. take x (front ++ rest)) e ∙ take-append-add front rest (place * (k * n))

    drop-beyond : (rest : List ℕ) (place : ℕ) → drop (suc place * (k * n)) (front ++ rest) ≡ drop (place * (k * n)) rest
    drop-beyond rest place =
        let e : suc place * (k * n) ≡ length front + place * (k * n) = omega (arith, front_length) in
        ap (λ x. drop x (front ++ rest)) e ∙ drop-append-add front rest (place * (k * n))

  pub parts_at : (indexes bytes : List ℕ) (place : ℕ) → place < length indexes → length indexes * (k * n) ≤ length bytes
      → take (k * n) (drop (place * (k * n)) (draw_parts q n k t indexes bytes))
      ≡ draw_buffer q n k t (get_or indexes place 0) (take (k * n) (drop (place * (k * n)) bytes))
  unfolding draw_parts front
  parts_at [] bytes place h room = absurd (not-suc-le-zero h)
  parts_at (i ∷ rest) bytes zero h room =
      let e : 0 * (k * n) ≡ 0 = zero-mul (k * n) in
      ap (λ x. take (k * n) (drop x (draw_parts q n k t (i ∷ rest) bytes))) e
      ∙ take_at (front i bytes (omega arith)) _ (k * n) (front_length i bytes (omega arith))
      ∙ ap (λ x. draw_buffer q n k t i (take (k * n) (drop x bytes))) (sym e)
  parts_at (i ∷ rest) bytes (suc place) h room =
      ap (take (k * n)) (drop-beyond i bytes (omega arith) (draw_parts q n k t rest (drop (k * n) bytes)) place)
      ∙ parts_at rest (drop (k * n) bytes) place (le_of_suc-le-suc h) (omega (arith, length-drop (k * n) bytes))
      ∙ ap (λ x. draw_buffer q n k t (get_or rest place 0) (take (k * n) x)) (part-next (k * n) bytes place)

  pub parts_more : (indexes bytes : List ℕ) (place : ℕ) → place < length indexes → length indexes * (k * n) ≤ length bytes
      → let drawn = draw_parts q n k t (take place indexes) bytes in
      let at = place * (k * n) in
      take at drawn ++ (draw_buffer q n k t (get_or indexes place 0) (take (k * n) (drop at drawn)) ++ drop (k * n) (drop at drawn))
      ≡ draw_parts q n k t (take (suc place) indexes) bytes
  unfolding draw_parts front
  parts_more [] bytes place h room = absurd (not-suc-le-zero h)
  parts_more (i ∷ rest) bytes zero h room =
      ap (λ x. take x bytes ++ (draw_buffer q n k t i (take (k * n) (drop x bytes)) ++ drop (k * n) (drop x bytes))) (zero-mul (k * n))
  parts_more (i ∷ rest) bytes (suc place) h room =
      let l : k * n ≤ length bytes = omega arith in
      let others = draw_parts q n k t (take place rest) (drop (k * n) bytes) in
      ap₂ (λ x y. x ++ (draw_buffer q n k t (get_or rest place 0) (take (k * n) y) ++ drop (k * n) y))
      (take_beyond i bytes l others place) (drop-beyond i bytes l others place)
      ∙ append_assoc (front i bytes l) _ _
      ∙ ap (λ x. front i bytes l ++ x)
      (parts_more rest (drop (k * n) bytes) place (le_of_suc-le-suc h) (omega (arith, length-drop (k * n) bytes)))
