-- A list of one index is Draw.
--   AsDraw      == the matrices are left as Draw leaves them, and Draw's number is the refusal of the whole, which leaves the answers, or,
--                  where there is none, the one answer
--   one-is-draw == it is so, whatever the input, with one answer byte
-- Assumes nothing.
use Rattle.std.specs.Prelude.{◌≡◌, refl, List, [], ◌∷◌, ℕ, ◌*◌, length, get_or, take, drop}
use Rattle.std.proofs.Common.{ap, sym, ◌∙◌, zero-mul, arith, take_all}
use Rattle.std.proofs.Math.Decide.{ℕ_discrete}
use Rattle.refusal.specs.Refusal.{length_refusal}
use Rattle.refusal.specs.Laws.First.{positive}
use Rattle.numbering.specs.Numbering.{choice_refusal}
use Rattle.draw.specs.Draw.{draw_refusal, draw_buffer}
use Rattle.draw.specs.Laws.DrawAccepted.{draw-choice, draw-sized, draw-kept}
use Rattle.draw_batch.specs.Batch.{batch_refusal, batch_matrices, batch_answers}
use Rattle.draw_batch.specs.Places.{part}
use Rattle.draw_batch.proofs.Theorems.{order-6}

single : (l : List ℕ) → length l ≡ 1 → l ≡ get_or l 0 0 ∷ []
single [] e = absurd (omega (arith, e))
single (x ∷ []) e = refl
single (x ∷ (y ∷ l)) e = absurd (omega (arith, e))

module _ (q n k t i : ℕ) (matrix answers : List ℕ) where
  abbrev returned : ℕ
  returned = batch_refusal q n k t 1 (length matrix) (length answers)

  abbrev left : List ℕ
  left = batch_matrices q n k t (i ∷ []) matrix (length answers)

  abbrev told : List ℕ
  told = batch_answers q n k t (i ∷ []) (length matrix) answers

  abbrev AsDraw : Type 0
  AsDraw =
      (left ≡ draw_buffer q n k t i matrix)
      × (returned ≡ 0 → told ≡ draw_refusal q n k t i (length matrix) ∷ [])
      × ((returned ≡ 0 → ⊥) → (returned ≡ draw_refusal q n k t i (length matrix)) × (told ≡ answers))

  -- the one part is the whole
  whole : (bytes : List ℕ) → length bytes ≡ k * n → part (k * n) 0 bytes ≡ bytes
  whole bytes e = ap (λ x. take (k * n) (drop x bytes)) (zero-mul (k * n)) ∙ take_all (k * n) bytes (omega (arith, e))

  -- a refusal of the whole that is Draw's too
  refused : (r : ℕ) → (r ≡ 0 → ⊥) → returned ≡ r → draw_refusal q n k t i (length matrix) ≡ r → AsDraw
  refused r some e d =
      let untouched = (order-6 q n k t (i ∷ []) matrix answers).1 (λ z. some (sym e ∙ z)) in (
        untouched.0 ∙ draw-kept q n k t i matrix (λ z. some (sym d ∙ z)),
        λ z. absurd (some (sym e ∙ z)),
        λ z. (e ∙ sym d, untouched.1),
      )

  -- no refusal of the whole
  drawn : choice_refusal q n k t ≡ 0 → returned ≡ 0 → AsDraw
  drawn c z =
      let all = order-6 q n k t (i ∷ []) matrix answers in
      let place = all.0 z 0 (omega arith) in
      let lengths = (all.3 c).0.0 z in
      let sized : length matrix ≡ k * n = omega (arith, lengths.0) in (
        sym (whole left (all.4 ∙ sized)) ∙ place.0 ∙ ap (draw_buffer q n k t i) (whole matrix sized),
        λ _.
            single told (all.5 ∙ lengths.1)
            ∙ ap (λ x. x ∷ []) (place.1 ∙ ap (λ b. draw_refusal q n k t i (length b)) (whole matrix sized)),
        λ o. absurd (o z),
      )

  pub one-is-draw : length answers ≡ 1 → AsDraw
  one-is-draw one = cases (ℕ_discrete (choice_refusal q n k t) 0) (ℕ_discrete (length matrix) (k * n))
    where
      cases : Dec (choice_refusal q n k t ≡ 0) → Dec (length matrix ≡ k * n) → AsDraw
      cases (no c) l =
          refused (choice_refusal q n k t) c ((order-6 q n k t (i ∷ []) matrix answers).2 c) (draw-choice q n k t i (length matrix) c)
      cases (yes c) (no l) =
          let lengths = (order-6 q n k t (i ∷ []) matrix answers).3 c in
          refused length_refusal (positive length_refusal tt) (lengths.1 (λ z. l (omega (arith, (lengths.0.0 z).0))))
          (draw-sized q n k t i (length matrix) c l)
      cases (yes c) (yes l) = drawn c (((order-6 q n k t (i ∷ []) matrix answers).3 c).0.1 (omega (arith, l), one))
