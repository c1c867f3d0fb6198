-- What the loop over the indexes keeps; no part of the meaning.
--   Drawing q n k t indexes bytes old matrices answers at place == the indexes before `place` are drawn: the matrices were `bytes`, and the
--                answers `old`; `at` is where the next part begins
--   drawing-start, -more, -end == it holds at the start and after one index more, and what it tells at the end
--   drawing-room == the next part lies within the matrices
-- Assumes nothing.
use Rattle.std.specs.Prelude.{◌≡◌, refl, List, ◌++◌, ℕ, ◌+◌, ◌*◌, ◌<◌, ◌≤◌, get_or}
use Rattle.std.proofs.Math.Path.{ap, ap₂, sym}
use Rattle.std.proofs.Common.{◌∙◌, zero-mul, add-one, arith, length-append, length-drop, length-take-le, take_all}
use Rattle.std.proofs.Math.ListN.{length, set, take, drop}
use Rattle.basics.specs.Table.{tabulate}
use Rattle.basics.specs.Laws.Flat.{row_fits}
use Rattle.basics.specs.Laws.TableSize.{tabulate-length}
use Rattle.basics.specs.Laws.TableWrite.{write-none, write-more, write-all}
use Rattle.draw.specs.Draw.{draw_buffer}
use Rattle.draw_batch.specs.Batch.{draw_parts, answer_at, draw_answers}
use Rattle.draw_batch.proofs.DrawParts.{parts-length, parts_more}

pub record Drawing (q n k t : ℕ) (indexes bytes old matrices answers : List ℕ) (at place : ℕ) : Type 0 where
  pub within : place ≤ length indexes
  pub start : at ≡ place * (k * n)
  pub drawn : matrices ≡ draw_parts q n k t (take place indexes) bytes
  pub answered : answers ≡ tabulate (answer_at q n k t indexes) 0 place ++ drop place old

module _ (q n k t : ℕ) (indexes bytes old : List ℕ) where
  pub drawing-start : Drawing q n k t indexes bytes old bytes old 0 0
  unfolding draw_parts
  drawing-start =
      record {
        within = omega arith;
        start = sym (zero-mul (k * n));
        drawn = refl;
        answered = write-none (answer_at q n k t indexes) old;
      }

  module _ (sized : length bytes ≡ length indexes * (k * n)) (counted : length old ≡ length indexes)
      (matrices answers : List ℕ) (at place : ℕ) (d : Drawing q n k t indexes bytes old matrices answers at place) where
    pub drawing-size : length matrices ≡ length bytes
    drawing-size = ap length d.drawn ∙ parts-length q n k t (take place indexes) bytes

    pub drawing-count : length answers ≡ length old
    drawing-count =
        ap length d.answered
        ∙ length-append (tabulate (answer_at q n k t indexes) 0 place) (drop place old)
        ∙ omega (arith, tabulate-length (answer_at q n k t indexes) 0 place, length-drop place old, d.within)

    pub drawing-end : length indexes ≤ place → (matrices ≡ draw_parts q n k t indexes bytes) × (answers ≡ draw_answers q n k t indexes)
    unfolding draw_answers
    drawing-end h =
        let all : place ≡ length indexes = omega (arith, d.within) in (
          d.drawn ∙ ap (λ x. draw_parts q n k t x bytes) (take_all place indexes h),
          d.answered ∙ write-all (answer_at q n k t indexes) old place (omega arith) ∙ ap (tabulate (answer_at q n k t indexes) 0) all,
        )

    -- the next part, of w bytes
    module _ (w : ℕ) (lent : w ≡ k * n) (more : place < length indexes) where
      pub drawing-room : at + w ≤ length matrices
      drawing-room = omega (arith, lent, d.start, row_fits place (length indexes) (k * n) more, drawing-size)

      pub drawing-part : length (take w (drop at matrices)) ≡ k * n
      drawing-part = length-take-le w (drop at matrices) (omega (arith, drawing-room, length-drop at matrices)) ∙ lent

      -- the matrices m with what Draw leaves of the y bytes from x on
      written : ℕ → ℕ → List ℕ → List ℕ
      written x y m = take x m ++ (draw_buffer q n k t (get_or indexes place 0) (take y (drop x m)) ++ drop y (drop x m))

      pub drawing-more : (part : List ℕ) (answer : ℕ)
          → part ≡ draw_buffer q n k t (get_or indexes place 0) (take w (drop at matrices)) → answer ≡ answer_at q n k t indexes place
          → Drawing q n k t indexes bytes old (take at matrices ++ (part ++ drop w (drop at matrices))) (set answers place answer)
          (at + k * n) (place + 1)
      unfolding written
      drawing-more part answer e r =
          record {
            within = omega (arith, more);
            start = omega (arith, d.start);
            drawn =
                ap (λ x. take at matrices ++ (x ++ drop w (drop at matrices))) e
                ∙ ap₂ (λ x y. written x y matrices) d.start lent
                ∙ ap (written (place * (k * n)) (k * n)) d.drawn
                ∙ parts_more q n k t indexes bytes place more (omega arith)
                ∙ ap (λ x. draw_parts q n k t (take x indexes) bytes) (sym (add-one place));
            answered =
                ap₂ (λ x y. set x place y) d.answered r
                ∙ write-more (answer_at q n k t indexes) old place (omega (arith, more));
          }
