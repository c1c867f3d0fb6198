-- A Draw that is not refused; no part of the meaning.
--   DrawAccepted q n k t i size == Chosen, a buffer of k×n bytes, an index below N
--   draw-accepted, draw-unrefused == what is not refused is DrawAccepted; and back
--   draw-choice, draw-sized, draw-beyond == a choice that is refused is refused so; else a wrong length 4; else an index of N or more 5
--   draw-leaves, draw-kept      == what an unrefused Draw leaves, and a refused one
-- Assumes nothing.
use Rattle.std.specs.Prelude.{◌≡◌, ℕ, ◌*◌, ◌<◌, ◌≤◌, eqb, ltb, length}
use Rattle.std.proofs.Common.{◌∙◌}
use mathlib.Core.List.{List, [], ◌∷◌}
use borrow.Author.Tests.{eq-eqb, ne_eqb, eqb-true, lt-ltb, le-ltb, ltb-true}
use Rattle.refusal.specs.Refusal.{refuse_unless, length_refusal, index_refusal}
use Rattle.refusal.specs.Laws.First.{first-zero, first-refused, first-passed, test_zero, test-passed, test-refused, first-none, done, kept}
use Rattle.counts.specs.Gaussian.{gaussian}
use Rattle.numbering.specs.Numbering.{choice_refusal, drawn}
use Rattle.numbering.specs.Laws.Chosen.{Chosen, chosen}
use Rattle.draw.specs.Draw.{draw_refusal, draw_buffer}

pub record DrawAccepted (q n k t i size : ℕ) : Type 0 where
  pub choice : Chosen q n k t
  pub sized : size ≡ k * n
  pub inside : i < gaussian q n k

module _ (q n k t i : ℕ) where
  pub draw-accepted : (size : ℕ) → draw_refusal q n k t i size ≡ 0 → DrawAccepted q n k t i size
  unfolding draw_refusal
  draw-accepted size e =
      let last = refuse_unless (ltb i (gaussian q n k)) index_refusal ∷ [] in
      let c = first-zero (choice_refusal q n k t) (refuse_unless (eqb size (k * n)) length_refusal ∷ last) e in
      let l = test_zero (eqb size (k * n)) length_refusal last tt c.1 in
      record {
        choice = chosen q n k t c.0;
        sized = eqb-true size (k * n) l.0;
        inside = ltb-true i (gaussian q n k) (test_zero (ltb i (gaussian q n k)) index_refusal [] tt l.1).0;
      }

  pub draw-unrefused : (size : ℕ) → choice_refusal q n k t ≡ 0 → size ≡ k * n → i < gaussian q n k → draw_refusal q n k t i size ≡ 0
  unfolding draw_refusal
  draw-unrefused size c l h =
      first-passed _ _ c ∙ test-passed _ _ _ (eq-eqb size (k * n) l) ∙ test-passed _ _ _ (lt-ltb i (gaussian q n k) h) ∙ first-none

  pub draw-choice : (size : ℕ) → (choice_refusal q n k t ≡ 0 → ⊥) → draw_refusal q n k t i size ≡ choice_refusal q n k t
  unfolding draw_refusal
  draw-choice size c = first-refused _ _ c

  pub draw-sized : (size : ℕ) → choice_refusal q n k t ≡ 0 → (size ≡ k * n → ⊥) → draw_refusal q n k t i size ≡ length_refusal
  unfolding draw_refusal
  draw-sized size c l = first-passed _ _ c ∙ test-refused _ _ _ tt (ne_eqb size (k * n) l)

  pub draw-beyond : (size : ℕ) → choice_refusal q n k t ≡ 0 → size ≡ k * n → gaussian q n k ≤ i
      → draw_refusal q n k t i size ≡ index_refusal
  unfolding draw_refusal
  draw-beyond size c l h =
      first-passed _ _ c ∙ test-passed _ _ _ (eq-eqb size (k * n) l) ∙ test-refused _ _ _ tt (le-ltb i (gaussian q n k) h)

  pub draw-leaves : (b : List ℕ) → draw_refusal q n k t i (length b) ≡ 0 → drawn q n k t i ≡ draw_buffer q n k t i b
  unfolding draw_buffer
  draw-leaves b e = done _ _ _ e

  pub draw-kept : (b : List ℕ) → (draw_refusal q n k t i (length b) ≡ 0 → ⊥) → b ≡ draw_buffer q n k t i b
  unfolding draw_buffer
  draw-kept b z = kept _ _ _ z
