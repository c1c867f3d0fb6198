-- What Draw answers for every input, and what it leaves in the lent buffer. Document 01:
--   draw_refusal  == "Draw, index to matrix: 1, 2, 3; 10 if the numbering is neither 1 nor 2; 4 if the lent buffer isn't exactly k×n
--                   bytes; 5 if the index is N or more"; 0 where none applies
--   draw_buffer   == the lent buffer afterwards: the drawn matrix, or what it held before where the call refuses
-- Assumes nothing.
use Rattle.std.specs.Prelude.{List, [], ◌∷◌, ℕ, ◌*◌, eqb, ltb, length}
use Rattle.refusal.specs.Refusal.{length_refusal, index_refusal, refuse_unless, first, unless_refused}
use Rattle.counts.specs.Gaussian.{gaussian}
use Rattle.numbering.specs.Numbering.{choice_refusal, drawn}

unfoldable pub draw_refusal : ℕ → ℕ → ℕ → ℕ → ℕ → ℕ → ℕ
draw_refusal q n k t i size =
    first
    (choice_refusal q n k t
    ∷ refuse_unless (eqb size (k * n)) length_refusal
    ∷ refuse_unless (ltb i (gaussian q n k)) index_refusal
    ∷ [])

unfoldable pub draw_buffer : ℕ → ℕ → ℕ → ℕ → ℕ → List ℕ → List ℕ
draw_buffer q n k t i buffer = unless_refused (draw_refusal q n k t i (length buffer)) (drawn q n k t i) buffer
