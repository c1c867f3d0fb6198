-- What drawing a list of indexes with the same settings answers for every input, and what it leaves in the two lent buffers. Order 6: "It
-- lends a list of indexes, a matrix buffer of k×n bytes for each, and one answer byte for each. Every place gets what Draw alone gives: the
-- matrix and 0, or 5 with its part of the buffer untouched. An empty list is fine."
--   batch_refusal   == "It refuses as a whole, touching nothing, with 1, 2, 3, 10, and then 4 if either buffer isn't exactly as long as the
--                     list needs": k×n bytes for each index, then one for each; 0 where none applies
--   draw_parts      == the first k×n bytes are what Draw leaves of them for the first index, and so on with the rest
--   answer_at       == Draw's answer for the index at a place, counted from 0, and a buffer of k×n bytes
--   draw_answers    == the answers of all places
--   batch_matrices, batch_answers == the two lent buffers afterwards
-- Assumes nothing.
use Rattle.std.specs.Prelude.{List, [], ◌∷◌, ◌++◌, ℕ, ◌*◌, eqb, length, get_or, take, drop}
use Rattle.basics.specs.Table.{tabulate}
use Rattle.refusal.specs.Refusal.{length_refusal, refuse_unless, first, unless_refused}
use Rattle.numbering.specs.Numbering.{choice_refusal}
use Rattle.draw.specs.Draw.{draw_refusal, draw_buffer}

unfoldable pub batch_refusal : ℕ → ℕ → ℕ → ℕ → ℕ → ℕ → ℕ → ℕ
batch_refusal q n k t count matrices_size answers_size =
    first
    (choice_refusal q n k t
    ∷ refuse_unless (eqb matrices_size (count * (k * n))) length_refusal
    ∷ refuse_unless (eqb answers_size count) length_refusal
    ∷ [])

unfoldable pub draw_parts : ℕ → ℕ → ℕ → ℕ → List ℕ → List ℕ → List ℕ
draw_parts q n k t [] bytes = bytes
draw_parts q n k t (i ∷ rest) bytes = draw_buffer q n k t i (take (k * n) bytes) ++ draw_parts q n k t rest (drop (k * n) bytes)

abbrev pub answer_at : ℕ → ℕ → ℕ → ℕ → List ℕ → ℕ → ℕ
answer_at q n k t indexes place = draw_refusal q n k t (get_or indexes place 0) (k * n)

unfoldable pub draw_answers : ℕ → ℕ → ℕ → ℕ → List ℕ → List ℕ
draw_answers q n k t indexes = tabulate (answer_at q n k t indexes) 0 (length indexes)

unfoldable pub batch_matrices : ℕ → ℕ → ℕ → ℕ → List ℕ → List ℕ → ℕ → List ℕ
batch_matrices q n k t indexes matrices answers_size =
    unless_refused (batch_refusal q n k t (length indexes) (length matrices) answers_size) (draw_parts q n k t indexes matrices) matrices

unfoldable pub batch_answers : ℕ → ℕ → ℕ → ℕ → List ℕ → ℕ → List ℕ → List ℕ
batch_answers q n k t indexes matrices_size answers =
    unless_refused (batch_refusal q n k t (length indexes) matrices_size (length answers)) (draw_answers q n k t indexes) answers
