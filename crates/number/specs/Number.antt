-- What Number answers for every input. Document 01: "Number, matrix to index: 1, 2, 3, 10, 4; 6 if an entry is q or more; 7 if the matrix
-- isn't reduced."
--   entries_refusal == the refusals before 7
--   number_refusal  == all of them; 0 where none applies
--   answer_of r t i == what Number and Convert answer: the index i of the numbering t, or the refusal r where it is one
--   number_of       == what Number answers
--   answer_number, answer_index == document 01's refusal number and index of each case of an answer
-- Assumes nothing.
use Rattle.std.specs.Prelude.{List, [], ◌∷◌, ℕ, ◌*◌, eqb, length, Result, Ok, Err}
use Rattle.refusal.specs.Refusal.{length_refusal, entry_refusal, not_reduced_refusal, refuse_unless, first, number, answered}
use Rattle.refusal.specs.declared.Refusal.{Refusal}
use Rattle.matrix.specs.Matrix.{entries_below, is_reduced}
use Rattle.numbering.specs.Numbering.{choice_refusal, index_of, index_in, index_value}
use Rattle.numbering.specs.declared.Index.{Index}

unfoldable pub entries_refusal : ℕ → ℕ → ℕ → ℕ → List ℕ → ℕ
entries_refusal q n k t m =
    first
    (choice_refusal q n k t
    ∷ refuse_unless (eqb (length m) (k * n)) length_refusal
    ∷ refuse_unless (entries_below q m) entry_refusal
    ∷ [])

unfoldable pub number_refusal : ℕ → ℕ → ℕ → ℕ → List ℕ → ℕ
number_refusal q n k t m = first (entries_refusal q n k t m ∷ refuse_unless (is_reduced n k m) not_reduced_refusal ∷ [])

abbrev pub answer_of : ℕ → ℕ → ℕ → Result Index Refusal
answer_of refusal t i = answered refusal (index_in t i)

unfoldable pub number_of : ℕ → ℕ → ℕ → ℕ → List ℕ → Result Index Refusal
number_of q n k t m = answer_of (number_refusal q n k t m) t (index_of q n k t m)

abbrev pub answer_number : Result Index Refusal → ℕ
answer_number (Ok i) = 0
answer_number (Err r) = number r

abbrev pub answer_index : Result Index Refusal → ℕ
answer_index (Ok i) = index_value i
answer_index (Err r) = 0
