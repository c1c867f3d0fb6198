-- What Receive answers for every input. Document 01: "Receive, r rows to index: 1, 2, 3, 10, 13, 4 (input), 6; 8 if the span has fewer than
-- k dimensions; 9 if it has more."
--   rows_refusal    == the refusals before 6, for an input of `size` bytes
--   receive_refusal == those before 8; 0 where none applies
--   reduced_answer  == the answer for the span of r rows
--   receive_of      == what Receive answers
-- Assumes nothing.
use Rattle.std.specs.Prelude.{List, [], ◌∷◌, ℕ}
use Rattle.refusal.specs.Refusal.{first}
use Rattle.linear.specs.Span.{rows_of}
use Rattle.linear.specs.Eliminate.{reduced_of, dimension}
use Rattle.numbering.specs.Numbering.{choice_refusal}
use Rattle.reduce.specs.Reduce.{rows_size_refusal, row_list_refusal}
use Rattle.receive.specs.Answer.{Received, space_answer, received}

unfoldable pub rows_refusal : ℕ → ℕ → ℕ → ℕ → ℕ → ℕ → ℕ
rows_refusal q n k t r size = first (choice_refusal q n k t ∷ rows_size_refusal n r size ∷ [])

unfoldable pub receive_refusal : ℕ → ℕ → ℕ → ℕ → ℕ → List ℕ → ℕ
receive_refusal q n k t r input = first (choice_refusal q n k t ∷ row_list_refusal q n r input ∷ [])

abbrev pub reduced_answer : ℕ → ℕ → ℕ → ℕ → ℕ → List ℕ → Received
reduced_answer q n k t r input = space_answer q n k t (dimension q n (rows_of n r input)) (reduced_of q n (rows_of n r input))

unfoldable pub receive_of : ℕ → ℕ → ℕ → ℕ → ℕ → List ℕ → Received
receive_of q n k t r input = received (receive_refusal q n k t r input) (reduced_answer q n k t r input)
