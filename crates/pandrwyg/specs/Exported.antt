-- What Receive answers C for every input, and what it leaves in the lent answer. Document 01: "These return the refusal number, 0 for done.
-- Receive's answer is a lent buffer of nine bytes: the index, least byte first, then the dimension. A wrong length there is 4, tested after
-- the input's. On 8 and 9 the index bytes are 0 and the ninth is the dimension; any other refusal leaves the nine bytes unchanged."
-- Order 2: "The C answer of Receive becomes eleven bytes, the vector last, least byte first; demand 1's exception for 8 and 9 covers it
-- too."
--   answer_size       == eleven
--   bytes_of size x   == the number x in so many bytes, least first
--   answer_bytes i d v == the eleven bytes: the index i in eight, the dimension d in one, the identifying vector v in two
--   left_bytes answer a == what the answer a leaves in the lent answer
--   exported_refusal  == the refusals before 8, with a lent answer of `size` bytes; exported_number == all of them
--   exported_of       == the answer; exported_bytes == the lent answer afterwards
-- Assumes nothing.
use Rattle.std.specs.Prelude.{List, [], ◌∷◌, ◌++◌, ℕ, zero, suc, ◌/◌, ◌%◌, eqb, length, Ok, Err}
use Rattle.refusal.specs.Refusal.{length_refusal, entry_refusal, refuse_unless, first}
use Rattle.matrix.specs.Matrix.{entries_below}
use Rattle.linear.specs.Span.{rows_of}
use Rattle.linear.specs.Eliminate.{dimension}
use Rattle.numbering.specs.Numbering.{index_value}
use Rattle.receive.specs.Answer.{Received, received, space_refusal}
use Rattle.receive.specs.Receive.{rows_refusal, reduced_answer}
use Rattle.receive.specs.declared.Unreceived.TheVariants.{TooFew, TooMany, Refused}

abbrev pub answer_size : ℕ
answer_size = 11

unfoldable pub bytes_of : ℕ → ℕ → List ℕ
bytes_of zero x = []
bytes_of (suc size) x = x % 256 ∷ bytes_of size (x / 256)

abbrev pub answer_bytes : ℕ → ℕ → ℕ → List ℕ
answer_bytes i d v = bytes_of 8 i ++ (d ∷ bytes_of 2 v)

abbrev pub left_bytes : List ℕ → Received → List ℕ
left_bytes answer (Ok (i, s)) = answer_bytes (index_value i) s.dimension s.vector
left_bytes answer (Err (TooFew s)) = answer_bytes 0 s.dimension s.vector
left_bytes answer (Err (TooMany s)) = answer_bytes 0 s.dimension s.vector
left_bytes answer (Err (Refused r)) = answer

unfoldable pub exported_refusal : ℕ → ℕ → ℕ → ℕ → ℕ → List ℕ → ℕ → ℕ
exported_refusal q n k t r input size =
    first
    (rows_refusal q n k t r (length input)
    ∷ refuse_unless (eqb size answer_size) length_refusal
    ∷ refuse_unless (entries_below q input) entry_refusal
    ∷ [])

unfoldable pub exported_number : ℕ → ℕ → ℕ → ℕ → ℕ → List ℕ → ℕ → ℕ
exported_number q n k t r input size =
    first (exported_refusal q n k t r input size ∷ space_refusal k (dimension q n (rows_of n r input)) ∷ [])

unfoldable pub exported_of : ℕ → ℕ → ℕ → ℕ → ℕ → List ℕ → ℕ → Received
exported_of q n k t r input size = received (exported_refusal q n k t r input size) (reduced_answer q n k t r input)

unfoldable pub exported_bytes : ℕ → ℕ → ℕ → ℕ → ℕ → List ℕ → List ℕ → List ℕ
exported_bytes q n k t r input answer = left_bytes answer (exported_of q n k t r input (length answer))
