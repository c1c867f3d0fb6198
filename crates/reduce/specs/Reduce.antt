-- What Reduce answers for every input, and what it leaves in the lent output. Document 01: "Reduce, from q, n and r rows to the reduced
-- matrix of their span: 1; 2 for n only; 13 if r exceeds 64; 4 if the input isn't r×n bytes or the output isn't n×n; 6. The output holds
-- the reduced rows, then zeros; the answer is the dimension." Order 2: "Reduce answers it", the identifying vector, "as a 16-bit number
-- beside the dimension; column j from the right has the value 2^(j-1)".
--   most_rows      == 64
--   row_settings_refusal q n     == 1, then 2 for n alone; 0 where neither applies. The calls that take rows and no k begin with it
--   rows_size_refusal n r size   == 13, then 4, for r rows of n entries in `size` bytes; 0 where neither applies
--   row_list_refusal q n r input == 13, 4, then 6, for a list of r rows of n entries below q; 0 where none applies
--   space_of n d m == what is told of the space with the reduced matrix m of d rows: d, and the identifying vector of m
--   reduce_refusal == the refusals in their order; 0 where none applies
--   reduce_of      == what Reduce answers; reduce_buffer == the output afterwards
--   reduction_number, reduction_dimension, reduction_vector == document 01's refusal number and dimension, and order 2's vector, of each case
--                    of the answer
-- Assumes nothing.
use Rattle.std.specs.Prelude.{List, [], ◌∷◌, ℕ, ◌*◌, eqb, leb, length, Result, Ok, Err}
use Rattle.refusal.specs.Refusal.{field_size_refusal, range_refusal, length_refusal, entry_refusal, row_count_refusal}
use Rattle.refusal.specs.Refusal.{refuse_unless, first, unless_refused, number, answered}
use Rattle.field.specs.Field.{is_field_size}
use Rattle.settings.specs.Settings.{row_length_ok}
use Rattle.matrix.specs.Matrix.{entries_below, identifying}
use Rattle.linear.specs.Span.{rows_of}
use Rattle.linear.specs.Eliminate.{reduced_of, dimension}
use Rattle.reduction.specs.Padded.{padded}
use Rattle.reduce.specs.declared.Space.{Space}
use Rattle.refusal.specs.declared.Refusal.{Refusal}

abbrev pub most_rows : ℕ
most_rows = 64

unfoldable pub row_settings_refusal : ℕ → ℕ → ℕ
row_settings_refusal q n =
    first (refuse_unless (is_field_size q) field_size_refusal ∷ refuse_unless (row_length_ok n) range_refusal ∷ [])

unfoldable pub rows_size_refusal : ℕ → ℕ → ℕ → ℕ
rows_size_refusal n r size =
    first (refuse_unless (leb r most_rows) row_count_refusal ∷ refuse_unless (eqb size (r * n)) length_refusal ∷ [])

unfoldable pub row_list_refusal : ℕ → ℕ → ℕ → List ℕ → ℕ
row_list_refusal q n r input = first (rows_size_refusal n r (length input) ∷ refuse_unless (entries_below q input) entry_refusal ∷ [])

abbrev pub space_of : ℕ → ℕ → List ℕ → Space
space_of n d m = record { dimension = d; vector = identifying n d m }

unfoldable pub reduce_refusal : ℕ → ℕ → ℕ → List ℕ → ℕ → ℕ
reduce_refusal q n r input size =
    first
    (refuse_unless (is_field_size q) field_size_refusal
    ∷ refuse_unless (row_length_ok n) range_refusal
    ∷ rows_size_refusal n r (length input)
    ∷ refuse_unless (eqb size (n * n)) length_refusal
    ∷ refuse_unless (entries_below q input) entry_refusal
    ∷ [])

unfoldable pub reduce_of : ℕ → ℕ → ℕ → List ℕ → ℕ → Result Space Refusal
reduce_of q n r input size =
    answered (reduce_refusal q n r input size) (space_of n (dimension q n (rows_of n r input)) (reduced_of q n (rows_of n r input)))

unfoldable pub reduce_buffer : ℕ → ℕ → ℕ → List ℕ → List ℕ → List ℕ
reduce_buffer q n r input output =
    unless_refused (reduce_refusal q n r input (length output)) (padded (n * n) (reduced_of q n (rows_of n r input))) output

abbrev pub reduction_number : Result Space Refusal → ℕ
reduction_number (Ok s) = 0
reduction_number (Err r) = number r

abbrev pub reduction_dimension : Result Space Refusal → ℕ
reduction_dimension (Ok s) = s.dimension
reduction_dimension (Err r) = 0

abbrev pub reduction_vector : Result Space Refusal → ℕ
reduction_vector (Ok s) = s.vector
reduction_vector (Err r) = 0
