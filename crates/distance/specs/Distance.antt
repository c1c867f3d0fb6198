-- What the subspace distance of two lists of rows answers for every input; both are only read. Order 10: "Add the subspace distance of two
-- row lists over the same q and n .. A refusal gives distance 0. The refusals are Reduce's without the output test: 1 and 2, then 13, 4, 6
-- for the first list, then 13, 4, 6 for the second."
--   distance_refusal == the refusals in their order; 0 where none applies
--   distance_of      == what the call answers
--   distance_number, distance_value == the refusal number and the distance of each case of the answer
-- Assumes nothing.
use Rattle.std.specs.Prelude.{List, [], ◌∷◌, ℕ, Result, Ok, Err}
use Rattle.refusal.specs.Refusal.{first, number, answered}
use Rattle.linear.specs.Span.{rows_of}
use Rattle.spaces.specs.Distance.{distance}
use Rattle.reduce.specs.Reduce.{row_settings_refusal, row_list_refusal}
use Rattle.refusal.specs.declared.Refusal.{Refusal}

unfoldable pub distance_refusal : ℕ → ℕ → ℕ → List ℕ → ℕ → List ℕ → ℕ
distance_refusal q n r input s other =
    first (row_settings_refusal q n ∷ row_list_refusal q n r input ∷ row_list_refusal q n s other ∷ [])

unfoldable pub distance_of : ℕ → ℕ → ℕ → List ℕ → ℕ → List ℕ → Result ℕ Refusal
distance_of q n r input s other = answered (distance_refusal q n r input s other) (distance q n (rows_of n r input) (rows_of n s other))

abbrev pub distance_number : Result ℕ Refusal → ℕ
distance_number (Ok d) = 0
distance_number (Err r) = number r

abbrev pub distance_value : Result ℕ Refusal → ℕ
distance_value (Ok d) = d
distance_value (Err r) = 0
