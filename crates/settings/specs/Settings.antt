-- Settings and Count. Document 01: "Row length n is 1 to 16. Dimension k is 0 to n. Settings are accepted when N is at most
-- 2^64 - 1." "Count, from q, n, k: 1 if q is none of the four; 2 if n is outside 1 to 16 or k exceeds n; 3 if N exceeds 2^64 - 1." Order 7:
-- "Number 1 is now for a q outside 2, 3, 4, 5, 7, 8." List: "1, 2, 3; 12 if N exceeds 65,536."
--   row_length_ok n, range_ok n k, count_ok q n k == the tests behind 2 and 3
--   settings_refusal q n k == the first of 1, 2, 3 that applies, else 0; the calls that take settings begin with it
--   greatest_listing   == 65,536
--   list_refusal q n k == the first of 1, 2, 3, 12 that applies, else 0
--   count_of q n k     == what Count answers
--   count_number, count_value == document 01's refusal number and count of each case of the answer
-- Assumes nothing.
use Rattle.std.specs.Prelude.{Bool, ◌&&◌, [], ◌∷◌, ℕ, leb, Result, Ok, Err}
use Rattle.refusal.specs.Refusal.{field_size_refusal, range_refusal, count_refusal, listing_refusal, refuse_unless, first, number, answered}
use Rattle.field.specs.Field.{is_field_size}
use Rattle.counts.specs.Gaussian.{gaussian, greatest_count}
use Rattle.refusal.specs.declared.Refusal.{Refusal}

unfoldable pub row_length_ok : ℕ → Bool
row_length_ok n = leb 1 n && leb n 16

unfoldable pub range_ok : ℕ → ℕ → Bool
range_ok n k = row_length_ok n && leb k n

unfoldable pub count_ok : ℕ → ℕ → ℕ → Bool
count_ok q n k = leb (gaussian q n k) greatest_count

unfoldable pub settings_refusal : ℕ → ℕ → ℕ → ℕ
settings_refusal q n k =
    first
    (refuse_unless (is_field_size q) field_size_refusal
    ∷ refuse_unless (range_ok n k) range_refusal
    ∷ refuse_unless (count_ok q n k) count_refusal
    ∷ [])

abbrev pub greatest_listing : ℕ
greatest_listing = 65536

unfoldable pub list_refusal : ℕ → ℕ → ℕ → ℕ
list_refusal q n k = first (settings_refusal q n k ∷ refuse_unless (leb (gaussian q n k) greatest_listing) listing_refusal ∷ [])

unfoldable pub count_of : ℕ → ℕ → ℕ → Result ℕ Refusal
count_of q n k = answered (settings_refusal q n k) (gaussian q n k)

abbrev pub count_number : Result ℕ Refusal → ℕ
count_number (Ok n) = 0
count_number (Err r) = number r

abbrev pub count_value : Result ℕ Refusal → ℕ
count_value (Ok n) = n
count_value (Err r) = 0
