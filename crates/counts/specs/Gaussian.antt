-- The Gaussian coefficient, the number of spaces of dimension k in rows of length n over the field with q elements.
--   gaussian q n k     == formula (4) of document 001, with 1 at k = 0 and 0 at k > n
--   greatest_count      == 2^64 - 1
--   table_entry q n k, capped == document 01's table: the count, "a count above 2^64 - 1 is entered as 0"
--   counts             == the table, whole: for the field sizes "all n and k from 0 to 16", by q, then n, then k; order 7: "The table of
--                         counts grows to 1,734 numbers."
-- Assumes nothing.
use Rattle.std.specs.Prelude.{List, ℕ, zero, suc, ◌+◌, ◌*◌, ◌-◌, ◌^◌, ◌/◌, ◌%◌, leb, length, get_or}
use Rattle.basics.specs.Choice.{pick}
use Rattle.basics.specs.Table.{tabulate}
use Rattle.field.specs.Field.{field_sizes}

-- formula (4): [n, k] = q^k [n-1, k] + [n-1, k-1]. That it is 0 at every k > n is `gaussian-none` of GaussianLaws.
unfoldable pub gaussian : ℕ → ℕ → ℕ → ℕ
gaussian q n zero = 1
gaussian q zero (suc k) = 0
gaussian q (suc n) (suc k) = q ^ suc k * gaussian q n (suc k) + gaussian q n k

abbrev pub greatest_count : ℕ
greatest_count = 2 ^ 64 - 1

abbrev pub capped : ℕ → ℕ
capped count = pick (leb count greatest_count) count 0

abbrev pub table_entry : ℕ → ℕ → ℕ → ℕ
table_entry q n k = capped (gaussian q n k)

-- what stands at place i of the table
unfoldable pub entry : ℕ → ℕ
entry i = table_entry (get_or field_sizes (i / 289) 0) (i / 17 % 17) (i % 17)

unfoldable pub counts : List ℕ
counts = tabulate entry 0 (length field_sizes * 289)
