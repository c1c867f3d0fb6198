-- The tables that the code reads: partition counts, packed; no part of the meaning. The counts of a box are the same from either
-- end, and those of a box and of that box turned over are the same, so half of those of a box that is not higher than wide are enough.
--   kept_counts        == these halves one after the other, by n and then by the shorter side, from Lemma 1
--   words             == four of them, of sixteen bits each, to a number
--   begins            == where the half of each box begins, in that order
--   box_begin n k      == where that of the box of k rows and n - k columns begins
--   packed i          == the i-th of all counts
--   read_box n k m     == p(k, n-k, m) as it is read from them
-- Assumes nothing.
use Rattle.std.specs.Prelude.{List, [], ◌∷◌, ℕ, suc, ◌+◌, ◌*◌, ◌-◌, ◌^◌, ◌/◌, ◌%◌, leb, get_or, take}
use Rattle.basics.specs.Choice.{pick}
use Rattle.basics.specs.Laws.Ragged.{ragged}
use Rattle.basics.specs.Sum.{sum}
use Rattle.basics.specs.Table.{tabulate}
use Rattle.counts.specs.Laws.Halves.{half_place}
use Rattle.counts.specs.Laws.Nearer.{nearer}
use Rattle.partitions.specs.Laws.BoxTable.{level}

-- how many counts of the box of n rows and columns together, a on its shorter side, are kept; n and a stand at n * 9 + a
abbrev kept : ℕ → ℕ
kept t = let n = t / 9 in let a = t % 9 in pick (leb (a + a) n) (suc (a * (n - a) / 2)) 0

unfoldable pub kept_counts : List ℕ
kept_counts = ragged (λ t. take (kept t) (get_or (level (t / 9)) (t % 9) [])) 0 153

unfoldable pub pack_four : List ℕ → List ℕ
pack_four [] = []
pack_four (a ∷ []) = a ∷ []
pack_four (a ∷ b ∷ []) = (a + 65536 * b) ∷ []
pack_four (a ∷ b ∷ c ∷ []) = (a + 65536 * (b + 65536 * c)) ∷ []
pack_four (a ∷ b ∷ c ∷ d ∷ rest) = (a + 65536 * (b + 65536 * (c + 65536 * d))) ∷ pack_four rest

unfoldable pub words : List ℕ
words = pack_four kept_counts

unfoldable pub begins : List ℕ
begins = ragged (λ n. tabulate (λ a. sum (n * 9 + a) kept) 0 (suc (n / 2))) 0 17

abbrev pub packed : ℕ → ℕ
packed i = get_or words (i / 4) 0 / 2 ^ (i % 4 * 16) % 65536

abbrev pub box_begin : ℕ → ℕ → ℕ
box_begin n k = get_or begins (half_place n k) 0

abbrev pub read_box : ℕ → ℕ → ℕ → ℕ
read_box n k m = packed (box_begin n k + nearer (k * (n - k)) m)
