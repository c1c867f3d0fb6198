-- Partitions in a box. Document 001, Lemma 1: "p(k, η, m) satisfies the following recurrence relation: p(k, η, m) = p(k, η-1, m-k) +
-- p(k-1, η, m) with the initial conditions p(k, η, m) = 0 if m < 0 or m > η·k and p(k, η, 0) = 1." Differences are true ones: where m - k
-- is negative, p is 0.
--   partitions_less p m t   == p at m - t; 0 where that is negative
--   partitions k η m       == p(k, η, m); the initial conditions decide k = 0 and η = 0, and hold elsewhere by theorem
--   box_count n k m         == p(k, n-k, m), the number of diagrams of size m, as a recursion on n like the Gaussian coefficient's
--   free_count n k m        == those that begin with a free column
-- Assumes nothing.
use Rattle.std.specs.Prelude.{ℕ, zero, suc, ◌+◌, ◌-◌, eqb, leb}
use Rattle.basics.specs.Choice.{pick}
use Rattle.basics.specs.Sum.{bit}

abbrev pub partitions_less : (ℕ → ℕ) → ℕ → ℕ → ℕ
partitions_less p m taken = pick (leb taken m) (p (m - taken)) 0

-- the recurrence at k, over η, with the row of k - 1 given
unfoldable pub partitions_row : ℕ → (ℕ → ℕ → ℕ) → ℕ → ℕ → ℕ
partitions_row k previous zero m = bit (eqb m 0)
partitions_row k previous (suc η) m = partitions_less (partitions_row k previous η) m k + previous (suc η) m

unfoldable pub partitions : ℕ → ℕ → ℕ → ℕ
partitions zero η m = bit (eqb m 0)
partitions (suc k) η m = partitions_row (suc k) (partitions k) η m

-- a free column first, or a pivot column first
unfoldable pub box_count : ℕ → ℕ → ℕ → ℕ
box_count n zero m = bit (eqb m 0)
box_count zero (suc k) m = 0
box_count (suc n) (suc k) m = partitions_less (box_count n (suc k)) m (suc k) + box_count n k m

-- the diagrams of size m that begin with a free column of k dots, n columns being left after it
abbrev pub free_count : ℕ → ℕ → ℕ → ℕ
free_count n k m = partitions_less (box_count n k) m k
