-- The peeled shape of a reduced matrix; no part of the meaning. A reduced matrix loses its last column, which either has a pivot, and
-- then the last row is 0..01 and goes with it, or is free, and then its entries are any. So a matrix is told by its columns, right to left.
--   Shape                == the columns from the right: a free one with its entries as a base-q number, or a pivot's
--   digit_at q k x i      == entry i of a column whose first k entries are the base-q digits of x, and whose others are 0
--   cell q s k n i j     == the entry at row i and column j of the matrix with the shape s
--   flatten k n A        == the bytes of the first k rows and n columns of A
-- Assumes nothing.
use Rattle.std.specs.Prelude.{List, [], ◌++◌, ℕ, zero, suc, pred, ◌-◌, ◌^◌, ◌/◌, ◌%◌, eqb, ltb}
use Rattle.basics.specs.Choice.{pick}
use Rattle.basics.specs.Sum.{bit}
use Rattle.basics.specs.Table.{tabulate}

pub data Shape : Type 0 where
  empty : Shape
  free : ℕ → Shape → Shape
  pivot : Shape → Shape

abbrev pub digit_at : ℕ → ℕ → ℕ → ℕ → ℕ
digit_at q k x i = pick (ltb i k) (x / q ^ (pred k - i) % q) 0

unfoldable pub cell : ℕ → Shape → ℕ → ℕ → ℕ → ℕ → ℕ
cell q empty k n i j = 0
cell q (free x s) k n i j = pick (eqb j (pred n)) (digit_at q k x i) (cell q s k (pred n) i j)
cell q (pivot s) k n i j = pick (eqb j (pred n)) (bit (eqb i (pred k))) (cell q s (pred k) (pred n) i j)

unfoldable pub flatten : ℕ → ℕ → (ℕ → ℕ → ℕ) → List ℕ
flatten zero n A = []
flatten (suc k) n A = tabulate (A 0) 0 n ++ flatten k n (λ i. A (suc i))
