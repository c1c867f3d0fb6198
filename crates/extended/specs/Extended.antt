-- The extended numbering. Document 01: "Columns are counted from the right, j = 1 to n. v_j is 1 when column j has a pivot. {X_j} is
-- column j read as a base-q number, top row most significant."
--   ones_among n k m j        == the number of ones of v among columns 1 to j
--   extended_term q n k m j   == what column j adds: "w is the number of ones of v among columns 1 to j-1. Column j adds
--                               q^(k-w) × [n-j, k-w] if v_j = 1, and ({X_j} / q^w) × [n-j, k-w] if v_j = 0."
--   extended_index q n k m    == formula (5), the sum over the columns
--   extended_column q n k m j == column j with v_j above it as leading digit, as a base-q number
--   extended_before q n k a b == "At the least j where the columns differ, v_j above the column included as leading digit, the smaller
--                               number comes first."
-- Assumes nothing.
use Rattle.std.specs.Prelude.{List, ℕ, suc, ◌+◌, ◌*◌, ◌-◌, ◌^◌, ◌/◌}
use Rattle.basics.specs.Choice.{pick}
use Rattle.basics.specs.Sum.{sum, bit, Lex}
use Rattle.matrix.specs.Matrix.{pivot_at, column_value}
use Rattle.counts.specs.Gaussian.{gaussian}

unfoldable pub ones_among : ℕ → ℕ → List ℕ → ℕ → ℕ
ones_among n k m j = sum j (λ i. bit (pivot_at n k m (suc i)))

-- w is given
unfoldable pub extended_term_at : ℕ → ℕ → ℕ → List ℕ → ℕ → ℕ → ℕ
extended_term_at q n k m j w =
    pick (pivot_at n k m j) (q ^ (k - w) * gaussian q (n - j) (k - w)) (column_value q n k m j / q ^ w * gaussian q (n - j) (k - w))

unfoldable pub extended_term : ℕ → ℕ → ℕ → List ℕ → ℕ → ℕ
extended_term q n k m j = extended_term_at q n k m j (ones_among n k m (j - 1))

unfoldable pub extended_index : ℕ → ℕ → ℕ → List ℕ → ℕ
extended_index q n k m = sum n (λ i. extended_term q n k m (suc i))

unfoldable pub extended_column : ℕ → ℕ → ℕ → List ℕ → ℕ → ℕ
extended_column q n k m j = bit (pivot_at n k m j) * q ^ k + column_value q n k m j

unfoldable pub extended_before : ℕ → ℕ → ℕ → List ℕ → List ℕ → Type 0
extended_before q n k a b = Lex n (λ i. extended_column q n k a (suc i)) (λ i. extended_column q n k b (suc i))
