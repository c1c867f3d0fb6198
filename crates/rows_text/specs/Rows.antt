-- The rows of a matrix as text. Document 01: "rows as digits with `/` between rows".
--   row_text n m i   == the n digits of row i of the matrix m
--   rows_text n k m  == its k rows of n digits, with a slash between two rows
--   DigitRows n k m == the matrix m holds k rows of n entries, row by row, each entry one decimal digit, and k and n are at most 16
-- Assumes nothing.
use Rattle.std.specs.Prelude.{List, [], ◌∷◌, ◌++◌, ℕ, zero, suc, ◌+◌, ◌*◌, ◌≤◌, ◌<◌, length, get_or}
use Rattle.basics.specs.Table.{tabulate}
use Rattle.text.specs.Text.{slash, glyph}

unfoldable pub row_text : ℕ → List ℕ → ℕ → List ℕ
row_text n m i = tabulate (λ j. glyph (get_or m (i * n + j) 0)) 0 n

unfoldable pub rows_text : ℕ → ℕ → List ℕ → List ℕ
rows_text n zero m = []
rows_text n (suc zero) m = row_text n m 0
rows_text n (suc (suc i)) m = rows_text n (suc i) m ++ (slash ∷ row_text n m (suc i))

pub record DigitRows (n k : ℕ) (m : List ℕ) : Type 0 where
  pub rows : k ≤ 16
  pub columns : n ≤ 16
  pub size : k * n ≤ length m
  pub digits : (place : ℕ) → place < k * n → get_or m place 0 < 10
