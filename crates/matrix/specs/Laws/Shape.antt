-- The peeled shape of a reduced matrix; no part of the meaning. A reduced matrix loses its last column, which either has a pivot, and
-- then the last row is 0..01 and goes with it, or is free, and then its entries are any. So a matrix is told by its columns, right to left.
--   Valid q k n s        == s is the shape of a reduced matrix of k rows and n columns
--   Peeled q A k n s     == the first k rows and n columns of A are a reduced matrix with the shape s
--   top_value q A k c     == the first k entries of A's column c as a base-q number, top row most significant
-- Assumes nothing.
use Rattle.std.specs.Prelude.{◌≡◌, ℕ, suc, ◌^◌, ◌<◌}
use Rattle.basics.specs.Sum.{value}
use Rattle.basics.specs.Table.{tabulate}
use Rattle.matrix.specs.Shape.{Shape, empty, free, pivot}

pub data Valid (q : ℕ) : ℕ → ℕ → Shape → Type 0 where
  valid-empty : Valid q 0 0 empty
  valid-free : {k n : ℕ} {x : ℕ} {s : Shape} → x < q ^ k → Valid q k n s → Valid q k (suc n) (free x s)
  valid-pivot : {k n : ℕ} {s : Shape} → Valid q k n s → Valid q (suc k) (suc n) (pivot s)

unfoldable pub top_value : ℕ → (ℕ → ℕ → ℕ) → ℕ → ℕ → ℕ
top_value q A k c = value q (tabulate (λ i. A i c) 0 k)

pub data Peeled (q : ℕ) (A : ℕ → ℕ → ℕ) : ℕ → ℕ → Shape → Type 0 where
  peeled-empty : Peeled q A 0 0 empty
  peeled-free : {k n : ℕ} {s : Shape} → ((i : ℕ) → i < k → A i n < q) → Peeled q A k n s → Peeled q A k (suc n) (free (top_value q A k n) s)
  peeled-pivot : {k n : ℕ} {s : Shape} → A k n ≡ 1 → ((i : ℕ) → i < k → A i n ≡ 0) → ((j : ℕ) → j < n → A k j ≡ 0)
      → Peeled q A k n s → Peeled q A (suc k) (suc n) (pivot s)
