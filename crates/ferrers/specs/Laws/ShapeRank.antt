-- The Ferrers numbering on peeled shapes, as recursions that compute; their theorems tie them to formulas (12) and (14): laws; no part of
-- the meaning.
--   shape_size s k          == the number of dots
--   shape_place s k n m     == the place of the diagram among those of its size m
--   shape_tableau q s k     == {x}
--   ferrers_rank q s k n    == the index of the matrix with the shape s
-- Assumes nothing.
use Rattle.std.specs.Prelude.{ℕ, suc, pred, ◌+◌, ◌*◌, ◌-◌, ◌^◌}
use Rattle.basics.specs.Sum.{sum_range}
use Rattle.matrix.specs.Shape.{Shape, empty, free, pivot}
use Rattle.partitions.specs.Partitions.{box_count, free_count}

unfoldable pub shape_size : Shape → ℕ → ℕ
shape_size empty k = 0
shape_size (free x s) k = k + shape_size s k
shape_size (pivot s) k = shape_size s (pred k)

unfoldable pub shape_place : Shape → ℕ → ℕ → ℕ → ℕ
shape_place empty k n m = 0
shape_place (free x s) k n m = shape_place s k (pred n) (m - k)
shape_place (pivot s) k n m = free_count (pred n) k m + shape_place s (pred k) (pred n) m

unfoldable pub shape_tableau : ℕ → Shape → ℕ → ℕ
shape_tableau q empty k = 0
shape_tableau q (free x s) k = x * q ^ shape_size s k + shape_tableau q s k
shape_tableau q (pivot s) k = shape_tableau q s (pred k)

unfoldable pub ferrers_rank : ℕ → Shape → ℕ → ℕ → ℕ
ferrers_rank q s k n =
    sum_range (suc (shape_size s k)) (k * (n - k)) (λ i. box_count n k i * q ^ i)
    + q ^ shape_size s k * shape_place s k n (shape_size s k)
    + shape_tableau q s k
