-- The extended numbering on peeled shapes, as a recursion that computes; its theorems tie it to formula (5).
--   extended_shape q n k i  == the shape with the index i
--   drawn_extended q n k i  == the bytes of the reduced matrix with the extended index i
-- Assumes nothing.
use Rattle.std.specs.Prelude.{List, ℕ, zero, suc, pred, ◌*◌, ◌-◌, ◌^◌, ◌/◌, ◌%◌, ltb}
use Rattle.basics.specs.Choice.{pick}
use Rattle.matrix.specs.Shape.{Shape, empty, free, pivot, cell, flatten}
use Rattle.counts.specs.Gaussian.{gaussian}

unfoldable pub extended_shape : ℕ → ℕ → ℕ → ℕ → Shape
extended_shape q zero k i = empty
extended_shape q (suc n) k i =
    pick (ltb i (q ^ k * gaussian q n k)) (free (i / gaussian q n k) (extended_shape q n k (i % gaussian q n k)))
    (pivot (extended_shape q n (pred k) (i - q ^ k * gaussian q n k)))

unfoldable pub drawn_extended : ℕ → ℕ → ℕ → ℕ → List ℕ
drawn_extended q n k i = flatten k n (cell q (extended_shape q n k i) k n)
