-- The Ferrers numbering on peeled shapes, as recursions that compute; their theorems tie them to formulas (12) and (14).
--   diagram_shape q n k m d x == the shape of the diagram of size m at place d with the tableau x
--   sized_shape q n k m i   == the shape of the index i among the matrices of at most m dots
--   ferrers_shape q n k i   == the shape with the index i
--   drawn_ferrers q n k i   == the bytes of the reduced matrix with the Ferrers index i
-- Assumes nothing.
use Rattle.std.specs.Prelude.{List, ℕ, zero, suc, pred, ◌*◌, ◌-◌, ◌^◌, ◌/◌, ◌%◌, ltb}
use Rattle.basics.specs.Choice.{pick}
use Rattle.matrix.specs.Shape.{Shape, empty, free, pivot, cell, flatten}
use Rattle.partitions.specs.Partitions.{box_count, free_count}

unfoldable pub diagram_shape : ℕ → ℕ → ℕ → ℕ → ℕ → ℕ → Shape
diagram_shape q zero k m d x = empty
diagram_shape q (suc n) k m d x =
    pick (ltb d (free_count n k m)) (free (x / q ^ (m - k)) (diagram_shape q n k (m - k) d (x % q ^ (m - k))))
    (pivot (diagram_shape q n (pred k) m (d - free_count n k m) x))

-- the index i counts the matrices of at most m dots, the larger diagrams first
unfoldable pub sized_shape : ℕ → ℕ → ℕ → ℕ → ℕ → Shape
sized_shape q n k zero i = diagram_shape q n k 0 i 0
sized_shape q n k (suc m) i =
    pick (ltb i (box_count n k (suc m) * q ^ suc m)) (diagram_shape q n k (suc m) (i / q ^ suc m) (i % q ^ suc m))
    (sized_shape q n k m (i - box_count n k (suc m) * q ^ suc m))

unfoldable pub ferrers_shape : ℕ → ℕ → ℕ → ℕ → Shape
ferrers_shape q n k i = sized_shape q n k (k * (n - k)) i

unfoldable pub drawn_ferrers : ℕ → ℕ → ℕ → ℕ → List ℕ
drawn_ferrers q n k i = flatten k n (cell q (ferrers_shape q n k i) k n)
