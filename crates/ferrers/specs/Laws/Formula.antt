-- Formula (12), and the first term of formula (14), by the peeled shape; no part of the meaning. The whole of (14) stands in ferrers/Formula14.
--   place-formula    == formula (12) gives the place of the shape's diagram
--   larger-formula   == the spaces of larger diagrams, counted by partitions, are those counted by columns
-- Assumes nothing.
use Rattle.std.specs.Prelude.{◌≡◌, List, ℕ, suc, ◌*◌, ◌-◌, ◌^◌, ◌≤◌}
use Rattle.std.proofs.Common.{ap, ◌∙◌, sym, add-sub_of_le}
use Rattle.std.proofs.Math.Path.{ap₂}
use Rattle.basics.specs.Sum.{sum_range}
use Rattle.basics.specs.Laws.SumMore.{range_same}
use Rattle.matrix.specs.Matrix.{entry, Reduced}
use Rattle.matrix.specs.Laws.ShapeLaws.{peeled-valid}
use Rattle.matrix.specs.Shape.{Shape}
use Rattle.matrix.specs.Laws.Shape.{Peeled}
use Rattle.ferrers.specs.Laws.DiagramFormula.{diagram-formula, size-formula}
use Rattle.ferrers.specs.Ferrers.{diagram, size, diagram_place, larger_diagrams}
use Rattle.partitions.specs.Laws.GaussianPartitions.{weight}
use Rattle.partitions.specs.Partitions.{partitions}
use Rattle.partitions.specs.Laws.PartitionsLaws.{box-partitions}
use Rattle.ferrers.specs.Laws.PlaceFormula.{place-of-shape}
use Rattle.ferrers.specs.Laws.ShapeRank.{shape_size, shape_place}
use Rattle.ferrers.specs.Laws.ShapeBounds.{valid-rows}

pub larger-formula : (q n k m : ℕ) → k ≤ n → larger_diagrams q k (n - k) m ≡ sum_range (suc m) (k * (n - k)) (weight q n k)
unfolding larger_diagrams
larger-formula q n k m h =
    range_same (suc m) (k * (n - k)) (λ i. partitions k (n - k) i * q ^ i) (weight q n k)
    (λ i _ _. ap (λ p. p * q ^ i) (sym (box-partitions n k i h)))

module _ {q n k : ℕ} {m : List ℕ} {s : Shape} (r : Reduced q n k m) (p : Peeled q (entry n m) k n s) where
  pub place-formula : diagram_place k (n - k) (diagram n k m) (size n k m) ≡ shape_place s k n (shape_size s k)
  place-formula =
      ap₂ (diagram_place k (n - k)) (diagram-formula r p) (size-formula r p)
      ∙ place-of-shape (n - k) (sym (add-sub_of_le (valid-rows (peeled-valid p)))) (peeled-valid p)
