-- The Ferrers index of a reduced matrix, formula (14), is the rank of its peeled shape; no part of the meaning.
--   ferrers-formula  == formula (14) gives the shape's rank
-- Assumes nothing.
use Rattle.std.specs.Prelude.{◌≡◌, List, ℕ, ◌+◌, ◌*◌, ◌-◌, ◌^◌}
use Rattle.std.proofs.Common.{ap, ◌∙◌}
use Rattle.std.proofs.Math.Path.{ap₂}
use Rattle.matrix.specs.Matrix.{entry, Reduced}
use Rattle.matrix.specs.Laws.ShapeLaws.{peeled-valid}
use Rattle.matrix.specs.Shape.{Shape}
use Rattle.matrix.specs.Laws.Shape.{Peeled}
use Rattle.ferrers.specs.Laws.DiagramFormula.{size-formula}
use Rattle.ferrers.specs.Ferrers.{larger_diagrams, ferrers_index}
use Rattle.ferrers.specs.Laws.ShapeRank.{shape_size, ferrers_rank}
use Rattle.ferrers.specs.Laws.ShapeBounds.{valid-rows}
use Rattle.ferrers.specs.Laws.TableauFormula.{tableau-formula}
use Rattle.ferrers.specs.Laws.Formula.{larger-formula, place-formula}

module _ {q n k : ℕ} {m : List ℕ} {s : Shape} (r : Reduced q n k m) (p : Peeled q (entry n m) k n s) where
  pub ferrers-formula : ferrers_index q n k m ≡ ferrers_rank q s k n
  unfolding ferrers_index ferrers_rank
  ferrers-formula =
      ap₂ (λ a b. a + b)
      (ap₂ (λ a b. a + b)
      (ap (larger_diagrams q k (n - k)) (size-formula r p) ∙ larger-formula q n k (shape_size s k) (valid-rows (peeled-valid p)))
      (ap₂ (λ a b. q ^ a * b) (size-formula r p) (place-formula r p)))
      (tableau-formula r p)
