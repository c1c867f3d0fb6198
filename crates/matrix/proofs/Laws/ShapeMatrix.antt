-- Reduced matrices are told by their shapes, and every shape tells one; no part of the meaning.
--   shape-matrix   == a reduced matrix has the bytes of its shape
--   shape-peeled   == the bytes of a shape have that shape
--   shape-reduced  == the bytes of a shape are a reduced matrix
--   shape-vector   == which has the identifying vector of the shape
-- Assumes nothing.
use Rattle.std.specs.Prelude.{◌≡◌, List, ℕ, ◌<◌}
use Rattle.std.proofs.Common.{◌∙◌, sym, arith}
use Rattle.matrix.specs.Matrix.{entry, identifying, Reduced}
use Rattle.matrix.specs.Shape.{Shape, cell, flatten}
use Rattle.matrix.specs.Laws.Shape.{Peeled, Valid}
use Rattle.matrix.specs.Laws.Flatten.{length-flatten, entry-flatten, flatten-same, flatten-entries}
use Rattle.matrix.specs.Laws.Peel.{reduced-of}
use Rattle.matrix.specs.Laws.ShapeLaws.{peeled-same}
use Rattle.matrix.specs.Laws.Cell.{peeled-cell, peeled-entries}
use Rattle.matrix.proofs.Laws.Vector.{vector, identifying-vector}

module _ {q n k : ℕ} where
  pub shape-matrix : {m : List ℕ} {s : Shape} → Reduced q n k m → Peeled q (entry n m) k n s → m ≡ flatten k n (cell q s k n)
  shape-matrix {m} {s} r p =
      sym (flatten-entries k n m r.size) ∙ flatten-same k n (entry n m) (cell q s k n) (λ i j h b. peeled-entries p i j h b)

  pub shape-peeled : {s : Shape} → 0 < q → Valid q k n s → Peeled q (entry n (flatten k n (cell q s k n))) k n s
  shape-peeled {s} h v =
      peeled-same (entry n (flatten k n (cell q s k n))) (λ i j l b. sym (entry-flatten k n (cell q s k n) i j l b)) (peeled-cell h v)

  pub shape-reduced : {s : Shape} → 1 < q → Valid q k n s → Reduced q n k (flatten k n (cell q s k n))
  shape-reduced {s} h v = reduced-of h (length-flatten k n (cell q s k n)) (shape-peeled (omega arith) v)

  pub shape-vector : {s : Shape} → 1 < q → Valid q k n s → identifying n k (flatten k n (cell q s k n)) ≡ vector s
  shape-vector h v = identifying-vector (shape-reduced h v) (shape-peeled (omega arith) v)
