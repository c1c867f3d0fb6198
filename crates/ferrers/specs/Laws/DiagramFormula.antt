-- The diagram of a reduced matrix, read off its peeled shape; no part of the meaning. The matrix is walked by columns from the right, as
-- peeling does.
--   diagram-formula  == the diagram is the list of the rows that are left at each free column
--   size-formula     == its size is the shape's
-- Assumes nothing.
use Rattle.std.specs.Prelude.{◌≡◌, refl, List, ◌∷◌, map}
use Rattle.std.proofs.Math.Path.{ap}
use Rattle.std.proofs.Common.{ap₂, ◌∙◌, sym, arith}
use Prim.Native.Nat.{ℕ, suc, ◌-◌}
use Rattle.std.proofs.Math.Nat.{sub_self}
use Rattle.std.proofs.Math.Arith.{sub-sub_self}
use Rattle.matrix.specs.Laws.PeelPlace.{Located, located-start, located-dots, located-free, located-pivot, free-no-pivot, pivot-here}
use Rattle.matrix.specs.Matrix.{entry, Reduced}
use Rattle.matrix.specs.Shape.{Shape}
use Rattle.matrix.specs.Laws.Shape.{Peeled, peeled-empty, peeled-free, peeled-pivot}
use Rattle.ferrers.specs.Ferrers.{free_from, free_columns, dots, diagram, total, size}
use Rattle.ferrers.specs.Laws.Heights.{heights, heights-total}
use Rattle.ferrers.specs.Laws.ShapeRank.{shape_size}

-- the column c from the left, at which k rows are left, has k dots
located-column-dots : {q N K k c : ℕ} {m : List ℕ} {s : Shape} → Located q N K m k c s → dots N K m (N - c) ≡ k
unfolding dots
located-column-dots l = rw (sub-sub_self l.columns) (located-dots l)

diagram-walk : {q N K : ℕ} {m : List ℕ} {k c : ℕ} {s : Shape} (j : ℕ) → j ≡ suc (N - c) → Peeled q (entry N m) k c s → Located q N K m k c s
    → map (dots N K m) (free_from N K m j c) ≡ heights s k
unfolding free_from heights
diagram-walk j e peeled-empty l = refl
diagram-walk {N} {K} {m} j e (peeled-free {k} {n} {s} g p) l =
    let here : j ≡ N - n = omega (arith, l.columns) in
    rw (here, free-no-pivot l)
    (ap₂ (λ (x : ℕ) (xs : List ℕ). x ∷ xs) (located-column-dots (located-free l)) (diagram-walk (suc (N - n)) refl p (located-free l)))
diagram-walk {N} {K} {m} j e (peeled-pivot {k} {n} {s} o above left p) l =
    let here : j ≡ N - n = omega (arith, l.columns) in
    rw (here, pivot-here l) (diagram-walk (suc (N - n)) refl p (located-pivot l))

module _ {q n k : ℕ} {m : List ℕ} {s : Shape} (r : Reduced q n k m) (p : Peeled q (entry n m) k n s) where
  pub diagram-formula : diagram n k m ≡ heights s k
  unfolding diagram free_columns
  diagram-formula = diagram-walk 1 (ap suc (sym (sub_self n))) p (located-start r p)

  pub size-formula : size n k m ≡ shape_size s k
  unfolding size
  size-formula = ap total diagram-formula ∙ heights-total s k
