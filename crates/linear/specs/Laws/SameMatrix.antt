-- What the reduced matrix of a list of rows depends on: the span alone.
--   matrix-same          == lists with the same span have the same dimension and reduced matrix
--   reduced_rows-again    == reduced rows are their own reduced rows
--   within-dimension     == rows in the span of a reduced matrix of k rows have at most dimension k, and k only where it is their matrix
-- Assumes nothing.
use Rattle.std.specs.Prelude.{◌≡◌, List, ℕ, ◌≤◌, length}
use Rattle.std.proofs.Common.{ap₂, ◌∙◌}
use Rattle.std.proofs.Math.Path.{sym}
use Rattle.std.proofs.Math.Logic.Iff
use Rattle.field.specs.FieldLaws.{Laws}
use Rattle.matrix.specs.Matrix.{Reduced}
use Rattle.linear.specs.Span.{All, Row, InSpan, SameSpan, rows_of}
use Rattle.linear.specs.Eliminate.{join, reduced_rows, reduced_of, dimension}
use Rattle.linear.specs.Laws.Mixture.{span-through}
use Rattle.linear.specs.Laws.FlatMatrix.{rows_join}
use Rattle.linear.specs.Laws.ReducedRows.{reduced-rows, rows-sized}
use Rattle.linear.specs.Laws.Unique.{reduced-within}
use Rattle.linear.specs.Laws.ReducedOf.{reduced_of-reduced, reduced_of-rows, reduced_of-span, reduced_of-unique}

module _ (q : ℕ) (laws : Laws q) (n : ℕ) where
  pub matrix-same : (rows others : List (List ℕ)) → All (Row q n) rows → All (Row q n) others → SameSpan q n rows others
      → (dimension q n rows ≡ dimension q n others) × (reduced_of q n rows ≡ reduced_of q n others)
  unfolding SameSpan
  matrix-same rows others h g s =
      reduced_of-unique q laws n others g (dimension q n rows) (reduced_of q n rows) (reduced_of-reduced q laws n rows h)
      (λ v. (λ x. (s v).0 ((reduced_of-span q laws n rows h v).0 x), λ x. (reduced_of-span q laws n rows h v).1 ((s v).1 x)))

  pub reduced_rows-again : (rs : List (List ℕ)) → All (Row q n) rs → Reduced q n (length rs) (join rs) → reduced_rows q n rs ≡ rs
  unfolding SameSpan
  reduced_rows-again rs h R = sym (reduced_of-rows q laws n rs h) ∙ sym (ap₂ (rows_of n) same.0 same.1) ∙ split
    where
      split : rows_of n (length rs) (join rs) ≡ rs
      split = rows_join n (rows-sized q n h)

      same : (length rs ≡ dimension q n rs) × (join rs ≡ reduced_of q n rs)
      same = reduced_of-unique q laws n rs h (length rs) (join rs) R (λ v. rw split Iff.rfl)

  pub within-dimension : (rows : List (List ℕ)) → All (Row q n) rows → (k : ℕ) (m : List ℕ) → Reduced q n k m
      → All (InSpan q n (rows_of n k m)) rows
      → (dimension q n rows ≤ k) × (dimension q n rows ≡ k → reduced_of q n rows ≡ m)
  unfolding SameSpan
  within-dimension rows h k m R each =
      reduced-within q laws n (reduced_of-reduced q laws n rows h) R
      (λ v s. span-through q laws n (rows_of n k m) rows (reduced-rows q n R) each v ((reduced_of-span q laws n rows h v).0 s))
