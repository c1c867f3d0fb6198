-- The reduced matrix of a list of rows is what its name says. Document 01: "The dimension of a list is the number of rows, none to n, of
-- the one reduced matrix with the same span."
--   no_rows           == no rows are reduced
--   reduced_rows-kept  == the reduced matrix as rows: they are rows, reduced when joined
--   reduced_rows-span  == they have the rows' span
--   reduced_of-rows    == they are the rows of the matrix
--   reduced_of-reduced == the matrix is reduced
--   reduced_of-span    == it has the rows' span
--   reduced_of-unique  == every reduced matrix with the rows' span is it
--   reduced-le, dimension-le == a reduced matrix of n columns has at most n rows, so a dimension is at most n
--   dimension-has     == d is the dimension, as document 01 says it, exactly where d is computed
--   vector-has        == d and v are the dimension and the identifying vector exactly where they are those of the matrix that is computed
--   vector-dimension  == rows have a dimension d exactly where they have it with some identifying vector
-- Assumes nothing.
use Rattle.std.specs.Prelude.{◌≡◌, refl, ◌↔◌, ℕ, zero, suc, ◌≤◌, ◌<◌}
use Rattle.std.proofs.Math.Path.{ap₂, sym, subst}
use Rattle.std.proofs.Common.{◌∙◌, arith}
use mathlib.Core.List.{List, []}
use Rattle.field.specs.FieldLaws.{Laws}
use Rattle.matrix.specs.Matrix.{Reduced, pivot, identifying}
use Rattle.linear.specs.Span.{All, none, Row, SameSpan, HasDimension, HasVector, rows_of}
use Rattle.linear.specs.Eliminate.{reduced_rows, reduced_of, dimension}
use Rattle.linear.specs.Laws.Echelon.{empty}
use Rattle.linear.specs.Laws.Mixture.{span-each, span_same}
use Rattle.linear.specs.Laws.FlatMatrix.{rows_join}
use Rattle.linear.specs.Laws.ReducedRows.{rows-sized, echelon-reduced}
use Rattle.linear.specs.Laws.Unique.{reduced-unique}
use Rattle.linear.specs.Laws.InsertMany.{Kept, insert_rows-kept, insert_rows-spanned, insert_rows-new}

-- the pivots of a reduced matrix leave room before them
pivot-after : {q n k : ℕ} {m : List ℕ} → Reduced q n k m → (i : ℕ) → i < k → i ≤ pivot n m i
pivot-after R zero h = omega arith
pivot-after R (suc i) h = omega (arith, pivot-after R i (omega arith), R.pivots-rise i h)

pub reduced-le : (q n k : ℕ) (m : List ℕ) → Reduced q n k m → k ≤ n
reduced-le q n zero m R = omega arith
reduced-le q n (suc k) m R = omega (arith, pivot-after R k (omega arith), R.no-zero-row k (omega arith))

pub no_rows : (q : ℕ) → Laws q → (n : ℕ) → Kept q n []
no_rows q laws n = record { rows = none; reduced = echelon-reduced q laws n {lo = 0} [] none empty }

module _ (q : ℕ) (laws : Laws q) (n : ℕ) (rows : List (List ℕ)) (h : All (Row q n) rows) where
  pub reduced_rows-kept : Kept q n (reduced_rows q n rows)
  unfolding reduced_rows
  reduced_rows-kept = insert_rows-kept q laws n [] (no_rows q laws n) h

  pub reduced_rows-span : SameSpan q n (reduced_rows q n rows) rows
  unfolding reduced_rows
  reduced_rows-span =
      span_same q laws n (reduced_rows q n rows) rows reduced_rows-kept.rows h
      (insert_rows-spanned q laws n rows h [] (no_rows q laws n) none h (span-each q laws n rows h))
      (insert_rows-new q laws n [] (no_rows q laws n) h)

  pub reduced_of-reduced : Reduced q n (dimension q n rows) (reduced_of q n rows)
  unfolding dimension reduced_of
  reduced_of-reduced = reduced_rows-kept.reduced

  pub reduced_of-rows : rows_of n (dimension q n rows) (reduced_of q n rows) ≡ reduced_rows q n rows
  unfolding dimension reduced_of
  reduced_of-rows = rows_join n (rows-sized q n reduced_rows-kept.rows)

  pub reduced_of-span : SameSpan q n (rows_of n (dimension q n rows) (reduced_of q n rows)) rows
  reduced_of-span = rw reduced_of-rows reduced_rows-span

  pub reduced_of-unique : (d : ℕ) (m : List ℕ) → Reduced q n d m → SameSpan q n (rows_of n d m) rows
      → (d ≡ dimension q n rows) × (m ≡ reduced_of q n rows)
  unfolding SameSpan
  reduced_of-unique d m R s =
      reduced-unique q laws n R reduced_of-reduced (λ v. (λ g. (reduced_of-span v).1 ((s v).0 g), λ g. (s v).1 ((reduced_of-span v).0 g)))

  pub dimension-has : (d : ℕ) → HasDimension q n rows d ↔ (dimension q n rows ≡ d)
  unfolding HasDimension
  dimension-has d = (
    λ x. sym (reduced_of-unique d x.0 x.1 x.2).0,
    λ e. subst (HasDimension q n rows) e (reduced_of q n rows, reduced_of-reduced, reduced_of-span),
  )

  pub vector-has : (d v : ℕ)
      → HasVector q n rows d v ↔ ((dimension q n rows ≡ d) × (identifying n (dimension q n rows) (reduced_of q n rows) ≡ v))
  unfolding HasVector
  vector-has d v = (
    λ x.
        let u = reduced_of-unique d x.0 x.1 x.2 in
        (sym u.0, ap₂ (identifying n) (sym u.0) (sym u.1) ∙ x.3),
    λ e.
        subst (λ x. HasVector q n rows x v) e.0
        (reduced_of q n rows, reduced_of-reduced, reduced_of-span, e.1),
  )

  pub dimension-le : dimension q n rows ≤ n
  dimension-le = reduced-le q n (dimension q n rows) (reduced_of q n rows) reduced_of-reduced

pub vector-dimension : (q n : ℕ) (rows : List (List ℕ)) (d : ℕ) → HasDimension q n rows d ↔ ((v : ℕ) × HasVector q n rows d v)
unfolding HasDimension HasVector
vector-dimension q n rows d = (λ x. (identifying n d x.0, (x.0, x.1, x.2, refl)), λ x. (x.1.0, x.1.1, x.1.2))
