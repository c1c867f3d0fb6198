-- A span has one reduced matrix. Document 01: "the one reduced matrix with the same span".
--   reduced-within == a reduced matrix whose span lies within that of another has no more rows, and as many only where it is the same
--   reduced-unique == two reduced matrices with the same span are the same
-- Assumes nothing.
use Rattle.std.specs.Prelude.{◌≡◌, List, ℕ, ◌≤◌, length}
use Rattle.std.proofs.Common.{ap, sym, ◌∙◌, subst₂, arith}
use Rattle.field.specs.FieldLaws.{Laws}
use Rattle.matrix.specs.Matrix.{Reduced}
use Rattle.linear.specs.Span.{Row, InSpan, SameSpan, rows_of}
use Rattle.linear.specs.Eliminate.{join, lead_of}
use Rattle.linear.specs.Laws.Every.{all_map}
use Rattle.linear.specs.Laws.Within.{echelon-within}
use Rattle.linear.specs.Laws.Element.{scalars}
use Rattle.linear.specs.Laws.Entries.{at, row_same}
use Rattle.linear.specs.Laws.Coefficients.{span-spanned}
use Rattle.linear.specs.Laws.Mixture.{span-each}
use Rattle.linear.specs.Laws.FlatMatrix.{rows-length, join-rows}
use Rattle.linear.specs.Laws.ReducedRows.{reduced-rows, reduced-echelon}

module _ (q : ℕ) (laws : Laws q) (n : ℕ) where
  pub reduced-within : {a b : ℕ} {R M : List ℕ} → Reduced q n a R → Reduced q n b M
      → ((v : List ℕ) → InSpan q n (rows_of n a R) v → InSpan q n (rows_of n b M) v) → (a ≤ b) × (a ≡ b → R ≡ M)
  reduced-within {a} {b} {R} {M} hR hM h =
      (subst₂ ◌≤◌ (rows-length n a R) (rows-length n b M) rows.0, λ e. matrices (rows.1 (lengths e)))
    where
      rows : (length (rows_of n a R) ≤ length (rows_of n b M)) × (length (rows_of n a R) ≡ length (rows_of n b M) → rows_of n a R ≡ rows_of n b M)
      rows =
          echelon-within (scalars q laws) (at q laws) (lead_of n) (Row q n) (row_same q laws n) (reduced-echelon q laws n hR)
          (reduced-echelon q laws n hM) (reduced-rows q n hR) (reduced-rows q n hM)
          (all_map (λ r s. span-spanned q laws n r (reduced-rows q n hM) (h r s)) (span-each q laws n (rows_of n a R) (reduced-rows q n hR)))

      lengths : a ≡ b → length (rows_of n a R) ≡ length (rows_of n b M)
      lengths e = rows-length n a R ∙ e ∙ sym (rows-length n b M)

      matrices : rows_of n a R ≡ rows_of n b M → R ≡ M
      matrices e = sym (join-rows n a R hR.size) ∙ ap join e ∙ join-rows n b M hM.size

  pub reduced-unique : {a b : ℕ} {R M : List ℕ} → Reduced q n a R → Reduced q n b M → SameSpan q n (rows_of n a R) (rows_of n b M)
      → (a ≡ b) × (R ≡ M)
  unfolding SameSpan
  reduced-unique {a} {b} {R} {M} hR hM h =
      let there : (a ≤ b) × (a ≡ b → R ≡ M) = reduced-within hR hM (λ v. (h v).0) in
      let back : (b ≤ a) × (b ≡ a → M ≡ R) = reduced-within hM hR (λ v. (h v).1) in
      let e : a ≡ b = omega (arith, there.0, back.0) in
      (e, there.1 e)
