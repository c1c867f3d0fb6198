-- One more row in a list of rows.
--   reduced_rows-more   == one more row is one row taken in
--   reduced_rows-held   == it leaves the reduced rows as they are where it is in the span
--   dimension-held, dimension-raised == so it keeps the dimension; and raises it by one where it is not in the span
--   span-decide        == whether a row is in the span is decided
-- Assumes nothing.
use Rattle.std.specs.Prelude.{◌≡◌, List, [], ◌∷◌, ◌++◌, ◌↔◌, ℕ, suc}
use Rattle.std.proofs.Math.Path.{ap}
use Rattle.std.proofs.Common.{◌∙◌}
use Rattle.std.proofs.Math.Decide.{ℕ_discrete}
use Rattle.std.proofs.Math.ListN.{length}
use Rattle.field.specs.FieldLaws.{Laws}
use Rattle.linear.specs.Span.{All, Row, InSpan, SameSpan}
use Rattle.linear.specs.Eliminate.{lead_of, residue, insert_row, insert_rows, reduced_rows, dimension}
use Rattle.linear.specs.Laws.Mixture.{span-row}
use Rattle.linear.specs.Laws.Insert.{residue-zero, insert-held, insert-raised}
use Rattle.linear.specs.Laws.InsertMany.{Kept, insert_rows-append}
use Rattle.linear.specs.Laws.ReducedOf.{reduced_rows-kept, reduced_rows-span}

pub reduced_rows-more : (q n : ℕ) (rows : List (List ℕ)) (v : List ℕ)
    → reduced_rows q n (rows ++ (v ∷ [])) ≡ insert_row q n (reduced_rows q n rows) v
unfolding reduced_rows insert_rows
reduced_rows-more q n rows v = insert_rows-append q n [] rows (v ∷ [])

module _ (q : ℕ) (laws : Laws q) (n : ℕ) (rows : List (List ℕ)) (h : All (Row q n) rows) where
  kept : Kept q n (reduced_rows q n rows)
  kept = reduced_rows-kept q laws n rows h

  pub reduced_rows-held : (v : List ℕ) → InSpan q n rows v → reduced_rows q n (rows ++ (v ∷ [])) ≡ reduced_rows q n rows
  unfolding SameSpan
  reduced_rows-held v s =
      reduced_rows-more q n rows v
      ∙ insert-held q laws n (reduced_rows q n rows) kept.rows kept.reduced v (span-row q laws n rows h v s)
      ((reduced_rows-span q laws n rows h v).1 s)

  pub dimension-held : (v : List ℕ) → InSpan q n rows v → dimension q n (rows ++ (v ∷ [])) ≡ dimension q n rows
  unfolding dimension
  dimension-held v s = ap length (reduced_rows-held v s)

  pub dimension-raised : (v : List ℕ) → Row q n v → (InSpan q n rows v → ⊥) → dimension q n (rows ++ (v ∷ [])) ≡ suc (dimension q n rows)
  unfolding dimension SameSpan
  dimension-raised v hv outside =
      ap length (reduced_rows-more q n rows v)
      ∙ insert-raised q laws n (reduced_rows q n rows) kept.rows kept.reduced v hv
      (λ s. outside ((reduced_rows-span q laws n rows h v).0 s))

  pub span-decide : (v : List ℕ) → Row q n v → Dec (InSpan q n rows v)
  unfolding SameSpan
  span-decide v hv = cases (ℕ_discrete (lead_of n (residue q n (reduced_rows q n rows) v)) n)
    where
      zero : InSpan q n (reduced_rows q n rows) v ↔ (lead_of n (residue q n (reduced_rows q n rows) v) ≡ n)
      zero = residue-zero q laws n (reduced_rows q n rows) kept.rows kept.reduced v hv

      cases : Dec (lead_of n (residue q n (reduced_rows q n rows) v) ≡ n) → Dec (InSpan q n rows v)
      cases (yes e) = yes ((reduced_rows-span q laws n rows h v).0 (zero.1 e))
      cases (no ne) = no (λ s. ne (zero.0 ((reduced_rows-span q laws n rows h v).1 s)))
