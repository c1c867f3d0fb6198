-- Lists of rows that differ in one row, as the clauses of order 10 tell them; no part of the meaning.
--   row-dropped, row-added == the first list has one row more, at any place, or the second
--   row-replaced           == each has a row of its own at one place
-- Assumes nothing.
use Rattle.std.specs.Prelude.{◌≡◌, List, ◌∷◌, ◌++◌, ◌↔◌, ℕ, ◌≤◌}
use Rattle.std.proofs.Common.{sym, subst, subst₂}
use Rattle.field.specs.FieldLaws.{Laws}
use Rattle.linear.specs.Span.{All, Row, InSpan}
use Rattle.linear.specs.Laws.Every.{all_head, all_tail, all-parts}
use Rattle.spaces.specs.Distance.{distance}
use Rattle.spaces.proofs.Laws.Distance.{distance-symmetric}
use Rattle.spaces.proofs.Laws.DistanceRow.{distance-row}
use Rattle.spaces.proofs.Laws.DistanceReplaced.{distance-replaced}

module _ (q : ℕ) (laws : Laws q) (n : ℕ) (us vs : List (List ℕ)) (hu : All (Row q n) us) (hv : All (Row q n) vs)
    (ws xs : List (List ℕ)) where
  -- the rows before the place, the row at it, and those after it
  parts : (rows : List (List ℕ)) (x : List ℕ) → All (Row q n) rows → rows ≡ ws ++ (x ∷ xs)
      → All (Row q n) ws × Row q n x × All (Row q n) xs
  parts rows x h e =
      let both = all-parts ws (x ∷ xs) (subst (All (Row q n)) e h) in
      (both.0, all_head both.1, all_tail both.1)

  pub row-dropped : (x : List ℕ) → us ≡ ws ++ (x ∷ xs) → vs ≡ ws ++ xs
      → (distance q n us vs ≤ 1) × ((distance q n us vs ≡ 1) ↔ (InSpan q n vs x → ⊥))
  row-dropped x e f =
      let p = parts us x hu e in
      subst₂ (λ a b. (distance q n a b ≤ 1) × ((distance q n a b ≡ 1) ↔ (InSpan q n b x → ⊥))) (sym e) (sym f)
      (distance-row q laws n ws xs x p.0 p.2 p.1)

  pub row-replaced : (x y : List ℕ) → us ≡ ws ++ (x ∷ xs) → vs ≡ ws ++ (y ∷ xs) → distance q n us vs ≤ 2
  row-replaced x y e f =
      let p = parts us x hu e in
      subst₂ (λ a b. distance q n a b ≤ 2) (sym e) (sym f)
      (distance-replaced q laws n ws xs x y p.0 p.2 p.1 (parts vs y hv f).1)

module _ (q : ℕ) (laws : Laws q) (n : ℕ) (us vs : List (List ℕ)) (hu : All (Row q n) us) (hv : All (Row q n) vs) where
  pub row-added : (ws xs : List (List ℕ)) (x : List ℕ) → us ≡ ws ++ xs → vs ≡ ws ++ (x ∷ xs)
      → (distance q n us vs ≤ 1) × ((distance q n us vs ≡ 1) ↔ (InSpan q n us x → ⊥))
  row-added ws xs x e f =
      subst (λ d. (d ≤ 1) × ((d ≡ 1) ↔ (InSpan q n us x → ⊥))) (distance-symmetric q laws n vs us hv hu)
      (row-dropped q laws n vs us hv hu ws xs x f e)
