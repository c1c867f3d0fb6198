-- Linear combinations of lists of bytes, as combinations over the field; no part of the meaning.
--   combination-row  == a linear combination of rows is a row
--   span-spanned     == what is in the span of rows is spanned over the field
--   spanned-span     == a row that is spanned over the field is in the span
-- Assumes nothing.
use Rattle.std.specs.Prelude.{◌≡◌, List, [], ◌∷◌, length, get_or}
use Rattle.std.proofs.Math.Path.{refl, ap, ap₂, sym, subst}
use Rattle.std.proofs.Common.{◌∙◌, arith}
use Prim.Native.Nat.{ℕ, suc, ◌≤◌, ◌<◌, Fin}
use Rattle.field.specs.Field.{add, multiply}
use Rattle.field.specs.FieldLaws.{Laws}
use Rattle.linear.specs.Span.{All, none, more, Row, combination_at, combination, InSpan}
use Rattle.linear.specs.Laws.FieldSpan.{Spanned, nothing, adding, spanned-same}
use Rattle.linear.specs.Laws.Element.{scalars, element, element-zero, element-add, element-multiply, element-of}
use Rattle.linear.specs.Laws.Entries.{at, Spans, row_below, row-beyond, row_same, row-tabulate, at-tabulate}

module _ (q : ℕ) (laws : Laws q) (n : ℕ) where
  open scalars q laws use {◌⊕◌, ◌⊗◌}

  infixl 60 ◌⊕◌
  infixl 70 ◌⊗◌
  entry-below : {cs : List ℕ} {rows : List (List ℕ)} → All (λ c. c < q) cs → All (Row q n) rows → (j : ℕ) → combination_at q cs rows j < q
  unfolding combination_at
  entry-below none h j = omega (arith, laws.one_below)
  entry-below (more c cs) none j = omega (arith, laws.one_below)
  entry-below (more {x = a} c cs) (more {x = r} h hs) j =
      laws.add-below (multiply q a (get_or r j 0)) (laws.multiply-below a c (get_or r j 0) (row_below q laws n h j)) _ (entry-below cs hs j)

  entry-beyond : {cs : List ℕ} {rows : List (List ℕ)} → All (λ c. c < q) cs → All (Row q n) rows → (j : ℕ) → n ≤ j
      → combination_at q cs rows j ≡ 0
  unfolding combination_at
  entry-beyond none h j l = refl
  entry-beyond (more c cs) none j l = refl
  entry-beyond (more {x = a} c cs) (more {x = r} h hs) j l =
      ap₂ (λ x y. add q (multiply q a x) y) (row-beyond q laws n h j l) (entry-beyond cs hs j l)
      ∙ ap (λ x. add q x 0) (laws.multiply-zero a c) ∙ laws.add-zero 0 (omega (arith, laws.one_below))

  pub combination-row : {cs : List ℕ} {rows : List (List ℕ)} → All (λ c. c < q) cs → All (Row q n) rows → Row q n (combination q n cs rows)
  unfolding combination
  combination-row {cs} {rows} cb h = row-tabulate q laws n (combination_at q cs rows) (entry-below cb h)

  at-combination : {cs : List ℕ} {rows : List (List ℕ)} → All (λ c. c < q) cs → All (Row q n) rows → (j : ℕ)
      → at q laws (combination q n cs rows) j ≡ element q laws (combination_at q cs rows j)
  unfolding combination
  at-combination {cs} {rows} cb h j = at-tabulate q laws n (combination_at q cs rows) (entry-beyond cb h) j

  entry-step : {a : ℕ} {r cs : List ℕ} {rows : List (List ℕ)} → a < q → All (λ c. c < q) cs → Row q n r → All (Row q n) rows → (j : ℕ)
      → element q laws (combination_at q (a ∷ cs) (r ∷ rows) j)
      ≡ element q laws a ⊗ at q laws r j ⊕ element q laws (combination_at q cs rows j)
  unfolding combination_at at
  entry-step {a} {r} {cs} {rows} ab cb h hs j =
      element-add q laws (multiply q a (get_or r j 0)) (laws.multiply-below a ab (get_or r j 0) (row_below q laws n h j))
      (combination_at q cs rows j) (entry-below cb hs j)
      ∙ ap (λ x. x ⊕ element q laws (combination_at q cs rows j)) (element-multiply q laws a ab (get_or r j 0) (row_below q laws n h j))

  entries-spanned : {cs : List ℕ} {rows : List (List ℕ)} → length cs ≡ length rows → All (λ c. c < q) cs → All (Row q n) rows
      → Spanned (scalars q laws) (at q laws) rows (λ j. element q laws (combination_at q cs rows j))
  unfolding combination_at
  entries-spanned l none none = nothing (λ j. element-zero q laws)
  entries-spanned l none (more h hs) = absurd (omega arith)
  entries-spanned l (more c cs) none = absurd (omega arith)
  entries-spanned l (more {x = a} {xs = others} c cs) (more {xs = rows} h hs) =
      adding (element q laws a) (λ j. element q laws (combination_at q others rows j)) (entries-spanned (omega arith) cs hs)
      (entry-step c cs h hs)

  pub span-spanned : {rows : List (List ℕ)} (v : List ℕ) → All (Row q n) rows → InSpan q n rows v → Spans q laws rows v
  unfolding InSpan
  span-spanned {rows} v h (cs, l, b, e) =
      subst (Spans q laws rows) e (spanned-same _ _ _ (entries-spanned l b h) (at-combination b h))

  -- coefficients for what is spanned
  Coefficients : List (List ℕ) → (ℕ → Fin q) → Type 0
  Coefficients rows v =
      (cs : List ℕ) × (length cs ≡ length rows) × All (λ c. c < q) cs × ((j : ℕ) → element q laws (combination_at q cs rows j) ≡ v j)

  coefficients : {rows : List (List ℕ)} {v : ℕ → Fin q} → All (Row q n) rows → Spanned (scalars q laws) (at q laws) rows v
      → Coefficients rows v
  unfolding Coefficients combination_at
  coefficients none (nothing z) = ([], refl, none, λ j. element-zero q laws ∙ sym (z j))
  coefficients {v = v} (more {x = r} {xs = rows} h hs) (adding c w s e) = step (coefficients hs s)
    where
      step : Coefficients rows w → Coefficients (r ∷ rows) v
      step (cs, l, b, g) = (
        c.0 ∷ cs,
        ap suc l,
        more c.1 b,
        λ j. entry-step c.1 b h hs j ∙ ap₂ (λ x y. x ⊗ at q laws r j ⊕ y) (element-of q laws c) (g j) ∙ sym (e j),
      )

  pub spanned-span : {rows : List (List ℕ)} {v : List ℕ} → All (Row q n) rows → Row q n v → Spans q laws rows v → InSpan q n rows v
  unfolding InSpan Coefficients
  spanned-span {rows} {v} h hv s = step (coefficients h s)
    where
      step : Coefficients rows (at q laws v) → InSpan q n rows v
      step (cs, l, b, e) = (cs, l, b, row_same q laws n _ v (combination-row b h) hv (λ j. at-combination b h j ∙ e j))
