-- The span of a list of rows is closed, and mixing mixtures leads nowhere else. Document 01: "A mixture of a list of rows is their sum,
-- entry by entry, each row first multiplied by a number below q of its own."
--   span-row      == what is in the span is a row
--   span-each     == every row of the list is in the span
--   zero_row_lem, span-zero == the zero row is a row, and is in the span
--   span-closed   == a linear combination of rows of the span is in the span
--   span-mix      == the same for two rows, a·u + b·v
--   span-through  == the span of rows of a span lies within it
--   span_same     == two lists of rows, each within the other's span, have the same span
--   mixed-in-span == what is Mixed from the rows is their span and nothing else
-- Assumes nothing.
use Rattle.std.specs.Prelude.{◌≡◌, refl, List, [], ◌∷◌, ◌↔◌, ℕ, zero, suc, ◌<◌, length, get_or, replicate}
use Rattle.std.proofs.Math.Path.{subst}
use Rattle.std.proofs.Common.{arith}
use Rattle.std.proofs.lemmas.List.{length-replicate}
use Rattle.field.specs.FieldLaws.{Laws}
use Rattle.linear.specs.Span.{All, none, more, Row, combination, InSpan, SameSpan, Mixed, given, mixed}
use Rattle.linear.specs.Laws.Every.{all_map, all_both, all-at, all_of}
use Rattle.linear.specs.Laws.FieldSpan.{spanned-each, spanned-through, spanned-nought}
use Rattle.linear.specs.Laws.Element.{scalars}
use Rattle.linear.specs.Laws.Entries.{at, Spans, at_zero}
use Rattle.linear.specs.Laws.Coefficients.{combination-row, span-spanned, spanned-span}

-- the zero row is 0 at every column, past its end too
pub zero-entry : (n j : ℕ) → get_or {A = ℕ} (replicate n 0) j 0 ≡ 0
zero-entry zero j = refl
zero-entry (suc n) zero = refl
zero-entry (suc n) (suc j) = zero-entry n j

module _ (q : ℕ) (laws : Laws q) (n : ℕ) where
  pub span-row : (rows : List (List ℕ)) → All (Row q n) rows → (v : List ℕ) → InSpan q n rows v → Row q n v
  unfolding InSpan
  span-row rows h v (cs, l, b, e) = subst (Row q n) e (combination-row q laws n b h)

  pub span-each : (rows : List (List ℕ)) → All (Row q n) rows → All (InSpan q n rows) rows
  span-each rows h = all_both (λ r hr s. spanned-span q laws n h hr s) h (spanned-each (scalars q laws) (at q laws) rows)

  pub zero_row_lem : Row q n (replicate n 0)
  zero_row_lem = (length-replicate n 0, all_of 0 (replicate n 0) (λ i h. rw (zero-entry n i) (omega (arith, laws.one_below))))

  pub span-zero : (rows : List (List ℕ)) → All (Row q n) rows → InSpan q n rows (replicate n 0)
  span-zero rows h =
      spanned-span q laws n h zero_row_lem
      (spanned-nought _ _ rows (at q laws (replicate n 0)) (λ j. at_zero q laws n (replicate n 0) j (zero-entry n j)))

  pub span-through : (rows others : List (List ℕ)) → All (Row q n) rows → All (InSpan q n rows) others → (v : List ℕ)
      → InSpan q n others v → InSpan q n rows v
  span-through rows others h each v s =
      spanned-span q laws n h (span-row others others-rows v s) (spanned-through _ _ spanned (span-spanned q laws n v others-rows s))
    where
      others-rows : All (Row q n) others
      others-rows = all_map (span-row rows h) each

      spanned : All (Spans q laws rows) others
      spanned = all_map (λ r. span-spanned q laws n r h) each

  pub span_same : (rows others : List (List ℕ)) → All (Row q n) rows → All (Row q n) others → All (InSpan q n others) rows
      → All (InSpan q n rows) others → SameSpan q n rows others
  unfolding SameSpan
  span_same rows others h g there back v = (span-through others rows g there v, span-through rows others h back v)

  pub span-closed : (rows others : List (List ℕ)) → All (Row q n) rows → All (InSpan q n rows) others → (cs : List ℕ)
      → length cs ≡ length others → All (λ c. c < q) cs → InSpan q n rows (combination q n cs others)
  unfolding InSpan
  span-closed rows others h each cs l b = span-through rows others h each (combination q n cs others) (cs, l, b, refl)

  pub span-mix : (rows : List (List ℕ)) → All (Row q n) rows → (a : ℕ) → a < q → (u : List ℕ) → InSpan q n rows u
      → (b : ℕ) → b < q → (v : List ℕ) → InSpan q n rows v → InSpan q n rows (combination q n (a ∷ b ∷ []) (u ∷ v ∷ []))
  span-mix rows h a ha u hu b hb v hv = span-closed rows (u ∷ v ∷ []) h (more hu (more hv none)) (a ∷ b ∷ []) refl (more ha (more hb none))

  mixed-span : (rows : List (List ℕ)) → All (Row q n) rows → (v : List ℕ) → Mixed q n rows v → InSpan q n rows v
  mixed-span rows h v (given i l) = all-at (span-each rows h) [] i l
  mixed-span rows h v (mixed cs vs l b each) =
      span-closed rows vs h (all_of [] vs (λ i g. mixed-span rows h (get_or vs i []) (each i g))) cs l b

  span-mixed : (rows : List (List ℕ)) (v : List ℕ) → InSpan q n rows v → Mixed q n rows v
  unfolding InSpan
  span-mixed rows v (cs, l, b, e) = subst (Mixed q n rows) e (mixed cs rows l b (λ i g. given i g))

  pub mixed-in-span : (rows : List (List ℕ)) → All (Row q n) rows → (v : List ℕ) → Mixed q n rows v ↔ InSpan q n rows v
  mixed-in-span rows h v = (mixed-span rows h v, span-mixed rows v)
