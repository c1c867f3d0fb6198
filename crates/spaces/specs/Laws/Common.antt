-- The common space of two lists of rows is what its name says.
--   common-kept     == the rows of its matrix are rows, reduced when joined
--   common-both     == v is in their span exactly where it is in that of either list
--   common-dimension == their dimension is their number
--   common-space    == the matrix is that of the common space
-- Assumes nothing.
use Rattle.std.specs.Prelude.{◌≡◌, refl, List, ◌++◌, ◌↔◌, ◌⊎◌, replicate}
use Rattle.std.proofs.Math.Path.{ap, sym}
use Rattle.std.proofs.Common.{ap₂, ◌∙◌, subst, inl, inr}
use Rattle.std.proofs.Math.Bool.{true, false}
use Prim.Native.Nat.{ℕ, ◌+◌, ◌≤◌, ◌<◌, Fin}
use Rattle.std.proofs.Math.ListN.{length}
use Rattle.basics.specs.Laws.Order.{le-or-lt}
use Rattle.field.specs.FieldLaws.{Laws}
use Rattle.linear.specs.Span.{All, Row, InSpan, SameSpan}
use Rattle.linear.specs.Eliminate.{lead_of, reduced_rows, dimension}
use Rattle.linear.specs.Laws.Every.{all_map}
use Rattle.linear.specs.Laws.Scalars.{Scalars, nought-plus, unit-times, nought-times, plus_times}
use Rattle.linear.specs.Laws.FieldSpan.{Spanned, spanned-same, spanned-scale, spanned-at}
use Rattle.linear.specs.Laws.Element.{scalars}
use Rattle.linear.specs.Laws.Entries.{at, Spans, EchelonRows, at_zero, row-beyond}
use Rattle.linear.specs.Laws.Coefficients.{span-spanned, spanned-span}
use Rattle.linear.specs.Laws.Mixture.{span-row, zero_row_lem, zero-entry}
use Rattle.linear.specs.Laws.FlatMatrix.{rows_join}
use Rattle.linear.specs.Laws.ReducedRows.{rows-sized, reduced-echelon, echelon-reduced}
use Rattle.linear.specs.Laws.InsertMany.{Kept}
use Rattle.linear.specs.Laws.ReducedOf.{reduced_rows-kept, reduced_rows-span}
use Rattle.linear.specs.Laws.SameMatrix.{reduced_rows-again}
use Rattle.spaces.specs.Spaces.{wide_rows, stacked, right_halves, common_rows, common_of, common_dimension, CommonSpace}
use Rattle.spaces.specs.Laws.Append.{Parted, spanned-part, part-spanned}
use Rattle.spaces.specs.Laws.Image.{image-spanned, spanned-image}
use Rattle.spaces.specs.Laws.Beside.{beside, beside-left, beside-right, beside-is, beside-itself, beside-nought, nought-beside}
use Rattle.spaces.specs.Laws.RightRows.{right_rows, right-spanned, spanned-right}
use Rattle.spaces.specs.Laws.Halves.{beside-row, at-beside, stacked-rows, twice-image, widened-image}
use Rattle.spaces.specs.Laws.Halves.{halves-rows, halves-image, halves-echelon}

module _ (q : ℕ) (laws : Laws q) (n : ℕ) where
  open scalars q laws use {nought, unit, ◌⊕◌, ◌⊗◌, minus, plus_assoc, plus-nought, plus-minus, times-nought}

  infixl 60 ◌⊕◌
  infixl 70 ◌⊗◌
  -- minus unit times a is what a lacks to zero
  pub minus-cancels : (a : Fin q) → a ⊕ minus unit ⊗ a ≡ nought
  minus-cancels a =
      ap (λ x. x ⊕ minus unit ⊗ a) (sym (unit-times (scalars q laws) a)) ∙ sym (plus_times (scalars q laws) unit (minus unit) a)
      ∙ ap (λ x. x ⊗ a) (plus-minus unit) ∙ nought-times (scalars q laws) a

  cancels-minus : (a b : Fin q) → a ⊕ b ≡ nought → a ≡ minus unit ⊗ b
  cancels-minus a b e =
      sym (plus-nought a) ∙ ap (λ x. a ⊕ x) (sym (minus-cancels b)) ∙ sym (plus_assoc a b (minus unit ⊗ b))
      ∙ ap (λ x. x ⊕ minus unit ⊗ b) e ∙ nought-plus (scalars q laws) (minus unit ⊗ b)

  module _ (us vs : List (List ℕ)) (hu : All (Row q n) us) (hv : All (Row q n) vs) where
    abbrev K : Scalars (Fin q)
    K = scalars q laws

    abbrev see : List ℕ → ℕ → Fin q
    see = at q laws

    -- zero beside w
    right : List ℕ → List ℕ
    right w = replicate n 0 ++ w

    at_right : (w : List ℕ) (j : ℕ) → see (right w) j ≡ beside n (λ i. nought) (see w) j
    unfolding right
    at_right w =
        beside-is n (λ i. nought) (see w) (see (right w))
        (λ j h. at-beside q laws n (replicate n 0) w (zero_row_lem q laws n) j ∙ beside-left n (see (replicate n 0)) (see w) j h
        ∙ at_zero q laws n (replicate n 0) j (zero-entry n j))
        (λ j. at-beside q laws n (replicate n 0) w (zero_row_lem q laws n) (n + j) ∙ beside-right n (see (replicate n 0)) (see w) j)

    -- a row is 0 past its end, and so is what rows span
    beyond : (w : List ℕ) → Row q n w → (j : ℕ) → n ≤ j → see w j ≡ nought
    beyond w hw j l = at_zero q laws n w j (row-beyond q laws n hw j l)

    pub spanned-beyond : {rows : List (List ℕ)} {v : ℕ → Fin q} → All (Row q n) rows → Spanned K see rows v → (j : ℕ) → n ≤ j → v j ≡ nought
    spanned-beyond h s j l = spanned-at K see j (all_map (λ r hr. beyond r hr j l) h) s

    -- zero beside w is a beside a and b beside zero together: then w is a, and takes b to zero
    same_half : (a b w : ℕ → Fin q)
        → ((j : ℕ) → beside n (λ i. nought) w j ≡ beside n a a j ⊕ beside n b (λ i. nought) j) → (j : ℕ) → w j ≡ a j
    same_half a b w e j =
        sym (beside-right n (λ i. nought) w j) ∙ e (n + j) ∙ ap₂ ◌⊕◌ (beside-right n a a j) (beside-right n b (λ i. nought) j)
        ∙ plus-nought (a j)

    other_half : (a b w : ℕ → Fin q)
        → ((j : ℕ) → beside n (λ i. nought) w j ≡ beside n a a j ⊕ beside n b (λ i. nought) j) → (j : ℕ) → j < n → a j ⊕ b j ≡ nought
    other_half a b w e j h =
        sym (ap₂ ◌⊕◌ (beside-left n a a j h) (beside-left n b (λ i. nought) j h)) ∙ sym (e j) ∙ beside-left n (λ i. nought) w j h

    -- what the stack spans with a zero left half
    stack-both : (w : List ℕ) → Row q n w → Spans q laws (stacked n us vs) (right w) → Spans q laws us w × Spans q laws vs w
    unfolding stacked
    stack-both w hw s = (spanned-same K see (see w) a.1 same, spanned-scale K see (see w) (minus unit) b.1 negative)
      where
        p : Parted K see (wide_rows true n us) (wide_rows false n vs) (see (right w))
        p = spanned-part K see (wide_rows true n us) (wide_rows false n vs) s

        a : (x : ℕ → Fin q) × Spanned K see us x × ((j : ℕ) → p.first j ≡ beside n x x j)
        a = spanned-image K see _ (beside-itself K n) (twice-image q laws n hu) p.first-spanned

        b : (x : ℕ → Fin q) × Spanned K see vs x × ((j : ℕ) → p.last j ≡ beside n x (λ i. nought) j)
        b = spanned-image K see _ (beside-nought K n) (widened-image q laws n hv) p.last-spanned

        sum : (j : ℕ) → beside n (λ i. nought) (see w) j ≡ beside n a.0 a.0 j ⊕ beside n b.0 (λ i. nought) j
        sum j = sym (at_right w j) ∙ p.sum j ∙ ap₂ ◌⊕◌ (a.2 j) (b.2 j)

        same : (j : ℕ) → see w j ≡ a.0 j
        same = same_half a.0 b.0 (see w) sum

        cases : (j : ℕ) → (n ≤ j) ⊎ (j < n) → see w j ≡ minus unit ⊗ b.0 j
        cases j (inl l) =
            beyond w hw j l ∙ sym (ap (λ x. minus unit ⊗ x) (spanned-beyond hv b.1 j l) ∙ times-nought (minus unit))
        cases j (inr h) = same j ∙ cancels-minus (a.0 j) (b.0 j) (other_half a.0 b.0 (see w) sum j h)

        negative : (j : ℕ) → see w j ≡ minus unit ⊗ b.0 j
        negative j = cases j (le-or-lt n j)

    both-stack : (w : List ℕ) → Spans q laws us w → Spans q laws vs w → Spans q laws (stacked n us vs) (right w)
    unfolding stacked
    both-stack w su sv =
        part-spanned K see (wide_rows true n us) (wide_rows false n vs)
        (record {
          first = beside n (see w) (see w);
          last = beside n negative (λ i. nought);
          first-spanned = image-spanned K see _ (beside-itself K n) (twice-image q laws n hu) su;
          last-spanned =
              image-spanned K see _ (beside-nought K n) (widened-image q laws n hv)
              (spanned-scale K see negative (minus unit) sv (λ j. refl));
          sum = λ j. at_right w j ∙ sym (cancelled j);
        })
      where
        negative : ℕ → Fin q
        negative j = minus unit ⊗ see w j

        cancelled : (j : ℕ) → beside n (see w) (see w) j ⊕ beside n negative (λ i. nought) j ≡ beside n (λ i. nought) (see w) j
        cancelled =
            beside-is n (λ i. nought) (see w) (λ j. beside n (see w) (see w) j ⊕ beside n negative (λ i. nought) j)
            (λ j h.
            ap₂ ◌⊕◌ (beside-left n (see w) (see w) j h) (beside-left n negative (λ i. nought) j h) ∙ minus-cancels (see w j))
            (λ j.
            ap₂ ◌⊕◌ (beside-right n (see w) (see w) j) (beside-right n negative (λ i. nought) j) ∙ plus-nought (see w j))

    -- the reduced rows of the stack
    stack : List (List ℕ)
    stack = reduced_rows q (n + n) (stacked n us vs)

    stack-kept : Kept q (n + n) stack
    unfolding stack
    stack-kept = reduced_rows-kept q laws (n + n) (stacked n us vs) (stacked-rows q laws n hu hv)

    stack-echelon : EchelonRows q laws (n + n) 0 stack
    stack-echelon =
        subst (EchelonRows q laws (n + n) 0) (rows_join (n + n) (rows-sized q (n + n) stack-kept.rows))
        (reduced-echelon q laws (n + n) stack-kept.reduced)

    -- what they span with a zero left half, the right halves span
    stack-halves : (w : List ℕ) → Spans q laws stack (right w) → Spans q laws (right_halves n stack) w
    stack-halves w s = spanned-same K see (see w) y.1 same
      where
        x : Spans q laws (right_rows (lead_of (n + n)) n stack) (right w)
        x =
            right-spanned K see (lead_of (n + n)) n stack-echelon s
            (λ j h. at_right w j ∙ beside-left n (λ i. nought) (see w) j h)

        y : (v : ℕ → Fin q) × Spanned K see (right_halves n stack) v × ((j : ℕ) → see (right w) j ≡ beside n (λ i. nought) v j)
        y = spanned-image K see _ (nought-beside K n) (halves-image q laws n stack) x

        same : (j : ℕ) → see w j ≡ y.0 j
        same j =
            sym (beside-right n (λ i. nought) (see w) j) ∙ sym (at_right w (n + j)) ∙ y.2 (n + j) ∙ beside-right n (λ i. nought) y.0 j

    halves-stack : (w : List ℕ) → Spans q laws (right_halves n stack) w → Spans q laws stack (right w)
    halves-stack w s =
        spanned-same K see (see (right w))
        (spanned-right K see (lead_of (n + n)) n stack (image-spanned K see _ (nought-beside K n) (halves-image q laws n stack) s))
        (at_right w)

    pub common-rows : All (Row q n) (common_rows q n us vs)
    unfolding common_rows stack
    common-rows = halves-rows q laws n stack-kept.rows

    pub common-kept : Kept q n (common_rows q n us vs)
    unfolding common_rows stack
    common-kept =
        record {
          rows = common-rows;
          reduced = echelon-reduced q laws n (common_rows q n us vs) common-rows (halves-echelon q laws n stack-kept.rows stack-echelon);
        }

    right-row : (w : List ℕ) → Row q n w → Row q (n + n) (right w)
    unfolding right
    right-row w hw = beside-row q laws n (zero_row_lem q laws n) hw

    pub common-both : (v : List ℕ) → InSpan q n (common_rows q n us vs) v ↔ (InSpan q n us v × InSpan q n vs v)
    unfolding common_rows stack SameSpan
    common-both v = (there, back)
      where
        same : SameSpan q (n + n) stack (stacked n us vs)
        same = reduced_rows-span q laws (n + n) (stacked n us vs) (stacked-rows q laws n hu hv)

        there : InSpan q n (common_rows q n us vs) v → InSpan q n us v × InSpan q n vs v
        there s =
            let hv' : Row q n v = span-row q laws n (common_rows q n us vs) common-rows v s in
            let held = spanned-span q laws (n + n) stack-kept.rows (right-row v hv')
            (halves-stack v (span-spanned q laws n v common-rows s)) in
            let given = span-spanned q laws (n + n) (right v) (stacked-rows q laws n hu hv) ((same (right v)).0 held) in
            let parts = stack-both v hv' given in
            (spanned-span q laws n hu hv' parts.0, spanned-span q laws n hv hv' parts.1)

        back : InSpan q n us v × InSpan q n vs v → InSpan q n (common_rows q n us vs) v
        back (su, sv) =
            let hv' : Row q n v = span-row q laws n us hu v su in
            let given = both-stack v (span-spanned q laws n v hu su) (span-spanned q laws n v hv sv) in
            let held = (same (right v)).1 (spanned-span q laws (n + n) (stacked-rows q laws n hu hv) (right-row v hv') given) in
            spanned-span q laws n common-rows hv' (stack-halves v (span-spanned q laws (n + n) (right v) stack-kept.rows held))

    pub common-dimension : dimension q n (common_rows q n us vs) ≡ common_dimension q n us vs
    unfolding dimension common_dimension
    common-dimension = ap length (reduced_rows-again q laws n (common_rows q n us vs) common-rows common-kept.reduced)

    pub common-space : CommonSpace q n us vs (common_dimension q n us vs) (common_of q n us vs)
    unfolding common_dimension common_of
    common-space =
        record {
          reduced = common-kept.reduced;
          both = λ v. rw (rows_join n (rows-sized q n common-rows)) (common-both v);
        }
