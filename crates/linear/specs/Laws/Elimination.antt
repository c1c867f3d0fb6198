-- The steps of elimination on lists of bytes, as steps over the field; no part of the meaning.
--   eliminate-row, eliminate-takes == eliminate q n r v is a row: v less as often r as v has entry at r's lead
--   monic-row, at-monic  == monic q n v is a row: v scaled by the inverse of its entry at its lead
-- Assumes nothing.
use Rattle.std.specs.Prelude.{◌≡◌, List, ℕ, ◌≤◌, ◌<◌, get_or}
use Rattle.std.proofs.Math.Path.{ap}
use Rattle.std.proofs.Common.{ap₂, ◌∙◌, arith}
use Rattle.field.specs.Field.{add, multiply, negate, invert}
use Rattle.field.specs.FieldLaws.{Laws}
use Rattle.linear.specs.Span.{Row}
use Rattle.linear.specs.Eliminate.{lead_of, eliminate, monic}
use Rattle.linear.specs.Laws.Residual.{TakenOff}
use Rattle.linear.specs.Laws.Element.{scalars, element, element-add, element-multiply, element-negate, element-invert}
use Rattle.linear.specs.Laws.Entries.{at, row_below, row-beyond, row-tabulate, at-tabulate}

module _ (q : ℕ) (laws : Laws q) (n : ℕ) where
  open scalars q laws use {◌⊕◌, ◌⊗◌, inverse}

  infixl 60 ◌⊕◌
  infixl 70 ◌⊗◌
  module _ (r v : List ℕ) (hr : Row q n r) (hv : Row q n v) where
    times : ℕ
    times = negate q (get_or v (lead_of n r) 0)

    times_below : times < q
    unfolding times
    times_below = laws.negate-below (get_or v (lead_of n r) 0) (row_below q laws n hv (lead_of n r))

    product-below : (j : ℕ) → multiply q times (get_or r j 0) < q
    product-below j = laws.multiply-below times times_below (get_or r j 0) (row_below q laws n hr j)

    pub eliminate-row : Row q n (eliminate q n r v)
    unfolding eliminate times
    eliminate-row = row-tabulate q laws n _ (λ j. laws.add-below (get_or v j 0) (row_below q laws n hv j) _ (product-below j))

    beyond : (j : ℕ) → n ≤ j → add q (get_or v j 0) (multiply q times (get_or r j 0)) ≡ 0
    beyond j h =
        ap₂ (λ x y. add q x (multiply q times y)) (row-beyond q laws n hv j h) (row-beyond q laws n hr j h)
        ∙ ap (add q 0) (laws.multiply-zero times times_below) ∙ laws.add-zero 0 (omega (arith, laws.one_below))

    pub eliminate-takes : TakenOff (scalars q laws) (at q laws) r (at q laws v (lead_of n r)) v (eliminate q n r v)
    unfolding eliminate times at
    eliminate-takes j =
        at-tabulate q laws n _ beyond j
        ∙ element-add q laws (get_or v j 0) (row_below q laws n hv j) (multiply q times (get_or r j 0)) (product-below j)
        ∙ ap (λ x. element q laws (get_or v j 0) ⊕ x) (element-multiply q laws times times_below (get_or r j 0) (row_below q laws n hr j))
        ∙ ap (λ x. element q laws (get_or v j 0) ⊕ x ⊗ element q laws (get_or r j 0))
        (element-negate q laws (get_or v (lead_of n r) 0) (row_below q laws n hv (lead_of n r)))

  module _ (v : List ℕ) (hv : Row q n v) where
    scale : ℕ
    scale = invert q (get_or v (lead_of n v) 0)

    scale-below : scale < q
    unfolding scale
    scale-below = laws.invert-below (get_or v (lead_of n v) 0) (row_below q laws n hv (lead_of n v))

    pub monic-row : Row q n (monic q n v)
    unfolding monic scale
    monic-row = row-tabulate q laws n _ (λ j. laws.multiply-below scale scale-below (get_or v j 0) (row_below q laws n hv j))

    pub at-monic : (j : ℕ) → at q laws (monic q n v) j ≡ inverse (at q laws v (lead_of n v)) ⊗ at q laws v j
    unfolding monic scale at
    at-monic j =
        at-tabulate q laws n _ (λ i h. ap (multiply q scale) (row-beyond q laws n hv i h) ∙ laws.multiply-zero scale scale-below) j
        ∙ element-multiply q laws scale scale-below (get_or v j 0) (row_below q laws n hv j)
        ∙ ap (λ x. x ⊗ element q laws (get_or v j 0)) (element-invert q laws (get_or v (lead_of n v) 0) (row_below q laws n hv (lead_of n v)))
