-- The leads of rows, with entries as elements of the field; no part of the meaning.
--   lead_of-le        == a lead is at most n
--   at_before        == before its lead a row is 0
--   at-lead-nonzero  == at its lead it is not 0, if that is below n
--   lead-none, none-lead == a row has the lead n exactly where it is 0 at every column
--   lead-at          == a row that is 1 at p and 0 before p has the lead p
-- Assumes nothing.
use Rattle.std.specs.Prelude.{◌≡◌, List, ◌⊎◌, ℕ, ◌≤◌, ◌<◌}
use Rattle.std.proofs.Common.{sym, ◌∙◌, inl, inr, arith}
use Rattle.std.proofs.Math.ListN.{get_or}
use Rattle.basics.specs.Laws.Order.{le-or-lt}
use Rattle.field.specs.FieldLaws.{Laws}
use Rattle.linear.specs.Span.{Row}
use Rattle.linear.specs.Eliminate.{lead_of}
use Rattle.linear.specs.Laws.Element.{scalars}
use Rattle.matrix.specs.Laws.Lead.{lead-le, lead-before, lead-nonzero, lead-unique}
use Rattle.linear.specs.Laws.Entries.{at, row-beyond, at_zero, zero-at, one-within}

module _ (q : ℕ) (laws : Laws q) (n : ℕ) where
  open scalars q laws use {nought, unit, unit-nonzero}

  pub lead_of-le : (r : List ℕ) → lead_of n r ≤ n
  unfolding lead_of
  lead_of-le r = lead-le (λ j. get_or r j 0) n

  pub at_before : (r : List ℕ) (j : ℕ) → j < lead_of n r → at q laws r j ≡ nought
  unfolding lead_of
  at_before r j h = at_zero q laws n r j (lead-before (λ i. get_or r i 0) n j h)

  module _ (v : List ℕ) (hv : Row q n v) where
    pub at-lead-nonzero : lead_of n v < n → at q laws v (lead_of n v) ≡ nought → ⊥
    unfolding lead_of
    at-lead-nonzero h z = lead-nonzero (λ j. get_or v j 0) n h (zero-at q laws n hv (lead_of n v) z)

    pub lead-none : ((j : ℕ) → at q laws v j ≡ nought) → lead_of n v ≡ n
    unfolding lead_of
    lead-none z = lead-unique (λ j. get_or v j 0) n n (omega arith) (λ j h. zero-at q laws n hv j (z j)) (λ h. absurd (omega arith))

    pub none-lead : lead_of n v ≡ n → (j : ℕ) → at q laws v j ≡ nought
    none-lead e j = cases (le-or-lt n j)
      where
        cases : (n ≤ j) ⊎ (j < n) → at q laws v j ≡ nought
        cases (inl h) = at_zero q laws n v j (row-beyond q laws n hv j h)
        cases (inr h) = at_before v j (omega arith)

    pub lead-at : (p : ℕ) → ((j : ℕ) → j < p → at q laws v j ≡ nought) → at q laws v p ≡ unit → lead_of n v ≡ p
    unfolding lead_of
    lead-at p before one =
        lead-unique (λ j. get_or v j 0) n p (omega (arith, one-within q laws n hv p one)) (λ j h. zero-at q laws n hv j (before j h))
        (λ h z. unit-nonzero (sym one ∙ at_zero q laws n v p z))
