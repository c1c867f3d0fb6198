-- A product that is told by dividing; no part of the meaning.
--   product-exact    == where the quotient is the other factor, a number is the product exactly when nothing remains
--   product-other    == where it is not, the number is not the product
-- Assumes nothing.
use Rattle.std.specs.Prelude.{◌≡◌, false, ℕ, ◌+◌, ◌*◌, ◌/◌, ◌%◌, ◌<◌, eqb}
use Rattle.std.proofs.Common.{ap, sym, ◌∙◌, div-add-mod', mul-div_cancel, arith, eq-eqb, ne_eqb}
use Rattle.std.proofs.Math.Decide.{ℕ_discrete}

module _ (number count size : ℕ) where
  pub product-exact : number / size ≡ count → eqb (number % size) 0 ≡ eqb number (count * size)
  product-exact e = cases (ℕ_discrete (number % size) 0)
    where
      whole : count * size + number % size ≡ number
      whole = ap (λ x. x * size + number % size) (sym e) ∙ div-add-mod' number size

      cases : Dec (number % size ≡ 0) → eqb (number % size) 0 ≡ eqb number (count * size)
      cases (yes z) = eq-eqb (number % size) 0 z ∙ sym (eq-eqb number (count * size) (omega (arith, whole)))
      cases (no z) = ne_eqb (number % size) 0 z ∙ sym (ne_eqb number (count * size) (λ s. z (omega (arith, whole))))

  pub product-other : 0 < size → (number / size ≡ count → ⊥) → false ≡ eqb number (count * size)
  product-other h other =
      sym (ne_eqb number (count * size) (λ s. other (ap (λ x. x / size) s ∙ mul-div_cancel count h)))
