-- Two vectors side by side, over any field: one in the first n columns, the other from column n on.
--   beside n x y    == x in the columns before n, then y
--   beside-left, beside-right == its columns
--   beside-is       == a vector with these columns
--   beside-itself, beside-nought, nought-beside == a vector beside itself, beside zero, and zero beside it: linear maps
-- Assumes nothing.
use Rattle.std.specs.Prelude.{◌≡◌, refl, ◌⊎◌, ℕ, ◌+◌, ◌-◌, ◌≤◌, ◌<◌, ltb}
use Rattle.std.proofs.Common.{ap, ap₂, sym, ◌∙◌, inl, inr, arith, lt-ltb, le-ltb}
use Rattle.basics.specs.Choice.{pick}
use Rattle.basics.specs.Laws.Order.{le-or-lt}
use Rattle.linear.specs.Laws.Scalars.{Scalars}
use Rattle.spaces.specs.Laws.Image.{Linear}

unfoldable pub beside : {F : Type 0} → ℕ → (ℕ → F) → (ℕ → F) → ℕ → F
beside n x y j = pick (ltb j n) (x j) (y (j - n))

module _ {F : Type 0} (n : ℕ) (x y : ℕ → F) where
  pub beside-left : (j : ℕ) → j < n → beside n x y j ≡ x j
  unfolding beside
  beside-left j h = rw (lt-ltb j n h)

  pub beside-right : (j : ℕ) → beside n x y (n + j) ≡ y j
  unfolding beside
  beside-right j = rw (le-ltb (n + j) n (omega arith)) (ap y (omega arith))

  pub beside-is : (v : ℕ → F) → ((j : ℕ) → j < n → v j ≡ x j) → ((j : ℕ) → v (n + j) ≡ y j) → (j : ℕ) → v j ≡ beside n x y j
  beside-is v left right j = cases (le-or-lt n j)
    where
      cases : (n ≤ j) ⊎ (j < n) → v j ≡ beside n x y j
      cases (inl h) =
          let e : n + (j - n) ≡ j = omega arith in
          ap v (sym e) ∙ right (j - n) ∙ sym (beside-right (j - n)) ∙ ap (beside n x y) e
      cases (inr h) = left j h ∙ sym (beside-left j h)

module _ {F : Type 0} (K : Scalars F) (n : ℕ) where
  open K use {nought, ◌⊕◌, ◌⊗◌, plus-nought, times-nought}

  infixl 60 ◌⊕◌
  infixl 70 ◌⊗◌
  -- two linear maps side by side are one
  besides : (φ ψ : (ℕ → F) → ℕ → F) → Linear K φ → Linear K ψ → Linear K (λ v. beside n (φ v) (ψ v))
  besides φ ψ f g =
      record {
        none = λ v z j. sym (beside-is n (φ v) (ψ v) (λ i. nought) (λ i h. sym (f.none v z i)) (λ i. sym (g.none v z i)) j);
        mix =
            λ c u w v e j.
            sym (beside-is n (φ v) (ψ v) (λ i. c ⊗ beside n (φ u) (ψ u) i ⊕ beside n (φ w) (ψ w) i)
            (λ i h. ap₂ (λ a b. c ⊗ a ⊕ b) (beside-left n (φ u) (ψ u) i h) (beside-left n (φ w) (ψ w) i h) ∙ sym (f.mix c u w v e i))
            (λ i. ap₂ (λ a b. c ⊗ a ⊕ b) (beside-right n (φ u) (ψ u) i) (beside-right n (φ w) (ψ w) i) ∙ sym (g.mix c u w v e i)) j);
      }

  itself : Linear K (λ v. v)
  itself = record { none = λ v z. z; mix = λ c u w v e. e }

  zero-map : Linear K (λ v j. nought)
  zero-map =
      record {
        none = λ v z j. refl;
        mix = λ c u w v e j. sym (plus-nought (c ⊗ nought) ∙ times-nought c);
      }

  pub beside-itself : Linear K (λ v. beside n v v)
  beside-itself = besides (λ v. v) (λ v. v) itself itself

  pub beside-nought : Linear K (λ v. beside n v (λ j. nought))
  beside-nought = besides (λ v. v) (λ v j. nought) itself zero-map

  pub nought-beside : Linear K (λ v. beside n (λ j. nought) v)
  nought-beside = besides (λ v j. nought) (λ v. v) zero-map itself
