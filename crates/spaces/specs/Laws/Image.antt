-- The image of a span under a linear map, over any field; vectors are functions of the column.
--   Linear K φ      == φ is a linear map of vectors
--   Image K at φ xs ys == ys are the images of the rows xs, one for each
--   image-spanned   == the image of what xs span is spanned by ys
--   spanned-image   == what ys span is the image of something that xs span
-- Assumes nothing.
use Rattle.std.specs.Prelude.{◌≡◌, refl, List, [], ◌∷◌, ℕ}
use Rattle.std.proofs.Common.{ap, ap₂, sym, ◌∙◌}
use Rattle.linear.specs.Laws.Scalars.{Scalars}
use Rattle.linear.specs.Laws.FieldSpan.{Spanned, nothing, adding}

pub record Linear {F : Type 0} (K : Scalars F) (φ : (ℕ → F) → ℕ → F) : Type 0 where
  pub none : (v : ℕ → F) → ((j : ℕ) → v j ≡ K.nought) → (j : ℕ) → φ v j ≡ K.nought
  pub mix : (c : F) (u w v : ℕ → F) → ((j : ℕ) → v j ≡ K.◌⊕◌ (K.◌⊗◌ c (u j)) (w j))
      → (j : ℕ) → φ v j ≡ K.◌⊕◌ (K.◌⊗◌ c (φ u j)) (φ w j)

pub data Image {F A : Type 0} (K : Scalars F) (at : A → ℕ → F) (φ : (ℕ → F) → ℕ → F) : List A → List A → Type 0 where
  no_rows : Image K at φ [] []
  row : {r s : A} {rs ss : List A} → ((j : ℕ) → at s j ≡ φ (at r) j) → Image K at φ rs ss → Image K at φ (r ∷ rs) (s ∷ ss)

module _ {F A : Type 0} (K : Scalars F) (at : A → ℕ → F) (φ : (ℕ → F) → ℕ → F) (L : Linear K φ) where
  open K use {nought, ◌⊕◌, ◌⊗◌}

  infixl 60 ◌⊕◌
  infixl 70 ◌⊗◌
  pub image-spanned : {rs ss : List A} {v : ℕ → F} → Image K at φ rs ss → Spanned K at rs v → Spanned K at ss (φ v)
  image-spanned {v = v} no_rows (nothing z) = nothing (L.none v z)
  image-spanned {v = v} (row {r = r} e i) (adding c w s g) =
      adding c (φ w) (image-spanned i s) (λ j. L.mix c (at r) w v g j ∙ ap (λ x. c ⊗ x ⊕ φ w j) (sym (e j)))

  pub spanned-image : {rs ss : List A} {x : ℕ → F} → Image K at φ rs ss → Spanned K at ss x
      → (v : ℕ → F) × Spanned K at rs v × ((j : ℕ) → x j ≡ φ v j)
  spanned-image no_rows (nothing z) =
      (λ j. nought, nothing (λ j. refl), λ j. z j ∙ sym (L.none (λ i. nought) (λ i. refl) j))
  spanned-image (row {r = r} e i) (adding c w s g) =
      let p = spanned-image i s in (
        λ j. c ⊗ at r j ⊕ p.0 j,
        adding c p.0 p.1 (λ j. refl),
        λ j. g j ∙ ap₂ (λ x y. c ⊗ x ⊕ y) (e j) (p.2 j) ∙ sym (L.mix c (at r) p.0 (λ k. c ⊗ at r k ⊕ p.0 k) (λ k. refl) j),
      )
