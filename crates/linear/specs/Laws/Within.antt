-- Reduced rows within the span of reduced rows; no part of the meaning. The first lead of the smaller list is the first lead of the
-- larger or lies after it; either way the top row falls off and the rest goes by recursion.
--   echelon-within == they are no more, and where they are as many they are the same
-- Assumes nothing.
use Rattle.std.specs.Prelude.{◌≡◌, refl, List, ◌∷◌, ◌⊎◌, ℕ, ◌≤◌, ◌<◌, length}
use Rattle.std.proofs.Common.{ap, ap₂, sym, ◌∙◌, subst, inl, inr, arith}
use Rattle.basics.specs.Laws.Order.{trichotomy}
use Rattle.linear.specs.Span.{All, more}
use Rattle.linear.specs.Laws.Every.{all_both}
use Rattle.linear.specs.Laws.Scalars.{Scalars, nought-plus, unit-times}
use Rattle.linear.specs.Laws.FieldSpan.{Spanned, nothing, adding, spanned-at}
use Rattle.linear.specs.Laws.Echelon.{Echelon, empty, under, echelon-one, echelon-clear, echelon-tail, echelon-first, echelon-before}
use Rattle.linear.specs.Laws.Echelon.{echelon-coefficient, echelon-rest, echelon-nought}

module _ {F A : Type 0} (K : Scalars F) (at : A → ℕ → F) (lead : A → ℕ) (Good : A → Type 0)
    (same : (r s : A) → Good r → Good s → ((j : ℕ) → at r j ≡ at s j) → r ≡ s) where
  open K use {nought, unit, ◌⊕◌, ◌⊗◌, plus-nought, times-nought, unit-nonzero}

  infixl 60 ◌⊕◌
  infixl 70 ◌⊗◌
  -- the rows R are in the span of M's rows but for the top one, where R is zero at the top one's lead
  all_rest : {lo : ℕ} {m : A} {R M : List A} → Echelon K at lead lo (m ∷ M) → All (λ r. at r (lead m) ≡ nought) R
      → All (λ r. Spanned K at (m ∷ M) (at r)) R → All (λ r. Spanned K at M (at r)) R
  all_rest ech = all_both (λ r z s. echelon-rest K at lead ech s z)

  -- two top rows with the same lead, both 0 at the leads of the rows M below
  top-same : {lo : ℕ} {m : A} {M : List A} (r : A) → Echelon K at lead lo (m ∷ M) → Spanned K at (m ∷ M) (at r)
      → at r (lead m) ≡ unit → All (λ x. at r (lead x) ≡ nought) M → (j : ℕ) → at r j ≡ at m j
  top-same {m = m} {M} r ech (adding c w s e) u z j =
      e j ∙ ap₂ (λ x y. x ⊗ at m j ⊕ y) c1 (echelon-nought K at lead (echelon-tail K at lead ech) s w-nought j)
      ∙ plus-nought (unit ⊗ at m j) ∙ unit-times K (at m j)
    where
      c1 : c ≡ unit
      c1 = sym (echelon-coefficient K at lead c ech s e) ∙ u

      fall : (x : A) → at m (lead x) ≡ nought → at r (lead x) ≡ w (lead x)
      fall x h = e (lead x) ∙ ap (λ y. c ⊗ y ⊕ w (lead x)) h ∙ ap (λ y. y ⊕ w (lead x)) (times-nought c) ∙ nought-plus K (w (lead x))

      w-nought : All (λ x. w (lead x) ≡ nought) M
      w-nought = all_both (λ x h g. sym (fall x h) ∙ g) (echelon-clear K at lead ech) z

  abbrev Within : List A → List A → Type 0
  Within R M = (length R ≤ length M) × (length R ≡ length M → R ≡ M)

  within_step : {lo low : ℕ} {r m : A} {R M : List A} → Echelon K at lead lo (r ∷ R) → Echelon K at lead low (m ∷ M)
      → Good r → Good m → All (λ x. Spanned K at (m ∷ M) (at x)) (r ∷ R)
      → (All (λ x. Spanned K at M (at x)) R → Within R M) → (All (λ x. Spanned K at M (at x)) (r ∷ R) → Within (r ∷ R) M)
      → (lead r < lead m) ⊎ ((lead r ≡ lead m) ⊎ (lead m < lead r)) → Within (r ∷ R) (m ∷ M)
  within_step {r = r} {m} {R} {M} eR eM gr gm (more s ss) both fewer (inl h) =
      let z : at r (lead r) ≡ nought = spanned-at K at (lead r) (echelon-before K at lead (lead r) h (echelon-first K at lead eM)) s in
      absurd (unit-nonzero (sym (echelon-one K at lead eR) ∙ z))
  within_step {r = r} {m} {R} {M} eR eM gr gm (more s ss) both fewer (inr (inl h)) =
      let below : Within R M = both (all_rest eM (echelon-before K at lead (lead m) (omega arith) (echelon-tail K at lead eR)) ss) in
      let clear : R ≡ M → All (λ x. at r (lead x) ≡ nought) M = λ e. subst (All _) e (echelon-clear K at lead eR) in
      let top : R ≡ M → r ≡ m = λ e. same r m gr gm (top-same r eM s (ap (at r) (sym h) ∙ echelon-one K at lead eR) (clear e)) in
      (omega (arith, below.0), λ e. let e' : R ≡ M = below.1 (omega arith) in ap₂ (λ x y. x ∷ y) (top e') e')
  within_step {r = r} {m} {R} {M} eR eM gr gm ss both fewer (inr (inr h)) =
      let below : Within (r ∷ R) M = fewer (all_rest eM (echelon-before K at lead (lead m) h (echelon-first K at lead eR)) ss) in
      (omega (arith, below.0), λ e. absurd (omega (arith, below.0)))

  pub echelon-within : {lo low : ℕ} {R M : List A} → Echelon K at lead lo R → Echelon K at lead low M → All Good R → All Good M
      → All (λ r. Spanned K at M (at r)) R → (length R ≤ length M) × (length R ≡ length M → R ≡ M)
  echelon-within empty empty gR gM h = (omega arith, λ e. refl)
  echelon-within empty (under l before one clear rest) gR gM h = (omega arith, λ e. absurd (omega arith))
  echelon-within (under {r = r} l before one clear rest) empty gR gM (more (nothing z) h) = absurd (unit-nonzero (sym one ∙ z (lead r)))
  echelon-within (under {r = r} l before one clear rest) (under {r = m} l' before' one' clear' rest') (more gr gR) (more gm gM) h =
      within_step (under l before one clear rest) (under l' before' one' clear' rest') gr gm h (echelon-within rest rest' gR gM)
      (echelon-within (under l before one clear rest) rest' (more gr gR) gM) (trichotomy (lead r) (lead m))
