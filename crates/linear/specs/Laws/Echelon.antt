-- Reduced rows over any field; no part of the meaning.
--   Echelon K at lead lo rows == the rows are reduced, where `lead r` is the column of the row r's first nonzero entry: the leads rise, the
--                      first is lo or more, each row is 1 at its lead and 0 before it, and 0 at the leads of the rows below
--   echelon-first   == the bound lo may be raised to the first lead
--   echelon-one, echelon-clear, echelon-tail == the first row is 1 at its lead and 0 at the leads below, and the rows below are reduced
--   echelon-before  == before the bound every row is 0
--   echelon-coefficient == in a combination the first row's coefficient is the vector's own entry at the first lead
--   echelon-rest    == what is spanned and 0 at the first lead is spanned by the other rows
--   echelon-nought  == what is spanned and 0 at every lead is zero
-- Assumes nothing.
use Rattle.std.specs.Prelude.{◌≡◌, List, [], ◌∷◌, ℕ, suc, ◌≤◌, ◌<◌}
use Rattle.std.proofs.Common.{ap, ap₂, sym, ◌∙◌, arith}
use Rattle.linear.specs.Span.{All, none, more}
use Rattle.linear.specs.Laws.Scalars.{Scalars, nought-plus, nought-times}
use Rattle.linear.specs.Laws.FieldSpan.{Spanned, nothing, adding, spanned-at, spanned-same}

pub data Echelon {F A : Type 0} (K : Scalars F) (at : A → ℕ → F) (lead : A → ℕ) : ℕ → List A → Type 0 where
  empty : {lo : ℕ} → Echelon K at lead lo []
  under : {lo : ℕ} {r : A} {rows : List A} → lo ≤ lead r → ((j : ℕ) → j < lead r → at r j ≡ K.nought) → at r (lead r) ≡ K.unit
      → All (λ s. at r (lead s) ≡ K.nought) rows → Echelon K at lead (suc (lead r)) rows
      → Echelon K at lead lo (r ∷ rows)

module _ {F A : Type 0} (K : Scalars F) (at : A → ℕ → F) (lead : A → ℕ) where
  open K use {nought, unit, ◌⊕◌, ◌⊗◌, plus-nought, times-unit}

  infixl 60 ◌⊕◌
  infixl 70 ◌⊗◌
  pub echelon-first : {lo : ℕ} {r : A} {rows : List A} → Echelon K at lead lo (r ∷ rows) → Echelon K at lead (lead r) (r ∷ rows)
  echelon-first {r = r} (under l before one clear rest) = under {lo = lead r} {r = r} (omega arith) before one clear rest

  pub echelon-one : {lo : ℕ} {r : A} {rows : List A} → Echelon K at lead lo (r ∷ rows) → at r (lead r) ≡ unit
  echelon-one (under l before one clear rest) = one

  pub echelon-clear : {lo : ℕ} {r : A} {rows : List A} → Echelon K at lead lo (r ∷ rows) → All (λ s. at r (lead s) ≡ nought) rows
  echelon-clear (under l before one clear rest) = clear

  pub echelon-tail : {lo : ℕ} {r : A} {rows : List A} → Echelon K at lead lo (r ∷ rows) → Echelon K at lead (suc (lead r)) rows
  echelon-tail (under l before one clear rest) = rest

  pub echelon-before : {lo : ℕ} {rows : List A} (j : ℕ) → j < lo → Echelon K at lead lo rows → All (λ r. at r j ≡ nought) rows
  echelon-before j h empty = none
  echelon-before j h (under {r = r} l before one clear rest) = more (before j (omega arith)) (echelon-before j (omega arith) rest)

  pub echelon-coefficient : {lo : ℕ} {r : A} {rows : List A} {v w : ℕ → F} (c : F) → Echelon K at lead lo (r ∷ rows)
      → Spanned K at rows w → ((j : ℕ) → v j ≡ c ⊗ at r j ⊕ w j) → v (lead r) ≡ c
  echelon-coefficient {r = r} {rows} {v} {w} c ech s e =
      let z : w (lead r) ≡ nought = spanned-at K at (lead r) (echelon-before (lead r) (omega arith) (echelon-tail ech)) s in
      e (lead r) ∙ ap₂ (λ x y. c ⊗ x ⊕ y) (echelon-one ech) z ∙ plus-nought (c ⊗ unit) ∙ times-unit c

  pub echelon-rest : {lo : ℕ} {r : A} {rows : List A} {v : ℕ → F} → Echelon K at lead lo (r ∷ rows) → Spanned K at (r ∷ rows) v
      → v (lead r) ≡ nought → Spanned K at rows v
  echelon-rest {r = r} {v = v} ech (adding c w s e) z = spanned-same K at v s (λ j. e j ∙ ap (λ x. x ⊗ at r j ⊕ w j) c0 ∙ fall j)
    where
      c0 : c ≡ nought
      c0 = sym (echelon-coefficient c ech s e) ∙ z

      fall : (j : ℕ) → nought ⊗ at r j ⊕ w j ≡ w j
      fall j = ap (λ x. x ⊕ w j) (nought-times K (at r j)) ∙ nought-plus K (w j)

  pub echelon-nought : {lo : ℕ} {rows : List A} {v : ℕ → F} → Echelon K at lead lo rows → Spanned K at rows v
      → All (λ r. v (lead r) ≡ nought) rows → (j : ℕ) → v j ≡ nought
  echelon-nought empty (nothing z) none j = z j
  echelon-nought (under l before one clear rest) s (more z zs) j =
      echelon-nought rest (echelon-rest (under l before one clear rest) s z) zs j
