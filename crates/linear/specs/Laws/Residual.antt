-- A vector less its part in the span of reduced rows; no part of the meaning.
--   TakenOff K at r c v u      == the row u is the row v less c times the row r
--   taken_off-spanned, taken_off-spans == u is spanned where v and r are, and v where u and r are
--   taken_off-kept, taken_off-cleared == u is v at a column where r is 0, and 0 at one where r is 1 and c is v's entry
--   Residual K at lead rows v w == w is v after each row in turn is taken off as often as v has entry at that row's lead
--   residual-kept              == at a column where every row is 0, w is v
--   residual-cleared           == w is 0 at every lead
--   residual-spanned, residual-spans == where the rows are spanned, w is spanned exactly where v is
-- Assumes nothing.
use Rattle.std.specs.Prelude.{◌≡◌, refl, List, [], ◌∷◌, ℕ}
use Rattle.std.proofs.Common.{ap, sym, ◌∙◌, arith}
use Rattle.linear.specs.Span.{All, none, more}
use Rattle.linear.specs.Laws.Scalars.{Scalars, unit-times, minus-back}
use Rattle.linear.specs.Laws.FieldSpan.{Spanned, spanned-mix}
use Rattle.linear.specs.Laws.Echelon.{Echelon, empty, under, echelon-before}

abbrev pub TakenOff : {F A : Type 0} (K : Scalars F) (at : A → ℕ → F) → A → F → A → A → Type 0
TakenOff K at r c v u = (j : ℕ) → at u j ≡ K.◌⊕◌ (at v j) (K.◌⊗◌ (K.minus c) (at r j))

pub data Residual {F A : Type 0} (K : Scalars F) (at : A → ℕ → F) (lead : A → ℕ) : List A → A → A → Type 0 where
  done : {v : A} → Residual K at lead [] v v
  off : {r v u w : A} {rows : List A} → TakenOff K at r (at v (lead r)) v u → Residual K at lead rows u w
      → Residual K at lead (r ∷ rows) v w

module _ {F A : Type 0} (K : Scalars F) (at : A → ℕ → F) where
  open K use {nought, unit, ◌⊕◌, ◌⊗◌, minus, plus-nought, times-nought, times-unit, plus-minus}

  infixl 60 ◌⊕◌
  infixl 70 ◌⊗◌
  pub taken_off-spanned : {r v u : A} {rows : List A} (c : F) → TakenOff K at r c v u → Spanned K at rows (at r) → Spanned K at rows (at v)
      → Spanned K at rows (at u)
  taken_off-spanned {r} {v} {u} c e sr sv =
      spanned-mix K at (at u) unit (minus c) sv sr (λ j. e j ∙ ap (λ x. x ⊕ minus c ⊗ at r j) (sym (unit-times K (at v j))))

  pub taken_off-spans : {r v u : A} {rows : List A} (c : F) → TakenOff K at r c v u → Spanned K at rows (at r) → Spanned K at rows (at u)
      → Spanned K at rows (at v)
  taken_off-spans {r} {v} {u} c e sr su =
      spanned-mix K at (at v) unit c su sr
      (λ j. sym (ap (λ x. x ⊕ c ⊗ at r j) (unit-times K (at u j) ∙ e j) ∙ minus-back K (at v j) c (at r j)))

  pub taken_off-kept : {r v u : A} (c : F) → TakenOff K at r c v u → (j : ℕ) → at r j ≡ nought → at u j ≡ at v j
  taken_off-kept {v = v} c e j z =
      e j ∙ ap (λ x. at v j ⊕ minus c ⊗ x) z ∙ ap (λ x. at v j ⊕ x) (times-nought (minus c)) ∙ plus-nought (at v j)

  pub taken_off-cleared : {r v u : A} (j : ℕ) → TakenOff K at r (at v j) v u → at r j ≡ unit → at u j ≡ nought
  taken_off-cleared {v = v} j e one =
      e j ∙ ap (λ x. at v j ⊕ minus (at v j) ⊗ x) one ∙ ap (λ x. at v j ⊕ x) (times-unit (minus (at v j))) ∙ plus-minus (at v j)

  module _ (lead : A → ℕ) where
    pub residual-kept : (j : ℕ) {rows : List A} {v w : A} → All (λ r. at r j ≡ nought) rows → Residual K at lead rows v w → at w j ≡ at v j
    residual-kept j none done = refl
    residual-kept j {v = v} (more {x = r} z zs) (off e t) = residual-kept j zs t ∙ taken_off-kept (at v (lead r)) e j z

    pub residual-cleared : {lo : ℕ} {rows : List A} {v w : A} → Echelon K at lead lo rows → Residual K at lead rows v w
        → All (λ s. at w (lead s) ≡ nought) rows
    residual-cleared empty done = none
    residual-cleared {v = v} (under {r = r} l before one clear rest) (off e t) =
        more (residual-kept (lead r) (echelon-before K at lead (lead r) (omega arith) rest) t ∙ taken_off-cleared (lead r) e one)
        (residual-cleared rest t)

    pub residual-spanned : {others rows : List A} {v w : A} → All (λ r. Spanned K at others (at r)) rows → Residual K at lead rows v w
        → Spanned K at others (at v) → Spanned K at others (at w)
    residual-spanned none done s = s
    residual-spanned {v = v} (more {x = r} h hs) (off e t) s = residual-spanned hs t (taken_off-spanned (at v (lead r)) e h s)

    pub residual-spans : {others rows : List A} {v w : A} → All (λ r. Spanned K at others (at r)) rows → Residual K at lead rows v w
        → Spanned K at others (at w) → Spanned K at others (at v)
    residual-spans none done s = s
    residual-spans {v = v} (more {x = r} h hs) (off e t) s = taken_off-spans (at v (lead r)) e h (residual-spans hs t s)
