-- A row put among reduced rows, in the order of leads; no part of the meaning. The row w is 1 at its lead, 0 before it and 0 at the
-- leads of the rows; in the rows above w, the entry at w's lead is cleared.
--   Among K at lead w rows out == out is what comes of it
--   among-length    == one row more
--   among-leads     == a property of w's lead and of the rows' leads holds of the leads of out
--   among-echelon   == out is reduced
--   among-spanned, among-spans, among-spans-new == w and the rows are spanned exactly where the rows of out are
-- Assumes nothing.
use Rattle.std.specs.Prelude.{◌≡◌, refl, List, [], ◌∷◌, ℕ, suc, ◌≤◌, ◌<◌, length}
use Rattle.std.proofs.Common.{ap, sym, ◌∙◌, subst, arith}
use Rattle.linear.specs.Span.{All, none, more}
use Rattle.linear.specs.Laws.Every.{all_both}
use Rattle.linear.specs.Laws.Scalars.{Scalars}
use Rattle.linear.specs.Laws.FieldSpan.{Spanned}
use Rattle.linear.specs.Laws.Echelon.{Echelon, empty, under}
use Rattle.linear.specs.Laws.Residual.{TakenOff, taken_off-spanned, taken_off-spans, taken_off-kept, taken_off-cleared}

pub data Among {F A : Type 0} (K : Scalars F) (at : A → ℕ → F) (lead : A → ℕ) (w : A) : List A → List A → Type 0 where
  last : Among K at lead w [] (w ∷ [])
  here : {r : A} {rows : List A} → lead w ≤ lead r → Among K at lead w (r ∷ rows) (w ∷ r ∷ rows)
  above : {r s : A} {rows out : List A} → lead r < lead w → lead s ≡ lead r → TakenOff K at w (at r (lead w)) r s
      → Among K at lead w rows out
      → Among K at lead w (r ∷ rows) (s ∷ out)

module _ {F A : Type 0} (K : Scalars F) (at : A → ℕ → F) (lead : A → ℕ) (w : A) where
  open K use {nought, unit, unit-nonzero}

  pub among-length : {rows out : List A} → Among K at lead w rows out → length out ≡ suc (length rows)
  among-length last = refl
  among-length (here h) = refl
  among-length (above h e t p) = ap suc (among-length p)

  pub among-leads : (P : ℕ → Type 0) {rows out : List A} → P (lead w) → All (λ r. P (lead r)) rows → Among K at lead w rows out
      → All (λ r. P (lead r)) out
  among-leads P h none last = more h none
  among-leads P h (more g gs) (here l) = more h (more g gs)
  among-leads P h (more g gs) (above l e t p) = more (subst P (sym e) g) (among-leads P h gs p)

  pub among-spanned : {others rows out : List A} → Spanned K at others (at w) → All (λ r. Spanned K at others (at r)) rows
      → Among K at lead w rows out → All (λ r. Spanned K at others (at r)) out
  among-spanned h none last = more h none
  among-spanned h (more g gs) (here l) = more h (more g gs)
  among-spanned h (more {x = r} g gs) (above l e t p) = more (taken_off-spanned K at (at r (lead w)) t h g) (among-spanned h gs p)

  pub among-spans-new : {others out rows : List A} → All (λ r. Spanned K at others (at r)) out → Among K at lead w rows out
      → Spanned K at others (at w)
  among-spans-new none a = elim a [ ]
  among-spans-new (more h hs) last = h
  among-spans-new (more h hs) (here l) = h
  among-spans-new (more h hs) (above l e t p) = among-spans-new hs p

  pub among-spans : {others out rows : List A} → All (λ r. Spanned K at others (at r)) out → Among K at lead w rows out
      → All (λ r. Spanned K at others (at r)) rows
  among-spans none a = elim a [ ]
  among-spans (more h hs) last = none
  among-spans (more h hs) (here l) = hs
  among-spans (more h hs) (above {r = r} l e t p) = more (taken_off-spans K at (at r (lead w)) t (among-spans-new hs p) h) (among-spans hs p)

  module _ (before-w : (j : ℕ) → j < lead w → at w j ≡ nought) (one-w : at w (lead w) ≡ unit) where
    differ : (p : ℕ) → at w p ≡ nought → lead w ≡ p → ⊥
    differ p z e = unit-nonzero (sym one-w ∙ ap (at w) e ∙ z)

    pub among-echelon : {lo : ℕ} {rows out : List A} → Echelon K at lead lo rows → lo ≤ lead w → All (λ s. at w (lead s) ≡ nought) rows
        → Among K at lead w rows out → Echelon K at lead lo out
    among-echelon empty h none last = under h before-w one-w none empty
    among-echelon (under {r = r} l before one clear rest) h (more z zs) (here g) =
        let after : suc (lead w) ≤ lead r = omega (arith, differ (lead r) z) in
        under h before-w one-w (more z zs) (under after before one clear rest)
    among-echelon {lo} (under {r = r} l before one clear rest) h (more z zs) (above {s = s} {out = out} g e t p) =
        under {lo = lo} {r = s} (omega arith) (λ j b. kept j (before-w j (omega arith)) ∙ before j (omega arith))
        (ap (at s) e ∙ kept (lead r) z ∙ one)
        (among-leads (λ x. at s x ≡ nought) (taken_off-cleared K at (lead w) t one-w)
        (all_both (λ x zw zr. kept (lead x) zw ∙ zr) zs clear) p)
        (subst (λ x. Echelon K at lead (suc x) out) (sym e) (among-echelon rest g zs p))
      where
        kept : (j : ℕ) → at w j ≡ nought → at s j ≡ at r j
        kept j = taken_off-kept K at (at r (lead w)) t j
