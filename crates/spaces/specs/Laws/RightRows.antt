-- Reduced rows that lead at column n or later span exactly what all the rows span and is zero before n; over any field.
--   right_rows lead n rs == those of the rows rs whose lead is n or more
--   right-spanned   == what the rows span and is zero before n, the rows that lead at n or later span
--   spanned-right   == what these span, all rows span
-- Assumes nothing.
use Rattle.std.specs.Prelude.{◌≡◌, Bool, true, false, ℕ, ◌<◌, ltb}
use Rattle.std.proofs.Math.Path.{refl}
use mathlib.Core.List.{List, [], ◌∷◌}
use Rattle.std.proofs.Common.{arith, ltb-true, ltb-false}
use Rattle.basics.specs.Choice.{pick}
use Rattle.linear.specs.Span.{All}
use Rattle.linear.specs.Laws.Scalars.{Scalars}
use Rattle.linear.specs.Laws.FieldSpan.{Spanned, adding, spanned-below, spanned-at}
use Rattle.linear.specs.Laws.Echelon.{Echelon, echelon-before, echelon-rest, echelon-tail}

unfoldable pub right_rows : {A : Type 0} → (A → ℕ) → ℕ → List A → List A
right_rows lead n [] = []
right_rows lead n (r ∷ rs) = pick (ltb (lead r) n) (right_rows lead n rs) (r ∷ right_rows lead n rs)

module _ {F A : Type 0} (K : Scalars F) (at : A → ℕ → F) (lead : A → ℕ) (n : ℕ) where
  open K use {nought}

  right-step : {lo : ℕ} {r : A} {rs : List A} {x : ℕ → F} → Echelon K at lead lo (r ∷ rs) → Spanned K at (r ∷ rs) x
      → ((j : ℕ) → j < n → x j ≡ nought)
      → ((w : ℕ → F) → Spanned K at rs w → ((j : ℕ) → j < n → w j ≡ nought) → Spanned K at (right_rows lead n rs) w)
      → (b : Bool) → ltb (lead r) n ≡ b → Spanned K at (pick b (right_rows lead n rs) (r ∷ right_rows lead n rs)) x
  right-step {r = r} {x = x} ech s z again true e = again x (echelon-rest K at lead ech s (z (lead r) (ltb-true (lead r) n e))) z
  right-step {r = r} {rs} ech (adding c w s g) z again false e =
      adding c w (again w s (λ j h. spanned-at K at j (before j h) s)) g
    where
      before : (j : ℕ) → j < n → All (λ t. at t j ≡ nought) rs
      before j h = echelon-before K at lead j (omega (arith, ltb-false (lead r) n e)) (echelon-tail K at lead ech)

  pub right-spanned : {rs : List A} {lo : ℕ} {x : ℕ → F} → Echelon K at lead lo rs → Spanned K at rs x
      → ((j : ℕ) → j < n → x j ≡ nought) → Spanned K at (right_rows lead n rs) x
  unfolding right_rows
  right-spanned {rs = []} ech s z = s
  right-spanned {rs = r ∷ rs} ech s z =
      right-step ech s z (λ w t y. right-spanned {rs = rs} (echelon-tail K at lead ech) t y) (ltb (lead r) n) refl

  right-back : (r : A) (rs : List A) {x : ℕ → F} → ((w : ℕ → F) → Spanned K at (right_rows lead n rs) w → Spanned K at rs w)
      → (b : Bool) → Spanned K at (pick b (right_rows lead n rs) (r ∷ right_rows lead n rs)) x → Spanned K at (r ∷ rs) x
  right-back r rs {x} again true s = spanned-below K at (again x s)
  right-back r rs again false (adding c w s g) = adding c w (again w s) g

  pub spanned-right : (rs : List A) {x : ℕ → F} → Spanned K at (right_rows lead n rs) x → Spanned K at rs x
  unfolding right_rows
  spanned-right [] s = s
  spanned-right (r ∷ rs) s = right-back r rs (λ w. spanned-right rs) (ltb (lead r) n) s
