-- A test at every place below a bound, and at every element of a list: laws; no part of the meaning.
--   all_below-start, -more, -end == the test, one place after the other, as a loop makes it
--   all_below-true   == it holds where f holds at each; all_below-false == it fails where f fails at one; all_below-at == and back
-- Assumes nothing.
use Rattle.std.specs.Prelude.{◌≡◌, refl, Bool, true, false, ◌&&◌, ℕ, zero, suc, ◌<◌, T}
use Rattle.std.proofs.Common.{ap, ap₂, ◌∙◌, subst, sym, ⊎_elim, eq-or-lt_of_le, le_of_suc-le-suc, not-suc-le-zero, le_refl}
use Rattle.std.proofs.Math.Nat.{le_step}
use Rattle.basics.specs.Laws.Test.{and_left, and_right}
use Rattle.basics.specs.All.{all_below}

pub all_below-at : (k : ℕ) (f : ℕ → Bool) → T (all_below k f) → (i : ℕ) → i < k → T (f i)
unfolding all_below
all_below-at zero f t i h = absurd (not-suc-le-zero h)
all_below-at (suc k) f t i h =
    ⊎_elim (λ e. subst (λ j. T (f j)) (sym e) (and_right (all_below k f) (f k) t))
    (λ l. all_below-at k f (and_left (all_below k f) (f k) t) i l) (eq-or-lt_of_le (le_of_suc-le-suc h))

pub all_below-true : (k : ℕ) (f : ℕ → Bool) → ((i : ℕ) → i < k → f i ≡ true) → all_below k f ≡ true
unfolding all_below
all_below-true zero f h = refl
all_below-true (suc k) f h = ap₂ ◌&&◌ (all_below-true k f (λ i l. h i (le_step l))) (h k (le_refl (suc k)))

pub all_below-false : (k : ℕ) (f : ℕ → Bool) (i : ℕ) → i < k → f i ≡ false → all_below k f ≡ false
all_below-false k f i h e = cases (all_below k f) refl
  where
    cases : (b : Bool) → all_below k f ≡ b → all_below k f ≡ false
    cases true a = let z : T false = subst T e (all_below-at k f (subst T (sym a) tt) i h) in absurd z
    cases false a = a

pub all_below-start : (f : ℕ → Bool) → all_below 0 f ≡ true
unfolding all_below
all_below-start f = refl

pub all_below-more : (i : ℕ) (f : ℕ → Bool) → all_below i f ≡ true → f i ≡ true → all_below (suc i) f ≡ true
unfolding all_below
all_below-more i f h e = ap₂ ◌&&◌ h e

pub all_below-end : (i k : ℕ) (f : ℕ → Bool) → all_below i f ≡ true → i ≡ k → all_below k f ≡ true
all_below-end i k f h e = ap (λ j. all_below j f) (sym e) ∙ h
