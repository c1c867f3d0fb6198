-- Cases on two numbers.
--   le-or-lt a b   == a ≤ b, or b < a
--   trichotomy a b == a < b, or a ≡ b, or b < a
--   same_or_not a b == a ≡ b, or not
-- Assumes nothing.
use Rattle.std.specs.Prelude.{◌≡◌, ◌⊎◌, ℕ, ◌≤◌, ◌<◌}
use Rattle.std.proofs.Common.{inl, inr, arith}
use Rattle.std.proofs.Math.Decide.{dec_le, dec_lt}

pub le-or-lt : (a b : ℕ) → (a ≤ b) ⊎ (b < a)
le-or-lt a b = cases (dec_le a b)
  where
    cases : Dec (a ≤ b) → (a ≤ b) ⊎ (b < a)
    cases (yes h) = inl h
    cases (no h) = inr (omega arith)

pub trichotomy : (a b : ℕ) → (a < b) ⊎ ((a ≡ b) ⊎ (b < a))
trichotomy a b = cases (dec_lt a b) (dec_lt b a)
  where
    cases : Dec (a < b) → Dec (b < a) → (a < b) ⊎ ((a ≡ b) ⊎ (b < a))
    cases (yes h) g = inl h
    cases (no h) (yes g) = inr (inr g)
    cases (no h) (no g) = inr (inl (omega arith))

pub same_or_not : (a b : ℕ) → (a ≡ b) ⊎ (a ≡ b → ⊥)
same_or_not a b = cases (trichotomy a b)
  where
    cases : (a < b) ⊎ ((a ≡ b) ⊎ (b < a)) → (a ≡ b) ⊎ (a ≡ b → ⊥)
    cases (inl h) = inr (λ e. absurd (omega arith))
    cases (inr (inl e)) = inl e
    cases (inr (inr h)) = inr (λ e. absurd (omega arith))
