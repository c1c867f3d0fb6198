-- Choosing by a test: laws; no part of the meaning.
--   is_true, holds == a test as an equation, and back
--   is_false       == a test that cannot hold
-- Assumes nothing.
use Rattle.std.specs.Prelude.{◌≡◌, refl, Bool, true, false, ℕ, T}
use Rattle.std.proofs.Common.{arith}

pub is_true : (b : Bool) → T b → b ≡ true
is_true true t = refl
is_true false t = absurd t

pub holds : (b : Bool) → b ≡ true → T b
holds true e = tt
holds false e = let z : ◌≡◌ {A = ℕ} 0 1 = cc in absurd (omega arith)

pub is_false : (b : Bool) → (b ≡ true → ⊥) → b ≡ false
is_false true outside = absurd (outside refl)
is_false false outside = refl
