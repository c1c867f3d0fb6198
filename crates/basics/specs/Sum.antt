-- Sums, numbers written in a base, and sequences compared place by place.
--   sum n f          == f 0 + f 1 + .. + f (n - 1)
--   sum_range a b f   == f a + f (a + 1) + .. + f b; 0 where b < a
--   value q ds       == the digits ds read as a number in base q, first digit most significant
--   bit b            == 1 where the test b holds, else 0
--   Lex n f g        == f comes before g: at the least place below n where they differ, f is less
-- Assumes nothing.
use Rattle.std.specs.Prelude.{◌≡◌, Bool, List, [], ◌∷◌, ℕ, zero, suc, ◌+◌, ◌*◌, ◌-◌, ◌^◌, ◌<◌, length}
use Rattle.basics.specs.Choice.{pick}

unfoldable pub sum : ℕ → (ℕ → ℕ) → ℕ
sum zero f = 0
sum (suc n) f = sum n f + f n

unfoldable pub sum_range : ℕ → ℕ → (ℕ → ℕ) → ℕ
sum_range a b f = sum (suc b - a) (λ i. f (a + i))

unfoldable pub value : ℕ → List ℕ → ℕ
value q [] = 0
value q (d ∷ ds) = d * q ^ length ds + value q ds

abbrev pub bit : Bool → ℕ
bit b = pick b 1 0

pub record Lex (n : ℕ) (f g : ℕ → ℕ) : Type 0 where
  pub at : ℕ
  pub within : at < n
  pub same : (i : ℕ) → i < at → f i ≡ g i
  pub less : f at < g at
