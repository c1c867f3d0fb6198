-- The bits of a number; no part of the meaning.
--   shifted_one    == 1 shifted by j of 16 places is 2^j
--   mask_fits      == the mask of the j lowest bits, made in 32 bits, is a number of 16
--   masked-ones    == the ones under it
--   ones_below     == they are at most j
--   trailing_odd   == a number has no trailing zeros exactly where it is odd
-- Assumes nothing.
use Rattle.std.specs.Prelude.{◌≡◌, refl, ℕ, zero, suc, ◌*◌, ◌-◌, ◌^◌, ◌/◌, ◌%◌, ◌<◌, ◌≤◌, eqb}
use Rattle.std.proofs.Common.{ap, ◌∙◌, one-mul, mod-lt, zero-lt-suc, arith, ne_eqb, lit<, pow_pos, pow_mono, shl_exact}
use Rattle.std.specs.Int.Bits.{bit_and}
use Rattle.std.proofs.lemmas.Nat.{and_mask, ones-le}
use Rattle.std.specs.Int.Count.{ones, count_trailing_zeros, under}

pub shifted_one : (j : ℕ) → j < 16 → 1 * 2 ^ j % 65536 ≡ 2 ^ j
shifted_one j h = shl_exact {a = 1} 1 j 16 (lit< tt) (omega arith) ∙ one-mul (2 ^ j)

module _ (j : ℕ) (h : j ≤ 16) where
  shifted-wide : 1 * 2 ^ j % 4294967296 ≡ 2 ^ j
  shifted-wide = shl_exact {a = 1} 1 j 32 (lit< tt) (omega arith) ∙ one-mul (2 ^ j)

  pub mask_fits : (1 ≤ 1 * 2 ^ j % 4294967296) × (1 * 2 ^ j % 4294967296 - 1 < 65536)
  mask_fits = (omega (arith, shifted-wide, pow_pos j), omega (arith, shifted-wide, pow_mono {i = j} {j = 16} h))

  pub masked-ones : (v : ℕ) → ones (bit_and v (1 * 2 ^ j % 4294967296 - 1)) ≡ ones (v % 2 ^ j)
  masked-ones v = ap (λ x. ones (bit_and v (x - 1))) shifted-wide ∙ ap ones (and_mask v j)

pub ones_below : (v j : ℕ) → ones (v % 2 ^ j) ≤ j
ones_below v j = ones-le j (v % 2 ^ j) (mod-lt v (pow_pos j))

-- a digit below 2, with what stands below it
no-zeros : (d t : ℕ) → d < 2 → eqb (under d t) 0 ≡ eqb d 1
no-zeros zero t h = ne_eqb (suc t) 0 (λ e. absurd (omega arith))
no-zeros (suc zero) t h = refl
no-zeros (suc (suc d)) t h = absurd (omega arith)

pub trailing_odd : (k v : ℕ) → eqb (count_trailing_zeros (suc k) v) 0 ≡ eqb (v % 2) 1
unfolding count_trailing_zeros
trailing_odd k v = no-zeros (v % 2) (count_trailing_zeros k (v / 2)) (mod-lt v (zero-lt-suc 1))
