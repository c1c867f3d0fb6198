-- A vector of n bits that is told column by column from the right; no part of the meaning.
--   Passed n v c left whole == v holds the bits of the columns from c on; those of the first c columns are the number `left`, and all are
--                              the number `whole`
--   passed_start, -end      == no column is passed yet, and all are
--   passed-free, -pivot     == one more is passed, without its bit or with it
--   passed-fits             == that bit fits 16 bits
-- Assumes nothing.
use Rattle.std.specs.Prelude.{◌≡◌, ℕ, suc, ◌+◌, ◌*◌, ◌-◌, ◌^◌, ◌<◌, ◌≤◌}
use Rattle.std.proofs.Common.{ap, ◌∙◌, le_refl, arith, pow_mono}
use Rattle.std.proofs.Math.Nat.{pow-zero, pow-succ', sub_self}

pub record Passed (n v c left whole : ℕ) : Type 0 where
  pub columns : c ≤ n
  pub below : v < 2 ^ (n - c)
  pub together : v + 2 ^ (n - c) * left ≡ whole

pub passed_start : (n whole : ℕ) → Passed n 0 n whole whole
passed_start n whole =
    let one : 2 ^ (n - n) ≡ 1 = ap (λ e. 2 ^ e) (sub_self n) ∙ pow-zero 2 in
    record { columns = le_refl n; below = omega arith; together = rw one (omega arith) }

pub passed-end : {n v c left whole : ℕ} → left ≡ 0 → Passed n v c left whole → v ≡ whole
passed-end {n} {v} {c} z p = let none : v ≡ v + 2 ^ (n - c) * 0 = omega arith in none ∙ rw z at p.together

-- a column's bit is worth twice that of the column to its right
next_power : (n c : ℕ) → suc c ≤ n → 2 ^ (n - c) ≡ 2 * 2 ^ (n - suc c)
next_power n c h = let e : n - c ≡ suc (n - suc c) = omega arith in ap (λ j. 2 ^ j) e ∙ pow-succ' 2 (n - suc c)

module _ {n v c left whole : ℕ} where
  pub passed-free : Passed n v (suc c) (2 * left) whole → Passed n v c left whole
  passed-free p =
      let power = next_power n c p.columns in
      let twice : v + 2 * 2 ^ (n - suc c) * left ≡ v + 2 ^ (n - suc c) * (2 * left) = omega arith in
      record {
        columns = omega (arith, p.columns);
        below = omega (arith, p.below);
        together = ap (λ e. v + e * left) power ∙ twice ∙ p.together;
      }

  pub passed-pivot : Passed n v (suc c) (1 + 2 * left) whole → Passed n (v + 2 ^ (n - suc c)) c left whole
  passed-pivot p =
      let power = next_power n c p.columns in
      let bit = 2 ^ (n - suc c) in
      let twice : v + bit + 2 * bit * left ≡ v + bit * (1 + 2 * left) = omega arith in
      record {
        columns = omega (arith, p.columns);
        below = omega (arith, p.below);
        together = ap (λ e. v + bit + e * left) power ∙ twice ∙ p.together;
      }

  pub passed-fits : n ≤ 16 → Passed n v (suc c) left whole → v + 2 ^ (n - suc c) < 2 ^ 16
  passed-fits narrow p =
      let wide : 2 ^ (n - c) ≤ 2 ^ 16 = pow_mono {j = 16} (omega arith) in
      omega (arith, p.below, next_power n c p.columns)
