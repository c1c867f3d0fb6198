-- Powers within 64 bits. Those of an even field size are shifts, and the others the code reads from a list.
--   powers          == those of 3, of 5 and of 7, as many as are within 64 bits
--   power_counts     == how many they are
--   exponent-below  == a power within 64 bits has an exponent below that of a power beyond them
--   power_at        == a power within 64 bits stands in the list, after those of the odd sizes before
--   power-shift     == a power of 2^d is one of 2, with an exponent below 64 if it is within 64 bits
--   power_small     == q^k is within 64 bits for q up to 8 and k up to 16
-- Assumes nothing.
use Rattle.std.specs.Prelude.{◌≡◌, List, [], ◌∷◌, ◌⊎◌, ℕ, zero, suc, ◌+◌, ◌*◌, ◌^◌, ◌≤◌, ◌<◌, length, get_or}
use Rattle.std.proofs.Common.{ap, subst, sym, ◌∙◌, inl, inr, pow-suc, mul-zero, mul-suc, le_trans, le_of_lt, arith, lit<, pow-add}
use Rattle.std.proofs.Math.Nat.{pow-zero, pow-le-pow_left, pow-le-pow_right}
use Rattle.basics.specs.Laws.Order.{le-or-lt}
use Rattle.basics.specs.Laws.Ragged.{ragged, ragged-at}
use Rattle.basics.specs.Sum.{sum}
use Rattle.basics.specs.Table.{tabulate}
use Rattle.basics.specs.Laws.Table.{table_at}
use Rattle.basics.specs.Laws.TableSize.{tabulate-length}
use Rattle.field.specs.Laws.Kinds.{odd_sizes}
use Rattle.counts.specs.Gaussian.{greatest_count}

abbrev pub power_counts : List ℕ
power_counts = 41 ∷ 28 ∷ 23 ∷ []

abbrev pub power_count : ℕ → ℕ
power_count t = get_or power_counts t 0

-- the odd size after t others
abbrev pub power_base : ℕ → ℕ
power_base t = get_or odd_sizes t 0

unfoldable pub powers : List ℕ
powers = ragged (λ t. tabulate (λ i. power_base t ^ i) 0 (power_count t)) 0 (length odd_sizes)

pub exponent-below : (q size m : ℕ) → 1 ≤ q → greatest_count < q ^ size → q ^ m ≤ greatest_count → m < size
exponent-below q size m positive last small = cases (le-or-lt size m)
  where
    cases : (size ≤ m) ⊎ (m < size) → m < size
    cases (inl h) = absurd (omega (arith, pow-le-pow_right {n = q} positive h, last, small))
    cases (inr h) = h

pub power_at : (t m : ℕ) → t < length odd_sizes → m < power_count t → get_or powers (sum t power_count + m) 0 ≡ power_base t ^ m
unfolding powers
power_at t m known inside =
    ragged-at (λ s. tabulate (λ i. power_base s ^ i) 0 (power_count s)) power_count (length odd_sizes) t m
    (λ s h. tabulate-length (λ i. power_base s ^ i) 0 (power_count s)) known inside
    ∙ table_at (λ i. power_base t ^ i) (power_count t) m inside

power-power : (b d m : ℕ) → (b ^ d) ^ m ≡ b ^ (d * m)
power-power b d zero = simp (pow-zero, mul-zero)
power-power b d (suc m) =
    pow-suc (b ^ d) m ∙ ap (λ x. x * b ^ d) (power-power b d m) ∙ sym (pow-add b (d * m) d) ∙ ap (λ e. b ^ e) (sym (mul-suc d m))

pub power-shift : (q d m : ℕ) → q ≡ 2 ^ d → q ^ m ≤ greatest_count → (d * m < 64) × (2 ^ (d * m) ≡ q ^ m)
power-shift q d m same small =
    let shift : 2 ^ (d * m) ≡ q ^ m = sym (power-power 2 d m) ∙ ap (λ x. x ^ m) (sym same) in
    (exponent-below 2 64 (d * m) (omega arith) (lit< tt) (subst (λ x. x ≤ greatest_count) (sym shift) small), shift)

pub power_small : (q k : ℕ) → q ≤ 8 → k ≤ 16 → q ^ k ≤ greatest_count
power_small q k small few =
    le_trans (pow-le-pow_left small k) (le_trans (pow-le-pow_right {n = 8} (lit< tt) {i = k} {j = 16} few) (le_of_lt (lit< tt)))
