-- Laws of the Gaussian coefficient, for any q, n and k.
--   gaussian-none       == 0 at k > n
--   gaussian-whole      == 1 at k = n
--   gaussian-positive   == above 0 at k ≤ n
--   gaussian-free-le    == q^k [n-1, k] ≤ [n, k]
--   gaussian-pivot-le   == [n-1, k-1] ≤ [n, k]
--   gaussian-longer-le  == [n-1, k] ≤ [n, k], for q above 0
--   gaussian-dual       == [n, k] = [n-1, k] + q^(n-k) [n-1, k-1]
--   gaussian-symmetric  == [n, k] = [n, n-k], document 002
--   entry-within        == the table's entry is the count, where that is at most 2^64 - 1
-- Assumes nothing.
use Rattle.std.specs.Prelude.{◌≡◌, refl, ℕ, zero, suc, ◌+◌, ◌*◌, ◌-◌, ◌^◌, ◌<◌, ◌≤◌}
use Rattle.std.proofs.Common.{ap, ap₂, ◌∙◌, sym, mul-zero, mul-one, one-mul, add_comm, le-add_right, le-add_left, le_of_suc-le-suc, not-suc-le-zero, le_trans, zero-lt-suc, add-sub_of_le, le_refl, mul-le-mul_right, arith, le-leb}
use Rattle.std.proofs.Math.Nat.{pow-zero, pow-succ', one-le-pow}
use Rattle.counts.specs.Gaussian.{gaussian, greatest_count, table_entry}

pub gaussian-none : (q n k : ℕ) → n < k → gaussian q n k ≡ 0
unfolding gaussian
gaussian-none q n zero h = absurd (not-suc-le-zero h)
gaussian-none q zero (suc k) h = refl
gaussian-none q (suc n) (suc k) h =
    ap₂ (λ a b. q ^ suc k * a + b) (gaussian-none q n (suc k) (omega arith)) (gaussian-none q n k (le_of_suc-le-suc h))
    ∙ rw mul-zero

pub gaussian-pivot-le : (q n k : ℕ) → gaussian q n k ≤ gaussian q (suc n) (suc k)
unfolding gaussian
gaussian-pivot-le q n k = le-add_left (gaussian q n k) (q ^ suc k * gaussian q n (suc k))

pub gaussian-free-le : (q n k : ℕ) → q ^ k * gaussian q n k ≤ gaussian q (suc n) k
unfolding gaussian
gaussian-free-le q n zero = rw (pow-zero, mul-one) (le_refl 1)
gaussian-free-le q n (suc k) = le-add_right (q ^ suc k * gaussian q n (suc k)) (gaussian q n k)

pub gaussian-longer-le : (q n k : ℕ) → 0 < q → gaussian q n k ≤ gaussian q (suc n) k
gaussian-longer-le q n k h =
    le_trans (rw one-mul at (mul-le-mul_right (gaussian q n k) (one-le-pow k q h))) (gaussian-free-le q n k)

pub gaussian-positive : (q n k : ℕ) → k ≤ n → 0 < gaussian q n k
unfolding gaussian
gaussian-positive q n zero h = zero-lt-suc 0
gaussian-positive q zero (suc k) h = absurd (not-suc-le-zero h)
gaussian-positive q (suc n) (suc k) h = le_trans (gaussian-positive q n k (le_of_suc-le-suc h)) (gaussian-pivot-le q n k)

pub gaussian-whole : (q n : ℕ) → gaussian q n n ≡ 1
unfolding gaussian
gaussian-whole q zero = refl
gaussian-whole q (suc n) =
    ap₂ (λ a b. q ^ suc n * a + b) (gaussian-none q n (suc n) (le_refl (suc n))) (gaussian-whole q n) ∙ rw mul-zero

line : (q r a : ℕ) → q * 1 * (a + r * 1) + 1 ≡ q * 1 * a + 1 + q * r * 1
line q r a = omega arith

exchange : (q p r a b c : ℕ) → q * p * (a + r * b) + (b + q * r * c) ≡ q * p * a + b + q * r * (p * b + c)
exchange q p r a b c = omega arith

-- formula (4) the other way round, by formula (4) on both sides
pub gaussian-dual : (q n k d : ℕ) → n ≡ k + d → gaussian q (suc n) (suc k) ≡ gaussian q n (suc k) + q ^ d * gaussian q n k
unfolding gaussian
gaussian-dual q n k zero e =
    let same : n ≡ k = omega arith in
    rw (same, gaussian-whole q (suc k), gaussian-none q k (suc k), gaussian-whole q k, pow-zero, le_refl (suc k))
gaussian-dual q zero k (suc d) e = absurd (omega arith)
gaussian-dual q (suc n) zero (suc d) e =
    ap (λ g. q ^ 1 * g + 1) (gaussian-dual q n zero d (omega arith))
    ∙ rw (pow-succ' q 0, pow-zero, pow-succ' q d) (line q (q ^ d) (gaussian q n 1))
gaussian-dual q (suc n) (suc k) (suc d) e =
    ap₂ (λ a b. q ^ suc (suc k) * a + b) (gaussian-dual q n (suc k) d (omega arith)) (gaussian-dual q n k (suc d) (omega arith))
    ∙ rw (pow-succ' q (suc k), pow-succ' q d)
    (exchange q (q ^ suc k) (q ^ d) (gaussian q n (suc (suc k))) (gaussian q n (suc k)) (gaussian q n k))

mirrored : (q n k d : ℕ) → n ≡ k + d → gaussian q n k ≡ gaussian q n d
unfolding gaussian
mirrored q n zero d e = let same : n ≡ d = omega arith in rw (same, gaussian-whole q d)
mirrored q n (suc k) zero e = let same : n ≡ suc k = omega arith in rw (same, gaussian-whole q (suc k))
mirrored q zero (suc k) (suc d) e = absurd (omega arith)
mirrored q (suc n) (suc k) (suc d) e =
    ap₂ (λ a b. q ^ suc k * a + b) (mirrored q n (suc k) d (omega arith)) (mirrored q n k (suc d) (omega arith))
    ∙ add_comm (q ^ suc k * gaussian q n d) (gaussian q n (suc d))
    ∙ sym (gaussian-dual q n d (suc k) (omega arith))

pub gaussian-symmetric : (q n k : ℕ) → k ≤ n → gaussian q n k ≡ gaussian q n (n - k)
gaussian-symmetric q n k h = mirrored q n k (n - k) (sym (add-sub_of_le h))

pub entry-within : (q n k : ℕ) → gaussian q n k ≤ greatest_count → table_entry q n k ≡ gaussian q n k
entry-within q n k h = rw (le-leb (gaussian q n k) greatest_count h)
