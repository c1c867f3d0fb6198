-- The Gaussian coefficient by partitions. Document 001, Theorem 2: "[n, k] = the sum over m from 0 to k(n-k) of α_m q^m, where α_m =
-- p(k, n-k, m)". By formula (4), which is the count of diagrams with one column more, weighted.
--   weight q n k i        == the number of matrices whose diagram has i dots, by the count of diagrams
--   gaussian-weights      == the Gaussian coefficient is the sum of the weights to any limit above k·n
--   gaussian-sized        == to the limit k(n-k)
--   gaussian-partitions   == Theorem 2
-- Assumes nothing.
use Rattle.std.specs.Prelude.{◌≡◌, ℕ, zero, suc, ◌+◌, ◌*◌, ◌-◌, ◌^◌, ◌<◌, ◌≤◌}
use Rattle.std.proofs.Common.{ap, ap₂, ◌∙◌, sym, zero-add, zero-mul, add-mul, add-sub_of_le, le_refl, not-suc-le-zero, suc-ne-zero, arith, ne_eqb, pow-add}
use Rattle.std.proofs.Math.Nat.{pow-zero}
use Rattle.basics.specs.Sum.{sum}
use Rattle.basics.specs.Laws.SumLaws.{sum_same, sum_zeros, sum-split, sum-front, sum-times}
use Rattle.basics.specs.Laws.SumMore.{sum-add, sum-longer}
use Rattle.counts.specs.Gaussian.{gaussian}
use Rattle.partitions.specs.Laws.Box.{box-limit}
use Rattle.partitions.specs.Laws.Less.{less-add, less_none}
use Rattle.partitions.specs.Partitions.{partitions, box_count, free_count}
use Rattle.partitions.specs.Laws.PartitionsLaws.{box-partitions}

abbrev pub weight : ℕ → ℕ → ℕ → ℕ → ℕ
weight q n k i = box_count n k i * q ^ i

-- the matrices whose last column is free
free-weights : (q n k M : ℕ) → sum (k + M) (λ i. free_count n k i * q ^ i) ≡ q ^ k * sum M (weight q n k)
free-weights q n k M =
    sum-split k M (λ i. free_count n k i * q ^ i)
    ∙ ap₂ (λ a b. a + b)
    (sum_zeros k (λ i. free_count n k i * q ^ i) (λ i h. ap (λ x. x * q ^ i) (less_none (box_count n k) i k h) ∙ zero-mul (q ^ i)))
    (sum_same M (λ i. free_count n k (k + i) * q ^ (k + i)) (λ i. q ^ k * weight q n k i) (λ i h. shifted i))
    ∙ zero-add (sum M (λ i. q ^ k * weight q n k i))
    ∙ sum-times M (q ^ k) (weight q n k)
  where
    exchange : (b x y : ℕ) → b * (x * y) ≡ x * (b * y)
    exchange b x y = omega arith

    shifted : (i : ℕ) → free_count n k (k + i) * q ^ (k + i) ≡ q ^ k * weight q n k i
    shifted i = ap₂ (λ a b. a * b) (less-add (box_count n k) i k) (pow-add q k i) ∙ exchange (box_count n k i) (q ^ k) (q ^ i)

-- without a pivot there is one matrix
empty-weights : (q n M : ℕ) → 0 < M → sum M (weight q n 0) ≡ 1
unfolding box_count
empty-weights q n zero h = absurd (not-suc-le-zero h)
empty-weights q n (suc M) h =
    sum-front M (weight q n 0)
    ∙ ap₂ (λ a b. a + b) (ap (λ x. 1 * x) (pow-zero q))
    (sum_zeros M (λ i. weight q n 0 (suc i)) (λ i _. rw (ne_eqb (suc i) 0 (suc-ne-zero i), zero-mul)))

pub gaussian-weights : (q n k M : ℕ) → k * n < M → gaussian q n k ≡ sum M (weight q n k)
unfolding gaussian box_count
gaussian-weights q n zero M h = sym (empty-weights q n M (omega arith))
gaussian-weights q zero (suc k) M h = sym (sum_zeros M (λ i. 0 * q ^ i) (λ i _. zero-mul (q ^ i)))
gaussian-weights q (suc n) (suc k) M h =
    let e : suc k + (M - suc k) ≡ M = omega arith in
    ap₂ (λ a b. q ^ suc k * a + b) (gaussian-weights q n (suc k) (M - suc k) (omega arith)) (gaussian-weights q n k M (omega arith))
    ∙ ap (λ a. a + sum M (weight q n k)) (sym (free-weights q n (suc k) (M - suc k))
    ∙ ap (λ x. sum x (λ i. free_count n (suc k) i * q ^ i)) e)
    ∙ sym (sum-add M (λ i. free_count n (suc k) i * q ^ i) (weight q n k))
    ∙ sum_same M (λ i. free_count n (suc k) i * q ^ i + weight q n k i) (weight q (suc n) (suc k))
    (λ i _. sym (add-mul (free_count n (suc k) i) (box_count n k i) (q ^ i)))

pub gaussian-sized : (q n k η : ℕ) → n ≡ k + η → gaussian q n k ≡ sum (suc (k * η)) (weight q n k)
gaussian-sized q n k η e =
    gaussian-weights q n k (suc (k * n)) (le_refl (suc (k * n)))
    ∙ sum-longer (suc (k * η)) (suc (k * n)) (weight q n k) (rw e (omega arith))
    (λ i h. ap (λ x. x * q ^ i) (box-limit n k η i e h) ∙ zero-mul (q ^ i))

pub gaussian-partitions : (q n k : ℕ) → k ≤ n → gaussian q n k ≡ sum (suc (k * (n - k))) (λ i. partitions k (n - k) i * q ^ i)
gaussian-partitions q n k h =
    gaussian-sized q n k (n - k) (sym (add-sub_of_le h))
    ∙ sum_same (suc (k * (n - k))) (weight q n k) (λ i. partitions k (n - k) i * q ^ i)
    (λ i _. ap (λ x. x * q ^ i) (box-partitions n k i h))
