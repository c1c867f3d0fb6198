-- The counts of spaces by the sizes of their diagrams fit 64 bits, for accepted settings; no part of the meaning.
--   weight-split     == the Gaussian coefficient, split at a size
--   power-within     == q to a size is at most the Gaussian coefficient
--   Sizes, sizes     == so it, the spaces of that size, and those of that size or larger fit 64 bits; and it is above 0
--   Adding, adding-start, -step, -end == the spaces of more than i dots, added up size by size from the largest
-- Assumes nothing.
use Rattle.std.specs.Prelude.{◌≡◌, ℕ, suc, ◌+◌, ◌*◌, ◌-◌, ◌^◌, ◌<◌, ◌≤◌, T}
use Rattle.std.proofs.Common.{ap, ◌∙◌, sym, add-sub_of_le, mul-le-mul_right, le_of_lt, le_trans, le_refl, arith}
use Rattle.std.proofs.Math.Nat.{one-le-pow}
use Rattle.basics.specs.Sum.{sum, sum_range}
use Rattle.basics.specs.Laws.SumMore.{sum-range, range_none, range_front}
use Rattle.field.specs.Field.{is_field_size}
use Rattle.field.specs.Laws.Small.{size_small}
use Rattle.counts.specs.Gaussian.{gaussian, greatest_count}
use Rattle.settings.specs.Laws.Accepted.{Accepted}
use Rattle.partitions.specs.Laws.Box.{box-positive, box-short}
use Rattle.ferrers.specs.Ferrers.{larger_diagrams}
use Rattle.ferrers.specs.Laws.Formula.{larger-formula}
use Rattle.partitions.specs.Laws.GaussianPartitions.{weight, gaussian-sized}
use Rattle.partitions.specs.Partitions.{box_count}

pub weight-split : (q n k i : ℕ) → k ≤ n → i ≤ k * (n - k)
    → gaussian q n k ≡ sum i (weight q n k) + weight q n k i + sum_range (suc i) (k * (n - k)) (weight q n k)
weight-split q n k i rows h =
    gaussian-sized q n k (n - k) (sym (add-sub_of_le rows)) ∙ sum-range i (k * (n - k)) (weight q n k) h

pub power-within : (q n k i : ℕ) → k ≤ n → i ≤ k * (n - k) → q ^ i ≤ gaussian q n k
power-within q n k i rows h =
    let one : 1 * q ^ i ≤ box_count n k i * q ^ i = mul-le-mul_right (q ^ i) (box-positive n k (n - k) i (sym (add-sub_of_le rows)) h) in
    omega (arith, weight-split q n k i rows h)

pub record Sizes (q n k i : ℕ) : Type 0 where
  pub size : T (is_field_size q)
  pub short : i ≤ 64
  pub power : q ^ i ≤ greatest_count
  pub positive : 0 < q ^ i
  pub these : box_count n k i * q ^ i ≤ greatest_count
  pub larger : box_count n k i * q ^ i + sum_range (suc i) (k * (n - k)) (weight q n k) ≤ greatest_count

pub sizes : {q n k : ℕ} (i : ℕ) → Accepted q n k → i ≤ k * (n - k) → Sizes q n k i
sizes {q} {n} {k} i a h =
    record {
      size = a.size;
      short = omega (arith, box-short n (omega (arith, a.narrow)) k (omega (arith, a.narrow, a.dimension)));
      power = le_trans (power-within q n k i a.dimension h) a.counted;
      positive = one-le-pow i q (le_of_lt (size_small q a.size).0);
      these = omega (arith, weight-split q n k i a.dimension h, a.counted);
      larger = omega (arith, weight-split q n k i a.dimension h, a.counted);
    }

pub record Adding (q n k sum i : ℕ) : Type 0 where
  pub within : i ≤ k * (n - k)
  pub larger : sum ≡ sum_range (suc i) (k * (n - k)) (weight q n k)

pub adding-start : (q n k : ℕ) → Adding q n k 0 (k * (n - k))
adding-start q n k =
    let limit : ℕ = k * (n - k) in
    record { within = le_refl limit; larger = sym (range_none (suc limit) limit (weight q n k) (le_refl (suc limit))) }

pub adding-step : {q n k sum i : ℕ} (w : ℕ) → Accepted q n k → 0 < i → w ≡ box_count n k i * q ^ i → Adding q n k sum i
    → (sum + w ≤ greatest_count) × Adding q n k (sum + w) (i - 1)
adding-step {q} {n} {k} {sum} {i} w a h e s =
    let limit : ℕ = k * (n - k) in
    let next : suc (i - 1) ≡ i = omega arith in (
      omega (arith, (sizes i a s.within).larger, s.larger),
      record {
        within = omega (arith, s.within);
        larger = rw next (omega (arith, range_front i limit (weight q n k) s.within, s.larger));
      },
    )

pub adding-end : {q n k sum i m : ℕ} → Accepted q n k → i ≡ m → Adding q n k sum i → sum ≡ larger_diagrams q k (n - k) m
adding-end {q} {n} {k} {i} {m} a e s =
    s.larger ∙ ap (λ j. sum_range (suc j) (k * (n - k)) (weight q n k)) e ∙ sym (larger-formula q n k m a.dimension)
