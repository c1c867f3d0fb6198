-- The count of what is left of a matrix; no part of the meaning.
--   gaussian-part   == fewer columns, and so many rows fewer at most, have a count of at most the whole's
--   located-count   == so has the part of a reduced matrix that is still to be peeled
-- Assumes nothing.
use Rattle.std.specs.Prelude.{◌≡◌, Bool, true, false, List, ◌⊎◌, ℕ, zero, suc, ◌-◌, ◌<◌, ◌≤◌}
use Rattle.std.proofs.Common.{inl, inr, le_refl, le_trans, eq-or-lt_of_le, le_of_suc-le-suc, arith}
use Rattle.basics.specs.Sum.{sum, bit}
use Rattle.matrix.specs.Matrix.{pivot_at}
use Rattle.matrix.specs.Shape.{Shape}
use Rattle.matrix.specs.Laws.PeelPlace.{Located}
use Rattle.counts.specs.Gaussian.{gaussian}
use Rattle.counts.specs.Laws.GaussianLaws.{gaussian-longer-le, gaussian-pivot-le}

-- one column more, or one column and one row
part_step : (q c k N K : ℕ) → 0 < q → k ≤ suc K → c ≤ suc N → suc K - k ≤ suc N - c
    → ((K : ℕ) → k ≤ K → c ≤ N → K - k ≤ N - c → gaussian q c k ≤ gaussian q N K)
    → (c ≡ suc N) ⊎ (c < suc N) → (k ≡ suc K) ⊎ (k < suc K) → gaussian q c k ≤ gaussian q (suc N) (suc K)
part_step q c k N K h a b d r (inl e) g = let f : k ≡ suc K = omega arith in rw (e, f) (le_refl (gaussian q (suc N) (suc K)))
part_step q c k N K h a b d r (inr l) (inl e) = le_trans (r (suc K) a (le_of_suc-le-suc l) (omega arith)) (gaussian-longer-le q N (suc K) h)
part_step q c k N K h a b d r (inr l) (inr g) =
    le_trans (r K (le_of_suc-le-suc g) (le_of_suc-le-suc l) (omega arith)) (gaussian-pivot-le q N K)

pub gaussian-part : (q c k N K : ℕ) → 0 < q → k ≤ K → c ≤ N → K - k ≤ N - c → gaussian q c k ≤ gaussian q N K
unfolding gaussian
gaussian-part q c k zero K h a b d =
    let e : c ≡ 0 = omega arith in
    let f : k ≡ K = omega arith in
    rw (e, f) (le_refl (gaussian q 0 K))
gaussian-part q c k (suc N) zero h a b d = let f : k ≡ 0 = omega arith in rw f (le_refl 1)
gaussian-part q c k (suc N) (suc K) h a b d =
    part_step q c k N K h a b d (λ J. gaussian-part q c k N J h) (eq-or-lt_of_le b) (eq-or-lt_of_le a)

bit-count : (n : ℕ) (b : ℕ → Bool) → sum n (λ i. bit (b i)) ≤ n
unfolding sum
bit-count zero b = le_refl 0
bit-count (suc n) b = omega (arith, bit-count n b, one (b n))
  where
    one : (t : Bool) → bit t ≤ 1
    one true = omega arith
    one false = omega arith

pub located-count : {q N K k c : ℕ} {m : List ℕ} {s : Shape} → 0 < q → Located q N K m k c s → gaussian q c k ≤ gaussian q N K
located-count {q} {N} {K} {k} {c} {m} h l =
    gaussian-part q c k N K h l.rows l.columns (omega (arith, l.counted, bit-count (N - c) (λ i. pivot_at N K m (suc i))))
