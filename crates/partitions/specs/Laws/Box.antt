-- Laws of the count of diagrams in a box; no part of the meaning. The box for k pivots among n = k + η columns is k×η.
--   box-no-row    == at k = 0 only the empty diagram
--   box-next      == one column more: a free column first, or a pivot's
--   free_all      == at k = 0 every diagram begins with a free column
--   box-beyond    == 0 where k > n
--   box-whole     == at n = k only the empty diagram
--   box-zero      == one diagram of size 0
--   box-limit     == none of a size above k·η
--   box-positive  == at least one of each size up to k·η
--   box-free-le   == those that begin with a free column are among all
--   box-short     == a box of at most 16 rows and columns together has room for at most 64 dots
-- Assumes nothing.
use Rattle.std.specs.Prelude.{◌≡◌, refl, ◌⊎◌, ℕ, zero, suc, ◌+◌, ◌*◌, ◌-◌, ◌<◌, ◌≤◌, eqb}
use Rattle.std.proofs.Common.{ap, ap₂, ◌∙◌, inl, inr, zero-le, zero-lt-suc, zero-add, not-suc-le-zero, le_of_suc-le-suc, le_of_eq, le-add_right, le_refl, lt_of_lt_of_le, le-add_left, arith, ne_eqb}
use Rattle.std.proofs.Math.Nat.{sub-zero}
use Rattle.basics.specs.Laws.Order.{le-or-lt}
use Rattle.basics.specs.Laws.Test.{every_pair, below}
use Rattle.basics.specs.Sum.{bit}
use Rattle.partitions.specs.Laws.Less.{less-at, less_none, less_zero}
use Rattle.partitions.specs.Partitions.{box_count, free_count}

pub box-no-row : (n m : ℕ) → box_count n 0 m ≡ bit (eqb m 0)
unfolding box_count
box-no-row n m = refl

pub box-next : (n k m : ℕ) → box_count (suc n) (suc k) m ≡ free_count n (suc k) m + box_count n k m
unfolding box_count
box-next n k m = refl

-- without a pivot every column is free
pub free_all : (n m : ℕ) → free_count n 0 m ≡ box_count (suc n) 0 m
unfolding box_count
free_all n m = less-at (box_count n 0) m 0 zero-le ∙ ap (λ x. bit (eqb x 0)) (sub-zero m)

pub box-beyond : (n k m : ℕ) → n < k → box_count n k m ≡ 0
unfolding box_count
box-beyond n zero m h = absurd (not-suc-le-zero h)
box-beyond zero (suc k) m h = refl
box-beyond (suc n) (suc k) m h =
    ap₂ (λ a b. a + b) (less_zero (box_count n (suc k)) m (suc k) (λ i. box-beyond n (suc k) i (omega arith)))
    (box-beyond n k m (le_of_suc-le-suc h))

pub box-whole : (n m : ℕ) → box_count n n m ≡ bit (eqb m 0)
unfolding box_count
box-whole zero m = refl
box-whole (suc n) m =
    ap₂ (λ a b. a + b) (less_zero (box_count n (suc n)) m (suc n) (λ i. box-beyond n (suc n) i (le_refl (suc n)))) (box-whole n m)
    ∙ zero-add (bit (eqb m 0))

pub box-zero : (n k : ℕ) → k ≤ n → box_count n k 0 ≡ 1
unfolding box_count
box-zero n zero h = refl
box-zero zero (suc k) h = absurd (not-suc-le-zero h)
box-zero (suc n) (suc k) h =
    ap₂ (λ a b. a + b) (less_none (box_count n (suc k)) 0 (suc k) (zero-lt-suc k)) (box-zero n k (le_of_suc-le-suc h))

pub box-free-le : (n k m : ℕ) → free_count n k m ≤ box_count (suc n) k m
box-free-le n zero m = le_of_eq (free_all n m)
box-free-le n (suc k) m = rw box-next (le-add_right (free_count n (suc k) m) (box_count n k m))

pub box-limit : (n k η m : ℕ) → n ≡ k + η → k * η < m → box_count n k m ≡ 0
box-limit n zero η m e h = box-no-row n m ∙ ap bit (ne_eqb m 0 (λ z. omega arith))
box-limit n (suc k) zero m e h =
    let s : n ≡ suc k = omega arith in
    rw s (box-whole (suc k) m ∙ ap bit (ne_eqb m 0 (λ z. omega arith)))
box-limit zero (suc k) (suc η) m e h = absurd (omega arith)
box-limit (suc n) (suc k) (suc η) m e h =
    box-next n k m
    ∙ ap₂ (λ a b. a + b) (cases (le-or-lt (suc k) m) (λ l. box-limit n (suc k) η (m - suc k) (omega arith) (omega arith)))
    (box-limit n k (suc η) m (omega arith) (omega arith))
  where
    cases : (suc k ≤ m) ⊎ (m < suc k) → (suc k ≤ m → box_count n (suc k) (m - suc k) ≡ 0) → free_count n (suc k) m ≡ 0
    cases (inl l) r = less-at (box_count n (suc k)) m (suc k) l ∙ r l
    cases (inr l) r = less_none (box_count n (suc k)) m (suc k) l

pub box-positive : (n k η m : ℕ) → n ≡ k + η → m ≤ k * η → 0 < box_count n k m
box-positive n zero η m e h =
    let z : m ≡ 0 = omega arith in
    rw (z, box-zero n 0 zero-le) (zero-lt-suc 0)
box-positive n (suc k) zero m e h =
    let z : m ≡ 0 = omega arith in
    rw (z, box-zero n (suc k) (omega arith)) (zero-lt-suc 0)
box-positive zero (suc k) (suc η) m e h = absurd (omega arith)
box-positive (suc n) (suc k) (suc η) m e h =
    rw box-next
    (cases (le-or-lt m (k * suc η)) (λ l. box-positive n k (suc η) m (omega arith) l)
    (λ l. box-positive n (suc k) η (m - suc k) (omega arith) (omega arith)))
  where
    cases : (m ≤ k * suc η) ⊎ (k * suc η < m) → (m ≤ k * suc η → 0 < box_count n k m)
        → (k * suc η < m → 0 < box_count n (suc k) (m - suc k)) → 0 < free_count n (suc k) m + box_count n k m
    cases (inl l) f g = lt_of_lt_of_le (f l) (le-add_left (box_count n k m) (free_count n (suc k) m))
    cases (inr l) f g =
        lt_of_lt_of_le (rw (less-at (box_count n (suc k)) m (suc k) (omega arith)) (g l))
        (le-add_right (free_count n (suc k) m) (box_count n k m))

-- by one computed test
pub box-short : (n : ℕ) → n < 17 → (k : ℕ) → k < 17 → k * (n - k) < 65
box-short = (every_pair 17 (λ n k. k * (n - k) < 65) (λ n k. below (k * (n - k)) 65)).shows tt
