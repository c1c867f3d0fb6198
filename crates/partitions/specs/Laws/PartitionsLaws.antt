-- Laws of partitions in a box. Document 001, Lemma 1: "p(k, η, m) satisfies the following recurrence relation: p(k, η, m) = p(k, η-1, m-k)
-- + p(k-1, η, m) with the initial conditions p(k, η, m) = 0 if m < 0 or m > η·k and p(k, η, 0) = 1."
--   partitions-recurrence  == the recurrence
--   partitions-zero        == 1 at m = 0
--   partitions-beyond      == 0 at m > η·k
--   partitions-no-row, partitions-no-column == at k = 0 or η = 0, the empty partition alone
--   box-as-partitions, box-partitions == the count of diagrams in the box for k pivots among n columns is p(k, n-k, m)
-- Assumes nothing.
use Rattle.std.specs.Prelude.{◌≡◌, refl, ℕ, zero, suc, ◌+◌, ◌*◌, ◌-◌, ◌<◌, ◌≤◌, eqb}
use Rattle.std.proofs.Common.{ap₂, ◌∙◌, sym, le-add_right, add-sub_of_le, arith}
use Rattle.basics.specs.Sum.{bit}
use Rattle.partitions.specs.Laws.Box.{box-no-row, box-next, box-whole, box-zero, box-limit}
use Rattle.partitions.specs.Laws.Less.{less-same}
use Rattle.partitions.specs.Partitions.{partitions_less, partitions, partitions_row, box_count}

pub partitions-recurrence : (k η m : ℕ)
    → partitions (suc k) (suc η) m ≡ partitions_less (partitions (suc k) η) m (suc k) + partitions k (suc η) m
unfolding partitions partitions_row
partitions-recurrence k η m = refl

pub partitions-no-row : (η m : ℕ) → partitions 0 η m ≡ bit (eqb m 0)
unfolding partitions
partitions-no-row η m = refl

pub partitions-no-column : (k m : ℕ) → partitions k 0 m ≡ bit (eqb m 0)
unfolding partitions partitions_row
partitions-no-column zero m = refl
partitions-no-column (suc k) m = refl

-- with n = k + η, by the recurrence on both sides
pub box-as-partitions : (n k η m : ℕ) → n ≡ k + η → box_count n k m ≡ partitions k η m
box-as-partitions n zero η m e = box-no-row n m ∙ sym (partitions-no-row η m)
box-as-partitions n (suc k) zero m e =
    let s : n ≡ suc k = omega arith in
    rw s (box-whole (suc k) m ∙ sym (partitions-no-column (suc k) m))
box-as-partitions zero (suc k) (suc η) m e = absurd (omega arith)
box-as-partitions (suc n) (suc k) (suc η) m e =
    box-next n k m
    ∙ ap₂ (λ a b. a + b)
    (less-same (box_count n (suc k)) (partitions (suc k) η) m (suc k) (λ i. box-as-partitions n (suc k) η i (omega arith)))
    (box-as-partitions n k (suc η) m (omega arith))
    ∙ sym (partitions-recurrence k η m)

pub box-partitions : (n k m : ℕ) → k ≤ n → box_count n k m ≡ partitions k (n - k) m
box-partitions n k m h = box-as-partitions n k (n - k) m (sym (add-sub_of_le h))

pub partitions-zero : (k η : ℕ) → partitions k η 0 ≡ 1
partitions-zero k η = sym (box-as-partitions (k + η) k η 0 refl) ∙ box-zero (k + η) k (le-add_right k η)

pub partitions-beyond : (k η m : ℕ) → η * k < m → partitions k η m ≡ 0
partitions-beyond k η m h = sym (box-as-partitions (k + η) k η m refl) ∙ box-limit (k + η) k η m refl (omega arith)
