-- The bounds of the Ferrers numbering on peeled shapes; no part of the meaning.
--   valid-rows     == a reduced matrix has no more rows than columns
--   size_fits, shape_size_lem == its diagram fits the box k×(n-k)
--   place-free     == a free column in front leaves the place as it is
--   place-below    == the diagram's place is below the count of those of its size
--   tableau-below  == {x} is below q to the size
--   rank_below     == the index is below the Gaussian coefficient
-- Assumes nothing.
use Rattle.std.specs.Prelude.{◌≡◌, ℕ, zero, suc, ◌+◌, ◌*◌, ◌-◌, ◌^◌, ◌<◌, ◌≤◌}
use Rattle.std.proofs.Common.{ap, ◌∙◌, sym, subst₂, zero-le, suc-le-suc, le_refl, zero-lt-suc, add-sub_of_le, lt_of_lt_of_le, arith, pow-add}
use Rattle.std.proofs.Math.Nat.{le_step, pow-zero, add-sub_cancel_left}
use Rattle.std.proofs.Math.Arith.{digits_lt}
use Rattle.basics.specs.Sum.{sum, sum_range}
use Rattle.basics.specs.Laws.SumMore.{sum-range}
use Rattle.counts.specs.Gaussian.{gaussian}
use Rattle.matrix.specs.Shape.{Shape, free}
use Rattle.matrix.specs.Laws.Shape.{Valid, valid-empty, valid-free, valid-pivot}
use Rattle.partitions.specs.Laws.Box.{box-no-row, box-next, box-free-le}
use Rattle.partitions.specs.Laws.GaussianPartitions.{weight, gaussian-sized}
use Rattle.partitions.specs.Laws.Less.{less-add}
use Rattle.partitions.specs.Partitions.{box_count}
use Rattle.ferrers.specs.Laws.ShapeRank.{shape_size, shape_place, shape_tableau, ferrers_rank}

pub valid-rows : {q k n : ℕ} {s : Shape} → Valid q k n s → k ≤ n
valid-rows valid-empty = le_refl 0
valid-rows (valid-free b v) = le_step (valid-rows v)
valid-rows (valid-pivot v) = suc-le-suc (valid-rows v)

pub size_fits : {q k n : ℕ} {s : Shape} (η : ℕ) → n ≡ k + η → Valid q k n s → shape_size s k ≤ k * η
unfolding shape_size
size_fits η e valid-empty = zero-le
size_fits zero e (valid-free b v) = absurd (omega (arith, valid-rows v))
size_fits (suc η) e (valid-free b v) = omega (arith, size_fits η (omega arith) v)
size_fits η e (valid-pivot v) = omega (arith, size_fits η (omega arith) v)

pub shape_size_lem : {q k n : ℕ} {s : Shape} → Valid q k n s → shape_size s k ≤ k * (n - k)
shape_size_lem {k} {n} v = size_fits (n - k) (sym (add-sub_of_le (valid-rows v))) v

pub place-free : (x k n m : ℕ) (s : Shape) → shape_place (free x s) k (suc n) (k + m) ≡ shape_place s k n m
unfolding shape_place
place-free x k n m s = ap (shape_place s k n) (add-sub_cancel_left k m)

pub place-below : {q k n : ℕ} {s : Shape} → Valid q k n s → shape_place s k n (shape_size s k) < box_count n k (shape_size s k)
unfolding shape_size shape_place
place-below valid-empty = rw box-no-row (zero-lt-suc 0)
place-below (valid-free {k} {n} {x} {s} b v) =
    let m : ℕ = shape_size s k in
    lt_of_lt_of_le (subst₂ (λ a b. a < b) (sym (place-free x k n m s)) (sym (less-add (box_count n k) m k)) (place-below v))
    (box-free-le n k (k + m))
place-below (valid-pivot {k} {n} {s} v) = rw box-next (omega (arith, place-below v))

pub tableau-below : {q k n : ℕ} {s : Shape} → Valid q k n s → shape_tableau q s k < q ^ shape_size s k
unfolding shape_size shape_tableau
tableau-below {q} valid-empty = rw pow-zero (zero-lt-suc 0)
tableau-below {q} (valid-free {k} {n} {x} {s} b v) = rw (pow-add q k (shape_size s k)) (digits_lt b (tableau-below v))
tableau-below (valid-pivot v) = tableau-below v

-- a place below its count, then a tableau below its power, stay below the weight
within-weight : (larger P B T Q smaller total : ℕ) → P < B → T < Q → total ≡ smaller + B * Q + larger → larger + Q * P + T < total
within-weight larger P B T Q smaller total p t e = omega (arith, digits_lt p t)

pub rank_below : {q k n : ℕ} {s : Shape} → Valid q k n s → ferrers_rank q s k n < gaussian q n k
unfolding ferrers_rank
rank_below {q} {k} {n} {s} v =
    let m : ℕ = shape_size s k in
    let limit : ℕ = k * (n - k) in
    within-weight (sum_range (suc m) limit (weight q n k)) (shape_place s k n m) (box_count n k m) (shape_tableau q s k) (q ^ m)
    (sum m (weight q n k)) (gaussian q n k) (place-below v) (tableau-below v)
    (gaussian-sized q n k (n - k) (sym (add-sub_of_le (valid-rows v))) ∙ sum-range m limit (weight q n k) (shape_size_lem v))
