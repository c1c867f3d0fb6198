-- The extended numbering of shapes is one to one onto the numbers below the Gaussian coefficient; no part of the meaning. A shape's index
-- is written with its rightmost column as leading digit, so each step is a division with remainder.
--   rank_below      == a shape's index is below the count
--   shape_free, shape-pivot == the shape with the index i begins with a free column, or with a pivot's
--   no-row-free, after_free == what is left of an index after its rightmost column
--   shape-valid     == an index below the count has a shape of a reduced matrix
--   rank-of-shape, shape-of-rank == the two recursions undo one another
-- Assumes nothing.
use Rattle.std.specs.Prelude.{◌≡◌, refl, ◌⊎◌, ℕ, zero, suc, pred, ◌+◌, ◌*◌, ◌-◌, ◌^◌, ◌/◌, ◌%◌, ◌<◌, ◌≤◌}
use Rattle.std.proofs.Common.{ap, ap₂, ◌∙◌, inl, inr, zero-lt-suc, not-suc-le-zero, lt_of_lt_of_le, le-add_right, mod-lt, div-lt_iff_lt-mul, div-add-mod', add-sub_of_le, arith, lt-ltb, le-ltb}
use Rattle.std.proofs.Math.Nat.{pow-zero, add-sub_cancel_left}
use Rattle.std.proofs.Math.Arith.{digits_lt, digits_div, digits_mod}
use Rattle.basics.specs.Laws.Order.{le-or-lt}
use Rattle.matrix.specs.Laws.Flatten.{factor-positive}
use Rattle.matrix.specs.Shape.{Shape, empty, free, pivot}
use Rattle.matrix.specs.Laws.Shape.{Valid, valid-empty, valid-free, valid-pivot}
use Rattle.counts.specs.Gaussian.{gaussian}
use Rattle.counts.specs.Laws.GaussianLaws.{gaussian-free-le}
use Rattle.extended.specs.Drawn.{extended_shape}
use Rattle.extended.specs.Laws.ShapeRank.{extended_rank}

pub rank_below : {q k n : ℕ} {s : Shape} → Valid q k n s → extended_rank q s k n < gaussian q n k
unfolding extended_rank gaussian
rank_below valid-empty = zero-lt-suc 0
rank_below {q} (valid-free {k} {n} b v) = lt_of_lt_of_le (digits_lt b (rank_below v)) (gaussian-free-le q n k)
rank_below {q} (valid-pivot {k} {n} v) = omega (arith, rank_below v)

module _ (q n k i : ℕ) where
  pub shape_free : i < q ^ k * gaussian q n k
      → extended_shape q (suc n) k i ≡ free (i / gaussian q n k) (extended_shape q n k (i % gaussian q n k))
  unfolding extended_shape
  shape_free h = rw (lt-ltb i (q ^ k * gaussian q n k) h)

  pub shape-pivot : q ^ k * gaussian q n k ≤ i
      → extended_shape q (suc n) k i ≡ pivot (extended_shape q n (pred k) (i - q ^ k * gaussian q n k))
  unfolding extended_shape
  shape-pivot h = rw (le-ltb i (q ^ k * gaussian q n k) h)

-- with no rows left the last column is free
pub no-row-free : (q n i : ℕ) → i < gaussian q (suc n) 0 → q ^ 0 * gaussian q n 0 ≤ i → ⊥
unfolding gaussian
no-row-free q n i h b = omega (arith, pow-zero q)

-- what is left after all that begin with a free column
pub after_free : (q n k i : ℕ) → i < gaussian q (suc n) (suc k) → q ^ suc k * gaussian q n (suc k) ≤ i
    → i - q ^ suc k * gaussian q n (suc k) < gaussian q n k
unfolding gaussian
after_free q n k i h b = omega arith

valid-step : (q n k i : ℕ) → ((k i : ℕ) → i < gaussian q n k → Valid q k n (extended_shape q n k i)) → i < gaussian q (suc n) k
    → (q ^ k * gaussian q n k ≤ i) ⊎ (i < q ^ k * gaussian q n k) → Valid q k (suc n) (extended_shape q (suc n) k i)
valid-step q n k i r h (inr b) =
    let positive = factor-positive (q ^ k) (gaussian q n k) i b in
    rw (shape_free q n k i b) (valid-free ((div-lt_iff_lt-mul positive).1 b) (r k (i % gaussian q n k) (mod-lt i positive)))
valid-step q n zero i r h (inl b) = absurd (no-row-free q n i h b)
valid-step q n (suc k) i r h (inl b) =
    rw (shape-pivot q n (suc k) i b) (valid-pivot (r k (i - q ^ suc k * gaussian q n (suc k)) (after_free q n k i h b)))

pub shape-valid : (q n k i : ℕ) → i < gaussian q n k → Valid q k n (extended_shape q n k i)
unfolding gaussian extended_shape
shape-valid q zero zero i h = valid-empty
shape-valid q zero (suc k) i h = absurd (not-suc-le-zero h)
shape-valid q (suc n) k i h = valid-step q n k i (shape-valid q n) h (le-or-lt (q ^ k * gaussian q n k) i)

rank_step : (q n k i : ℕ) → ((k i : ℕ) → i < gaussian q n k → extended_rank q (extended_shape q n k i) k n ≡ i) → i < gaussian q (suc n) k
    → (q ^ k * gaussian q n k ≤ i) ⊎ (i < q ^ k * gaussian q n k) → extended_rank q (extended_shape q (suc n) k i) k (suc n) ≡ i
unfolding extended_rank
rank_step q n k i r h (inr b) =
    let positive = factor-positive (q ^ k) (gaussian q n k) i b in
    rw (shape_free q n k i b)
    (ap (λ e. i / gaussian q n k * gaussian q n k + e) (r k (i % gaussian q n k) (mod-lt i positive)) ∙ div-add-mod' i (gaussian q n k))
rank_step q n zero i r h (inl b) = absurd (no-row-free q n i h b)
rank_step q n (suc k) i r h (inl b) =
    let before = q ^ suc k * gaussian q n (suc k) in
    rw (shape-pivot q n (suc k) i b) (ap (λ e. before + e) (r k (i - before) (after_free q n k i h b)) ∙ add-sub_of_le b)

pub rank-of-shape : (q n k i : ℕ) → i < gaussian q n k → extended_rank q (extended_shape q n k i) k n ≡ i
unfolding gaussian extended_shape extended_rank
rank-of-shape q zero zero i h = omega arith
rank-of-shape q zero (suc k) i h = absurd (not-suc-le-zero h)
rank-of-shape q (suc n) k i h = rank_step q n k i (rank-of-shape q n) h (le-or-lt (q ^ k * gaussian q n k) i)

no-columns : (q k i : ℕ) → extended_shape q 0 k i ≡ empty
unfolding extended_shape
no-columns q k i = refl

pub shape-of-rank : {q k n : ℕ} {s : Shape} → Valid q k n s → extended_shape q n k (extended_rank q s k n) ≡ s
unfolding extended_rank
shape-of-rank {q} valid-empty = no-columns q 0 0
shape-of-rank {q} (valid-free {k} {n} {x} {s} b v) =
    let g = gaussian q n k in
    let e = extended_rank q s k n in
    shape_free q n k (x * g + e) (digits_lt b (rank_below v))
    ∙ ap₂ (λ a t. free a t) (digits_div x (rank_below v)) (ap (extended_shape q n k) (digits_mod x (rank_below v)) ∙ shape-of-rank v)
shape-of-rank {q} (valid-pivot {k} {n} {s} v) =
    let b = q ^ suc k * gaussian q n (suc k) in
    let e = extended_rank q s k n in
    shape-pivot q n (suc k) (b + e) (le-add_right b e) ∙ ap pivot (ap (extended_shape q n k) (add-sub_cancel_left b e) ∙ shape-of-rank v)
