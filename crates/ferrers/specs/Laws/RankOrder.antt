-- The rank of a peeled shape rises in the order of the numbering; no part of the meaning.
--   place-rising  == of two diagrams of one size, the one with more dots at the least differing column has the smaller place
--   rank-larger   == the larger diagram has the smaller rank
--   rank-fuller   == of one size, the one with more dots at the least differing column has the smaller rank
-- Assumes nothing.
use Rattle.std.specs.Prelude.{◌≡◌, List, get_or}
use Rattle.std.proofs.Math.Path.{refl, subst}
use Rattle.std.proofs.Common.{ap, sym, add-sub_of_le, add-lt-add_of_le_of_lt, le_refl, lt_of_lt_of_le, le-add_right, arith}
use Prim.Native.Nat.{ℕ, zero, suc, pred, ◌+◌, ◌*◌, ◌-◌, ◌^◌, ◌<◌, ◌≤◌}
use Rattle.std.proofs.Math.Arith.{digits_lt}
use Rattle.basics.specs.Laws.LexicographicRest.{lex-first, lex-rest}
use Rattle.basics.specs.Sum.{sum_range, Lex}
use Rattle.basics.specs.Laws.SumMore.{range-rest}
use Rattle.matrix.specs.Shape.{Shape, free, pivot}
use Rattle.matrix.specs.Laws.Shape.{Valid, valid-empty, valid-free, valid-pivot}
use Rattle.partitions.specs.Laws.GaussianPartitions.{weight}
use Rattle.ferrers.specs.Laws.Heights.{heights, heights-first}
use Rattle.partitions.specs.Laws.Less.{less-at}
use Rattle.partitions.specs.Partitions.{box_count, free_count}
use Rattle.ferrers.specs.Laws.ShapeRank.{shape_size, shape_place, shape_tableau, ferrers_rank}
use Rattle.ferrers.specs.Laws.ShapeBounds.{valid-rows, shape_size_lem, place-below, tableau-below}

-- the dots of the shape's free columns, by their number from the right
abbrev pub height_of : Shape → ℕ → ℕ → ℕ
height_of s k i = get_or (heights s k) i 0

-- a diagram that begins with a free column comes before all that begin with a pivot's
free-before : {q k n m : ℕ} {s : Shape} (x : ℕ) (t : Shape) → Valid q k n s → k + shape_size s k ≡ m
    → shape_place (free x s) k (suc n) m < shape_place (pivot t) k (suc n) m
unfolding shape_place
free-before {k} {n} {m} {s} x t v e =
    let d : shape_size s k ≡ m - k = omega arith in
    let b : shape_place s k n (m - k) < box_count n k (m - k) = subst (λ z. shape_place s k n z < box_count n k z) d (place-below v) in
    lt_of_lt_of_le (rw (less-at (box_count n k) m k (omega arith)) b) (le-add_right (free_count n k m) (shape_place t (pred k) n m))

-- and has more dots in the first column
not-fuller : {q k n : ℕ} {s : Shape} (η x : ℕ) (t : Shape) → n ≡ k + suc η → Valid q k n s
    → Lex (suc η) (height_of (free x t) (suc k)) (height_of (pivot s) (suc k)) → ⊥
unfolding heights
not-fuller {k} {s} η x t e v l =
    let (f, F, g, b) = heights-first v (omega arith) in
    let first : get_or (heights s k) 0 0 ≡ f = ap (λ (xs : List ℕ). get_or xs 0 0) g in
    omega (arith, lex-first (suc η) (height_of (free x t) (suc k)) (height_of (pivot s) (suc k)) l)

pub place-rising : {q k n : ℕ} {a b : Shape} (η m : ℕ) → n ≡ k + η → Valid q k n a → Valid q k n b
    → shape_size a k ≡ m → shape_size b k ≡ m → Lex η (height_of b k) (height_of a k) → shape_place a k n m < shape_place b k n m
unfolding shape_size shape_place heights
place-rising η m e valid-empty valid-empty d c l = absurd (omega (arith, l.within))
place-rising zero m e (valid-free x v) (valid-free y w) d c l = absurd (omega (arith, l.within))
place-rising (suc η) m e (valid-free {k} {x = x} {s = s} b v) (valid-free {x = y} {s = t} g w) d c l =
    place-rising η (m - k) (omega arith) v w (omega arith) (omega arith) (lex-rest η (height_of (free y t) k) (height_of (free x s) k) refl l)
place-rising η m e (valid-free {x = x} b v) (valid-pivot {s = t} w) d c l = free-before x t v d
place-rising zero m e (valid-pivot v) (valid-free g w) d c l = absurd (omega (arith, l.within))
place-rising (suc η) m e (valid-pivot v) (valid-free {x = y} {s = t} g w) d c l = absurd (not-fuller η y t (omega arith) v l)
place-rising η m e (valid-pivot {k} {n} v) (valid-pivot w) d c l =
    add-lt-add_of_le_of_lt (le_refl (free_count n (suc k) m)) (place-rising η m (omega arith) v w d c l)

-- the ranks, over variables: of a larger size, and of a smaller place
index-larger : (A B P Q R T X Y : ℕ) → P < B → T < Q → B * Q + A ≤ R → A + Q * P + T < R + X + Y
index-larger A B P Q R T X Y p t h = omega (arith, digits_lt p t)

index-fuller : (A P S Q T U : ℕ) → P < S → T < Q → A + Q * P + T < A + Q * S + U
index-fuller A P S Q T U p t = omega (arith, digits_lt p t)

module _ {q k n : ℕ} {a b : Shape} (v : Valid q k n a) (w : Valid q k n b) where
  pub rank-larger : shape_size b k < shape_size a k → ferrers_rank q a k n < ferrers_rank q b k n
  unfolding ferrers_rank
  rank-larger h =
      let m : ℕ = shape_size a k in
      let l : ℕ = shape_size b k in
      let larger : ℕ → ℕ = λ z. sum_range (suc z) (k * (n - k)) (weight q n k) in
      index-larger (larger m) (box_count n k m) (shape_place a k n m) (q ^ m) (larger l) (shape_tableau q a k) (q ^ l * shape_place b k n l)
      (shape_tableau q b k) (place-below v) (tableau-below v) (range-rest l m (k * (n - k)) (weight q n k) h (shape_size_lem v))

  pub rank-fuller : shape_size a k ≡ shape_size b k → Lex (n - k) (height_of b k) (height_of a k) → ferrers_rank q a k n < ferrers_rank q b k n
  unfolding ferrers_rank
  rank-fuller e h =
      let m : ℕ = shape_size a k in
      let larger : ℕ → ℕ = λ z. sum_range (suc z) (k * (n - k)) (weight q n k) in
      subst (λ z. larger m + q ^ m * shape_place a k n m + shape_tableau q a k < larger z + q ^ z * shape_place b k n z + shape_tableau q b k) e
      (index-fuller (larger m) (shape_place a k n m) (shape_place b k n m) (q ^ m) (shape_tableau q a k) (shape_tableau q b k)
      (place-rising (n - k) m (sym (add-sub_of_le (valid-rows v))) v w refl (sym e) h) (tableau-below v))
