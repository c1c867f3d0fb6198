-- Shapes and their indexes are one to one; no part of the meaning.
--   shape-of-sized   == sized_shape gives a shape back from its index among those of at most m dots
--   shape-valid      == ferrers_shape gives the shape of a reduced matrix
--   rank-of-shape, shape-of-rank == ferrers_rank and ferrers_shape undo one another
-- Assumes nothing.
use Rattle.std.specs.Prelude.{◌≡◌, ◌⊎◌, ℕ, zero, suc, ◌+◌, ◌*◌, ◌-◌, ◌^◌, ◌<◌, ◌≤◌}
use Rattle.std.proofs.Common.{ap, ap₂, ◌∙◌, sym, subst, inl, inr, le_refl, le_of_suc-le-suc, eq-or-lt_of_le, mul_comm, add-sub_of_le, add-sub_cancel, le-add_left, arith, lt-ltb, le-ltb}
use Rattle.std.proofs.Math.Nat.{pow-zero}
use Rattle.std.proofs.Math.Arith.{le-zero, digits_lt, digits_div, digits_mod}
use Rattle.basics.specs.Laws.SumMore.{range_none}
use Rattle.counts.specs.Gaussian.{gaussian}
use Rattle.matrix.specs.Shape.{Shape}
use Rattle.matrix.specs.Laws.Shape.{Valid}
use Rattle.ferrers.specs.Laws.DiagramShape.{diagram-of-shape}
use Rattle.partitions.specs.Laws.GaussianPartitions.{weight, gaussian-sized}
use Rattle.partitions.specs.Partitions.{box_count}
use Rattle.ferrers.specs.Drawn.{diagram_shape, sized_shape, ferrers_shape}
use Rattle.ferrers.specs.Laws.ShapeRank.{shape_size, shape_place, shape_tableau, ferrers_rank}
use Rattle.ferrers.specs.Laws.ShapeBounds.{shape_size_lem, place-below, tableau-below}
use Rattle.ferrers.specs.Laws.SizedShape.{sized_index, Sized, sized-valid, index-larger}

-- the largest diagrams come first, then the index of the others
sized-top : (q n k m d x : ℕ) → d < box_count n k m → x < q ^ m → sized_shape q n k m (q ^ m * d + x) ≡ diagram_shape q n k m d x
unfolding sized_shape
sized-top q n k zero d x b l =
    let z : q ^ 0 ≡ 1 = pow-zero q in
    let none : 0 ≡ x = omega arith in
    ap₂ (diagram_shape q n k 0) (rw z (omega arith)) none
sized-top q n k (suc m) d x b l =
    ap (λ a. sized_shape q n k (suc m) (a + x)) (mul_comm (q ^ suc m) d)
    ∙ rw (lt-ltb (d * q ^ suc m + x) (weight q n k (suc m)) (digits_lt b l), digits_div d l, digits_mod d l)

sized-next : (q n k m i : ℕ) → sized_shape q n k (suc m) (i + weight q n k (suc m)) ≡ sized_shape q n k m i
unfolding sized_shape
sized-next q n k m i =
    let w : ℕ = weight q n k (suc m) in
    rw (le-ltb (i + w) w (le-add_left w i), add-sub_cancel i w)

-- a shape of size m among those of at most m dots
shape-of-top : {q n k : ℕ} {s : Shape} (m : ℕ) → Valid q k n s → shape_size s k ≡ m → sized_shape q n k m (sized_index q n k m s) ≡ s
shape-of-top {q} {n} {k} {s} m v e =
    let z : ℕ = shape_size s k in
    let alone : sized_index q n k z s ≡ q ^ z * shape_place s k n z + shape_tableau q s k
    = omega (arith, range_none (suc z) z (weight q n k) (le_refl (suc z)))
    in
    subst (λ m. sized_shape q n k m (sized_index q n k m s) ≡ s) e
    (ap (sized_shape q n k z) alone
    ∙ sized-top q n k z (shape_place s k n z) (shape_tableau q s k) (place-below v) (tableau-below v)
    ∙ diagram-of-shape v)

pub shape-of-sized : {q n k : ℕ} {s : Shape} (m : ℕ) → Valid q k n s → shape_size s k ≤ m → sized_shape q n k m (sized_index q n k m s) ≡ s
shape-of-sized zero v h = shape-of-top zero v (le-zero h)
shape-of-sized {q} {n} {k} {s} (suc m) v h = cases (eq-or-lt_of_le h) (shape-of-sized m v)
  where
    cases : (shape_size s k ≡ suc m) ⊎ (shape_size s k < suc m) → (shape_size s k ≤ m → sized_shape q n k m (sized_index q n k m s) ≡ s)
        → sized_shape q n k (suc m) (sized_index q n k (suc m) s) ≡ s
    cases (inl e) r = shape-of-top (suc m) v e
    cases (inr l) r =
        ap (sized_shape q n k (suc m)) (index-larger q n k m s (le_of_suc-le-suc l))
        ∙ sized-next q n k m (sized_index q n k m s)
        ∙ r (le_of_suc-le-suc l)

module _ (q n k i : ℕ) (positive : 0 < q) (rows : k ≤ n) (b : i < gaussian q n k) where
  sized : Sized q n k (k * (n - k)) i (sized_shape q n k (k * (n - k)) i)
  sized = sized-valid q n k (k * (n - k)) i positive (subst (λ g. i < g) (gaussian-sized q n k (n - k) (sym (add-sub_of_le rows))) b)

  pub shape-valid : Valid q k n (ferrers_shape q n k i)
  unfolding ferrers_shape
  shape-valid = sized.valid

  pub rank-of-shape : ferrers_rank q (ferrers_shape q n k i) k n ≡ i
  unfolding ferrers_shape ferrers_rank
  rank-of-shape = sized.index

pub shape-of-rank : {q n k : ℕ} {s : Shape} → Valid q k n s → ferrers_shape q n k (ferrers_rank q s k n) ≡ s
unfolding ferrers_shape ferrers_rank
shape-of-rank {n} {k} v = shape-of-sized (k * (n - k)) v (shape_size_lem v)
