-- Shapes by the sizes of their diagrams; no part of the meaning. The index runs through the sizes from the largest down, and in each
-- through the places of the diagrams and the tableaux.
--   sized_index q n k m s   == the index of the shape s among those of at most m dots
--   Sized q n k m i s      == s is the shape of a reduced matrix of at most m dots, with the index i among those
--   sized-valid            == for i in its bounds sized_shape gives such a shape
--   index-larger           == the index among those of one dot more
-- Assumes nothing.
use Rattle.std.specs.Prelude.{◌≡◌, ◌⊎◌, ℕ, zero, suc, ◌+◌, ◌*◌, ◌-◌, ◌^◌, ◌/◌, ◌%◌, ◌<◌, ◌≤◌}
use Rattle.std.proofs.Common.{ap, ap₂, ◌∙◌, inl, inr, suc-le-suc, le_refl, le_of_eq, div-lt_iff_lt-mul, mod-lt, sub-add_cancel, arith, lt-ltb, le-ltb}
use Rattle.std.proofs.Math.Nat.{le_step, pow-zero, div-add-mod, one-le-pow}
use Rattle.basics.specs.Laws.Order.{le-or-lt}
use Rattle.basics.specs.Sum.{sum, sum_range}
use Rattle.basics.specs.Laws.SumMore.{range_none, range_last}
use Rattle.matrix.specs.Shape.{Shape}
use Rattle.matrix.specs.Laws.Shape.{Valid}
use Rattle.ferrers.specs.Laws.DiagramShape.{Diagrammed, diagram-valid}
use Rattle.partitions.specs.Laws.GaussianPartitions.{weight}
use Rattle.ferrers.specs.Drawn.{diagram_shape, sized_shape}
use Rattle.ferrers.specs.Laws.ShapeRank.{shape_size, shape_place, shape_tableau}

abbrev pub sized_index : ℕ → ℕ → ℕ → ℕ → Shape → ℕ
sized_index q n k m s =
    sum_range (suc (shape_size s k)) m (weight q n k) + q ^ shape_size s k * shape_place s k n (shape_size s k) + shape_tableau q s k

pub record Sized (q n k m i : ℕ) (s : Shape) : Type 0 where
  pub valid : Valid q k n s
  pub fits : shape_size s k ≤ m
  pub index : sized_index q n k m s ≡ i

-- among those of size m, and among smaller ones
sized-of-diagram : (q n k m d x i : ℕ) (s : Shape) → q ^ m * d + x ≡ i → Diagrammed q n k m d x s → Sized q n k m i s
sized-of-diagram q n k m d x i s e r =
    record {
      valid = r.valid;
      fits = le_of_eq r.size;
      index =
          ap₂ (λ z t. sum_range (suc z) m (weight q n k) + q ^ z * shape_place s k n z + t) r.size r.tableau
          ∙ ap₂ (λ a b. a + q ^ m * b + x) (range_none (suc m) m (weight q n k) (le_refl (suc m))) r.place
          ∙ plain (q ^ m * d) x
          ∙ e;
    }
  where
    plain : (a b : ℕ) → 0 + a + b ≡ a + b
    plain a b = omega arith

pub index-larger : (q n k m : ℕ) (s : Shape) → shape_size s k ≤ m → sized_index q n k (suc m) s ≡ sized_index q n k m s + weight q n k (suc m)
index-larger q n k m s h =
    let z : ℕ = shape_size s k in
    ap (λ a. a + q ^ z * shape_place s k n z + shape_tableau q s k) (range_last (suc z) m (weight q n k) (suc-le-suc h))
    ∙ shuffle (sum_range (suc z) m (weight q n k)) (weight q n k (suc m)) (q ^ z * shape_place s k n z) (shape_tableau q s k)
  where
    shuffle : (a b c d : ℕ) → a + b + c + d ≡ a + c + d + b
    shuffle a b c d = omega arith

sized-larger : (q n k m i : ℕ) (s : Shape) → weight q n k (suc m) ≤ i → Sized q n k m (i - weight q n k (suc m)) s → Sized q n k (suc m) i s
sized-larger q n k m i s h r =
    let w : ℕ = weight q n k (suc m) in
    record {
      valid = r.valid;
      fits = le_step r.fits;
      index = index-larger q n k m s r.fits ∙ ap (λ a. a + w) r.index ∙ sub-add_cancel h;
    }

sized-step : (q n k m i : ℕ) → 0 < q → i < sum (suc (suc m)) (weight q n k) → (weight q n k (suc m) ≤ i) ⊎ (i < weight q n k (suc m))
    → ((j : ℕ) → j < sum (suc m) (weight q n k) → Sized q n k m j (sized_shape q n k m j))
    → Sized q n k (suc m) i (sized_shape q n k (suc m) i)
unfolding sized_shape sum
sized-step q n k m i h b (inl l) r =
    rw (le-ltb i (weight q n k (suc m)) l) (sized-larger q n k m i _ l (r (i - weight q n k (suc m)) (omega arith)))
sized-step q n k m i h b (inr l) r =
    let p : 0 < q ^ suc m = one-le-pow (suc m) q h in
    rw (lt-ltb i (weight q n k (suc m)) l)
    (sized-of-diagram q n k (suc m) (i / q ^ suc m) (i % q ^ suc m) i _ (div-add-mod i (q ^ suc m))
    (diagram-valid q n k (suc m) (i / q ^ suc m) (i % q ^ suc m) h ((div-lt_iff_lt-mul p).1 l) (mod-lt i p)))

pub sized-valid : (q n k m i : ℕ) → 0 < q → i < sum (suc m) (weight q n k) → Sized q n k m i (sized_shape q n k m i)
unfolding sized_shape sum
sized-valid q n k zero i h b =
    sized-of-diagram q n k 0 i 0 i (diagram_shape q n k 0 i 0) (rw pow-zero (omega arith))
    (diagram-valid q n k 0 i 0 h (omega (arith, rw pow-zero at b)) (one-le-pow 0 q h))
sized-valid q n k (suc m) i h b =
    sized-step q n k m i h b (le-or-lt (weight q n k (suc m)) i) (λ j l. sized-valid q n k m j h l)
