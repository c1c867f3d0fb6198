-- Formula (12) on a peeled shape; no part of the meaning. Formula (12) and the shape's place both go by the columns from the right: the
-- first column's sum over a from F_1 + 1 to k is what the pivot columns before it add.
--   first_term k η m f     == what the first column, of f dots, adds in formula (12), η columns being left after it
--   place-front           == formula (12) by its first column
--   place-longer          == formula (12) with one row more
--   place-of-shape        == formula (12) gives the place of the shape's diagram
-- Assumes nothing.
use Rattle.std.specs.Prelude.{◌≡◌, refl, List, [], ◌∷◌}
use Rattle.std.proofs.Math.Path.{ap, ap₂}
use Rattle.std.proofs.Common.{◌∙◌, sym, zero-add, le-add_right, le_refl}
use Prim.Native.Nat.{ℕ, zero, suc, ◌+◌, ◌-◌, ◌≤◌, suc-le-suc, zero-le}
use Rattle.std.proofs.Math.Nat.{add_assoc, add-sub_cancel_left}
use native.Mathlib.Omega.{arith}
use Rattle.basics.specs.Sum.{sum, sum_range}
use Rattle.basics.specs.Laws.SumLaws.{sum_same, sum-front}
use Rattle.basics.specs.Laws.SumMore.{range_none, range_front, range_last, range-shift, range_same}
use Rattle.matrix.specs.Shape.{Shape}
use Rattle.matrix.specs.Laws.Shape.{Valid, valid-empty, valid-free, valid-pivot}
use Rattle.partitions.specs.Laws.Box.{box-beyond}
use Rattle.ferrers.specs.Ferrers.{total, height_at, diagram_term, diagram_place}
use Rattle.ferrers.specs.Laws.Heights.{heights, heights-first, heights-total}
use Rattle.partitions.specs.Laws.Less.{less-same, less_zero, less-taken}
use Rattle.partitions.specs.Partitions.{partitions_less, partitions, box_count, free_count}
use Rattle.partitions.specs.Laws.PartitionsLaws.{box-as-partitions}
use Rattle.ferrers.specs.Laws.ShapeRank.{shape_size, shape_place}
use Rattle.ferrers.specs.Laws.ShapeBounds.{valid-rows, place-free}

abbrev first_term : ℕ → ℕ → ℕ → ℕ → ℕ
first_term k η m f = sum_range (suc f) k (λ a. partitions_less (partitions a η) m a)

module _ (k η m f : ℕ) (F : List ℕ) where
  term-first : diagram_term k (suc η) (f ∷ F) m 1 ≡ first_term k η m f
  unfolding diagram_term sum_range sum
  term-first =
      let e : suc η - 1 ≡ η = omega arith in
      rw e (range_same (suc f) k (λ a. partitions_less (partitions a η) m (0 + a)) (λ a. partitions_less (partitions a η) m a)
      (λ a _ _. ap (partitions_less (partitions a η) m) (zero-add a)))

  -- the dots of the first columns
  dots-front : (i : ℕ) → sum_range 1 (suc i) (height_at k (f ∷ F)) ≡ f + sum_range 1 i (height_at f F)
  dots-front i =
      range_front 1 (suc i) (height_at k (f ∷ F)) (suc-le-suc zero-le)
      ∙ ap (λ x. f + x) (range-shift 1 i (height_at k (f ∷ F)))

  term-next : (i : ℕ) → f ≤ m → diagram_term k (suc η) (f ∷ F) m (suc (suc i)) ≡ diagram_term f η F (m - f) (suc i)
  unfolding diagram_term
  term-next i h =
      let e : suc (suc i) - 1 ≡ suc i = omega arith in
      let g : suc i - 1 ≡ i = omega arith in
      let d : suc η - suc (suc i) ≡ η - suc i = omega arith in
      rw (e, g, d)
      (range_same (suc (height_at f F (suc i))) (height_at f F i)
      (λ a. partitions_less (partitions a (η - suc i)) m (sum_range 1 (suc i) (height_at k (f ∷ F)) + a))
      (λ a. partitions_less (partitions a (η - suc i)) (m - f) (sum_range 1 i (height_at f F) + a))
      (λ a _ _.
      ap (partitions_less (partitions a (η - suc i)) m) (ap (λ t. t + a) (dots-front i) ∙ add_assoc f (sum_range 1 i (height_at f F)) a)
      ∙ less-taken (partitions a (η - suc i)) m f (sum_range 1 i (height_at f F) + a) h))

  place-front : f ≤ m → diagram_place k (suc η) (f ∷ F) m ≡ first_term k η m f + diagram_place f η F (m - f)
  unfolding diagram_place
  place-front h =
      sum-front η (λ i. diagram_term k (suc η) (f ∷ F) m (suc i))
      ∙ ap₂ (λ a b. a + b) term-first
      (sum_same η (λ i. diagram_term k (suc η) (f ∷ F) m (suc (suc i))) (λ i. diagram_term f η F (m - f) (suc i)) (λ i _. term-next i h))

place_none : (k m : ℕ) (F : List ℕ) → diagram_place k 0 F m ≡ 0
unfolding diagram_place sum
place_none k m F = refl

-- a row more before a first column that it does not reach
place-longer : (k η m f : ℕ) (F : List ℕ) → f ≤ m → f ≤ k
    → diagram_place (suc k) (suc η) (f ∷ F) m ≡ partitions_less (partitions (suc k) η) m (suc k) + diagram_place k (suc η) (f ∷ F) m
place-longer k η m f F h l =
    place-front (suc k) η m f F h
    ∙ ap (λ a. a + diagram_place f η F (m - f)) (range_last (suc f) k (λ a. partitions_less (partitions a η) m a) (suc-le-suc l))
    ∙ shuffle (first_term k η m f) (partitions_less (partitions (suc k) η) m (suc k)) (diagram_place f η F (m - f))
    ∙ ap (λ a. partitions_less (partitions (suc k) η) m (suc k) + a) (sym (place-front k η m f F h))
  where
    shuffle : (a b c : ℕ) → a + b + c ≡ b + (a + c)
    shuffle a b c = omega arith

place-raised : (k η m f : ℕ) (F D : List ℕ) → D ≡ f ∷ F → total D ≡ m → f ≤ k
    → diagram_place (suc k) (suc η) D m ≡ partitions_less (partitions (suc k) η) m (suc k) + diagram_place k (suc η) D m
unfolding total
place-raised k η m f F D e t l =
    let h : f + total F ≡ m = sym (ap total e) ∙ t in
    rw e (place-longer k η m f F (omega arith) l)

place-pivot : {q k n : ℕ} {s : Shape} (η : ℕ) → n ≡ k + η → Valid q k n s
    → diagram_place k η (heights s k) (shape_size s k) ≡ shape_place s k n (shape_size s k)
    → diagram_place (suc k) η (heights s k) (shape_size s k) ≡ free_count n (suc k) (shape_size s k) + shape_place s k n (shape_size s k)
place-pivot {k} {n} {s} zero e v r =
    let m : ℕ = shape_size s k in
    place_none (suc k) m (heights s k)
    ∙ ap₂ (λ a b. a + b) (sym (less_zero (box_count n (suc k)) m (suc k) (λ i. box-beyond n (suc k) i (omega arith))))
    (sym (place_none k m (heights s k)) ∙ r)
place-pivot {k} {n} {s} (suc η) e v r =
    let (f, F, g, l) = heights-first v (omega arith) in
    let m : ℕ = shape_size s k in
    place-raised k η m f F (heights s k) g (heights-total s k) l
    ∙ ap₂ (λ a b. a + b)
    (less-same (partitions (suc k) η) (box_count n (suc k)) m (suc k) (λ i. sym (box-as-partitions n (suc k) η i (omega arith)))) r

pub place-of-shape : {q k n : ℕ} {s : Shape} (η : ℕ) → n ≡ k + η → Valid q k n s
    → diagram_place k η (heights s k) (shape_size s k) ≡ shape_place s k n (shape_size s k)
unfolding shape_size shape_place heights
place-of-shape η e valid-empty = let z : η ≡ 0 = omega arith in rw z (place_none 0 0 [])
place-of-shape zero e (valid-free b v) = absurd (omega (arith, valid-rows v))
place-of-shape (suc η) e (valid-free {k} {n} {x} {s} b v) =
    let m : ℕ = shape_size s k in
    place-front k η (k + m) k (heights s k) (le-add_right k m)
    ∙ ap₂ (λ a b. a + b) (range_none (suc k) k (λ a. partitions_less (partitions a η) (k + m) a) (le_refl (suc k)))
    (ap (diagram_place k η (heights s k)) (add-sub_cancel_left k m) ∙ place-of-shape η (omega arith) v)
    ∙ zero-add (shape_place s k n m)
    ∙ sym (place-free x k n m s)
place-of-shape η e (valid-pivot {k} {n} {s} v) = place-pivot η (omega arith) v (place-of-shape η (omega arith) v)
