-- A shape from its diagram's place and its tableau, and back; no part of the meaning. By columns from the right: the places below the count
-- of diagrams that begin with a free column belong to those.
--   Diagrammed q n k m d x s == s is the shape of a reduced matrix whose diagram, of size m, has the place d, and whose tableau is x
--   free-fits                == a diagram that begins with a free column has that column's dots
--   diagram-valid            == for d and x in their bounds diagram_shape gives such a shape
--   diagram-of-shape         == diagram_shape gives a shape back from its size, place and tableau
-- Assumes nothing.
use Rattle.std.specs.Prelude.{◌≡◌, refl, ◌⊎◌, ℕ, zero, suc, ◌+◌, ◌*◌, ◌-◌, ◌^◌, ◌/◌, ◌%◌, ◌<◌, ◌≤◌}
use Rattle.std.proofs.Common.{ap, ap₂, ◌∙◌, sym, subst, inl, inr, div-lt_iff_lt-mul, div-add-mod', mod-lt, le-add_right, add-sub_of_le, suc-ne-zero, arith, lt-ltb, le-ltb, ne_eqb, pow-add}
use Rattle.std.proofs.Math.Nat.{pow-zero, one-le-pow, add-sub_cancel_left}
use Rattle.std.proofs.Math.Arith.{digits_div, digits_mod}
use Rattle.basics.specs.Laws.Order.{le-or-lt}
use Rattle.basics.specs.Sum.{bit}
use Rattle.matrix.specs.Shape.{Shape, free, pivot}
use Rattle.matrix.specs.Laws.Shape.{Valid, valid-empty, valid-free, valid-pivot}
use Rattle.partitions.specs.Laws.Box.{box-no-row, box-next, box-beyond, free_all}
use Rattle.partitions.specs.Laws.Less.{less-at, less-add, less_none}
use Rattle.partitions.specs.Partitions.{box_count, free_count}
use Rattle.ferrers.specs.Drawn.{diagram_shape}
use Rattle.ferrers.specs.Laws.ShapeRank.{shape_size, shape_place, shape_tableau}
use Rattle.ferrers.specs.Laws.ShapeBounds.{place-below, tableau-below, place-free}

pub record Diagrammed (q n k m d x : ℕ) (s : Shape) : Type 0 where
  pub valid : Valid q k n s
  pub size : shape_size s k ≡ m
  pub place : shape_place s k n m ≡ d
  pub tableau : shape_tableau q s k ≡ x

-- a free column in front
diagrammed-free : {q n k m d x : ℕ} {s : Shape} → 0 < q → k ≤ m → x < q ^ m → Diagrammed q n k (m - k) d (x % q ^ (m - k)) s
    → Diagrammed q (suc n) k m d x (free (x / q ^ (m - k)) s)
unfolding shape_size shape_place shape_tableau
diagrammed-free {q} {n} {k} {m} {d} {x} {s} h l b r =
    let e : m ≡ k + (m - k) = omega arith in
    let wide : x < q ^ k * q ^ (m - k) = subst (λ p. x < p) (ap (λ i. q ^ i) e ∙ pow-add q k (m - k)) b in
    record {
      valid = valid-free ((div-lt_iff_lt-mul (one-le-pow (m - k) q h)).1 wide) r.valid;
      size = ap (λ i. k + i) r.size ∙ sym e;
      place = r.place;
      tableau = ap₂ (λ i t. x / q ^ (m - k) * q ^ i + t) r.size r.tableau ∙ div-add-mod' x (q ^ (m - k));
    }

-- a pivot's column in front
diagrammed-pivot : {q n k m d x : ℕ} {s : Shape} → free_count n (suc k) m ≤ d → Diagrammed q n k m (d - free_count n (suc k) m) x s
    → Diagrammed q (suc n) (suc k) m d x (pivot s)
unfolding shape_size shape_place shape_tableau
diagrammed-pivot {n} {k} {m} {d} l r =
    record {
      valid = valid-pivot r.valid;
      size = r.size;
      place = ap (λ p. free_count n (suc k) m + p) r.place ∙ add-sub_of_le l;
      tableau = r.tableau;
    }

-- a diagram that begins with a free column has that column's dots
pub free-fits : (n k m d : ℕ) → d < free_count n k m → k ≤ m
free-fits n k m d h = cases (le-or-lt k m)
  where
    cases : (k ≤ m) ⊎ (m < k) → k ≤ m
    cases (inl l) = l
    cases (inr l) = absurd (omega (arith, less_none (box_count n k) m k l))

Tried : ℕ → ℕ → Type 0
Tried q n = (k m d x : ℕ) → d < box_count n k m → x < q ^ m → Diagrammed q n k m d x (diagram_shape q n k m d x)

diagram-step : (q n k m d x : ℕ) → 0 < q → d < box_count (suc n) k m → x < q ^ m → (free_count n k m ≤ d) ⊎ (d < free_count n k m)
    → Tried q n → Diagrammed q (suc n) k m d x (diagram_shape q (suc n) k m d x)
unfolding diagram_shape Tried
diagram-step q n k m d x h b t (inr l) r =
    let fits : k ≤ m = free-fits n k m d l in
    rw (lt-ltb d (free_count n k m) l)
    (diagrammed-free h fits t (r k (m - k) d (x % q ^ (m - k)) (rw (less-at (box_count n k) m k fits) at l)
    (mod-lt x (one-le-pow (m - k) q h))))
diagram-step q n zero m d x h b t (inl l) r = absurd (omega (arith, free_all n m))
diagram-step q n (suc k) m d x h b t (inl l) r =
    rw (le-ltb d (free_count n (suc k) m) l)
    (diagrammed-pivot l (r k m (d - free_count n (suc k) m) x (omega (arith, box-next n k m)) t))

-- of no columns there is the empty diagram alone
diagram-start : (q k m d x : ℕ) → d < box_count 0 k m → x < q ^ m → Diagrammed q 0 k m d x (diagram_shape q 0 k m d x)
unfolding diagram_shape shape_size shape_place shape_tableau
diagram-start q (suc k) m d x b t = absurd (omega (arith, box-beyond 0 (suc k) m (omega arith)))
diagram-start q zero (suc m) d x b t = absurd (omega (arith, box-no-row 0 (suc m) ∙ ap bit (ne_eqb (suc m) 0 (suc-ne-zero m))))
diagram-start q zero zero d x b t =
    record {
      valid = valid-empty;
      size = refl;
      place = omega (arith, box-no-row 0 0);
      tableau = omega (arith, pow-zero q);
    }

pub diagram-valid : (q n k m d x : ℕ) → 0 < q → d < box_count n k m → x < q ^ m → Diagrammed q n k m d x (diagram_shape q n k m d x)
unfolding Tried
diagram-valid q zero k m d x h b t = diagram-start q k m d x b t
diagram-valid q (suc n) k m d x h b t =
    diagram-step q n k m d x h b t (le-or-lt (free_count n k m) d) (λ k m d x. diagram-valid q n k m d x h)

shape_free : (q n k m d x t : ℕ) (s : Shape) → d < box_count n k m → t < q ^ m → diagram_shape q n k m d t ≡ s
    → diagram_shape q (suc n) k (k + m) d (x * q ^ m + t) ≡ free x s
unfolding diagram_shape
shape_free q n k m d x t s b l r =
    rw (lt-ltb d (free_count n k (k + m)) (rw (less-add (box_count n k) m k) b), add-sub_cancel_left k m, digits_div x l, digits_mod x l)
    (ap (free x) r)

shape-pivot : (q n k m d x : ℕ) (s : Shape) → diagram_shape q n k m d x ≡ s
    → diagram_shape q (suc n) (suc k) m (free_count n (suc k) m + d) x ≡ pivot s
unfolding diagram_shape
shape-pivot q n k m d x s r =
    rw (
      le-ltb (free_count n (suc k) m + d) (free_count n (suc k) m) (le-add_right (free_count n (suc k) m) d),
      add-sub_cancel_left (free_count n (suc k) m) d,
    )
    (ap pivot r)

pub diagram-of-shape : {q k n : ℕ} {s : Shape} → Valid q k n s
    → diagram_shape q n k (shape_size s k) (shape_place s k n (shape_size s k)) (shape_tableau q s k) ≡ s
unfolding diagram_shape shape_size shape_place shape_tableau
diagram-of-shape valid-empty = refl
diagram-of-shape {q} (valid-free {k} {n} {x} {s} b v) =
    let m : ℕ = shape_size s k in
    ap (λ d. diagram_shape q (suc n) k (k + m) d (x * q ^ m + shape_tableau q s k)) (place-free x k n m s)
    ∙ shape_free q n k m (shape_place s k n m) x (shape_tableau q s k) s (place-below v) (tableau-below v) (diagram-of-shape v)
diagram-of-shape {q} (valid-pivot {k} {n} {s} v) =
    let m : ℕ = shape_size s k in
    shape-pivot q n k m (shape_place s k n m) (shape_tableau q s k) s (diagram-of-shape v)
