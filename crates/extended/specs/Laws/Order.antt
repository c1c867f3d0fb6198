-- The extended order is the order of the extended indexes; no part of the meaning. At the rightmost column where two matrices differ the
-- smaller one has the smaller leading digit; up to there their shapes are the same.
--   column_code q k s  == a shape's rightmost column as a number that rises with the order: a pivot's is above every free one
--   column-located    == the column with v_j above it is that number, times a power of q
--   head-less         == a smaller rightmost column has a smaller index, whatever follows
--   before-rank       == what comes before has a smaller index
-- Assumes nothing.
use Rattle.std.specs.Prelude.{◌≡◌, List, ◌⊎◌, ℕ, suc, ◌+◌, ◌*◌, ◌-◌, ◌^◌, ◌<◌, ◌≤◌}
use Rattle.std.proofs.Math.Path.{ap}
use Rattle.std.proofs.Common.{◌∙◌, sym, subst₂, inl, inr, zero-mul, one-mul, zero-add, suc-mul, lt_of_lt_of_le, le-add_right, lt_of_mul-lt-mul_right, eq-or-lt_of_le, add-sub_of_le, arith, pow-add}
use Rattle.std.proofs.Math.Nat.{one-le-pow, eq_of_mul-eq-mul_right}
use Rattle.std.proofs.Math.Arith.{digits_lt}
use Rattle.basics.specs.Sum.{Lex}
use Rattle.matrix.specs.Matrix.{entry}
use Rattle.matrix.specs.Shape.{Shape, empty, free, pivot}
use Rattle.matrix.specs.Laws.Shape.{Peeled, peeled-empty, peeled-free, peeled-pivot, Valid, valid-free, valid-pivot}
use Rattle.matrix.specs.Laws.ShapeLaws.{peeled-valid, top_value-below}
use Rattle.matrix.specs.Laws.PeelPlace.{Located, located-free, located-pivot, free-no-pivot, pivot-here}
use Rattle.matrix.specs.Laws.Column.{free-column, pivot-column}
use Rattle.counts.specs.Gaussian.{gaussian}
use Rattle.extended.specs.Extended.{extended_column}
use Rattle.extended.specs.Laws.ShapeRank.{extended_rank}
use Rattle.extended.specs.Laws.ShapeCount.{rank_below}

abbrev pub column_code : ℕ → ℕ → Shape → ℕ
column_code q k empty = 0
column_code q k (free x s) = x
column_code q k (pivot s) = suc (q ^ k)

pub column-located : {q N K k c : ℕ} {m : List ℕ} {s : Shape} → Peeled q (entry N m) k (suc c) s → Located q N K m k (suc c) s
    → extended_column q N K m (N - c) ≡ column_code q k s * q ^ (K - k)
unfolding extended_column
column-located {q} {N} {K} {m} (peeled-free g p) l = rw (free-no-pivot l, free-column l, zero-mul, zero-add)
column-located {q} {N} {K} {m} (peeled-pivot {k} {n} o above left p) l =
    rw (pivot-here l, pivot-column l, one-mul, suc-mul)
    (ap (λ x. x + q ^ (K - suc k)) (ap (λ x. q ^ x) (sym (add-sub_of_le l.rows)) ∙ pow-add q (suc k) (K - suc k)))

pub head-less : {q k n : ℕ} {s t : Shape} → Valid q k (suc n) s → Valid q k (suc n) t → column_code q k s < column_code q k t
    → extended_rank q s k (suc n) < extended_rank q t k (suc n)
unfolding extended_rank
head-less {q} {k} {n} (valid-free {x} b v) (valid-free {x = y} {s = t} c w) h =
    lt_of_lt_of_le (digits_lt h (rank_below v)) (le-add_right (y * gaussian q n k) (extended_rank q t k n))
head-less {q} {n} (valid-free {x} b v) (valid-pivot {k} {s = t} w) h =
    lt_of_lt_of_le (digits_lt b (rank_below v)) (le-add_right (q ^ suc k * gaussian q n (suc k)) (extended_rank q t k n))
head-less (valid-pivot v) (valid-free c w) h = absurd (omega arith)
head-less (valid-pivot v) (valid-pivot w) h = absurd (omega arith)

module _ {q N K : ℕ} {a b : List ℕ} (h : 0 < q) (w : Lex N (λ i. extended_column q N K a (suc i)) (λ i. extended_column q N K b (suc i)))
  where
    -- the columns before the place of the order have been taken off: here it is, or the rightmost columns are the same
    before-step : {k c : ℕ} {s t : Shape} → Located q N K a k (suc c) s → Located q N K b k (suc c) t → N - suc c ≤ w.at
        → (column_code q k s ≡ column_code q k t → N - c ≤ w.at → extended_rank q s k (suc c) < extended_rank q t k (suc c))
        → extended_rank q s k (suc c) < extended_rank q t k (suc c)
    before-step {k} {c} {s} {t} l r g next = cases (eq-or-lt_of_le g)
      where
        here : N - c ≡ suc (N - suc c)
        here = omega (arith, l.columns)

        left : extended_column q N K a (suc (N - suc c)) ≡ column_code q k s * q ^ (K - k)
        left = rw (← here) (column-located l.part l)

        right : extended_column q N K b (suc (N - suc c)) ≡ column_code q k t * q ^ (K - k)
        right = rw (← here) (column-located r.part r)

        cases : (N - suc c ≡ w.at) ⊎ (N - suc c < w.at) → extended_rank q s k (suc c) < extended_rank q t k (suc c)
        cases (inl e) =
            head-less (peeled-valid l.part) (peeled-valid r.part)
            (lt_of_mul-lt-mul_right (q ^ (K - k))
            (subst₂ (λ x y. x < y) left right (rw (← e) at w.less)))
        cases (inr d) =
            next
            (eq_of_mul-eq-mul_right (q ^ (K - k)) (one-le-pow (K - k) q h) (column_code q k s) (column_code q k t)
            (sym left ∙ w.same (N - suc c) d ∙ right))
            (omega (arith, here))

    pub before-rank : {k c : ℕ} {s t : Shape} → Peeled q (entry N a) k c s → Peeled q (entry N b) k c t → Located q N K a k c s
        → Located q N K b k c t → N - c ≤ w.at → extended_rank q s k c < extended_rank q t k c
    unfolding extended_rank
    before-rank peeled-empty peeled-empty l r g = absurd (omega (arith, w.within))
    before-rank (peeled-free {k} {n} i p) (peeled-free j o) l r g =
        before-step l r g
        (λ e d. omega (arith, ap (λ x. x * gaussian q n k) e, before-rank p o (located-free l) (located-free r) d))
    before-rank (peeled-free {k} {n} i p) (peeled-pivot _ _ _ o) l r g =
        before-step l r g (λ e d. absurd (omega (arith, top_value-below q (entry N a) k n i)))
    before-rank (peeled-pivot _ _ _ p) (peeled-free {k} {n} j o) l r g =
        before-step l r g (λ e d. absurd (omega (arith, top_value-below q (entry N b) k n j)))
    before-rank (peeled-pivot _ _ _ p) (peeled-pivot _ _ _ o) l r g =
        before-step l r g (λ e d. omega (arith, before-rank p o (located-pivot l) (located-pivot r) d))
