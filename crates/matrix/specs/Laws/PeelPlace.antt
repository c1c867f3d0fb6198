-- A reduced matrix while it is being peeled; no part of the meaning. Its first k rows and c columns are still there, with the shape s; the
-- rows below have their pivots in the columns that were taken off.
--   Located q N K m k c s  == m, reduced, of K rows and N columns, has been peeled down to k rows and c columns
--   located-start          == at the start nothing has been taken off
--   located-free, -pivot   == peeling a free column, or a pivot's
--   located-left           == the first k rows have their pivots among the c columns; the others do not, by the field `right`
--   located-zero           == below the first k rows the c columns are zero
--   located-dots           == the rows whose pivot is left of the column c are k
--   free-no-pivot          == a column that is peeled as free has no pivot
--   pivot-row, pivot-here  == a column that is peeled as a pivot's has the last row's
-- The field `counted` says that the columns taken off have K - k pivots.
-- Assumes nothing.
use Rattle.std.specs.Prelude.{◌≡◌, true, false, List, ◌⊎◌, ltb}
use Rattle.std.proofs.Math.Path.{ap}
use Rattle.std.proofs.Common.{ap₂, ◌∙◌, sym, inl, inr, not-suc-le-zero, eq-or-lt_of_le, le_of_suc-le-suc, add-sub_of_le, le-add_right, le_of_eq, arith, lt-ltb, le-ltb}
use Prim.Native.Nat.{ℕ, suc, ◌+◌, ◌-◌, ◌<◌, ◌≤◌, zero-le}
use Rattle.std.proofs.Math.Nat.{le_refl, le_of_lt, sub_self, add-zero}
use Rattle.std.proofs.Math.Arith.{sub-sub_self}
use Rattle.basics.specs.Laws.MemberTable.{member-of-table, member-none-table}
use Rattle.basics.specs.Laws.Order.{le-or-lt}
use Rattle.basics.specs.Sum.{sum, bit}
use Rattle.basics.specs.Laws.SumLaws.{sum_zeros, sum-units, sum-split}
use Rattle.matrix.specs.Matrix.{entry, lead, pivot as pivot_column, pivot_at, Reduced}
use Rattle.matrix.specs.Shape.{Shape, free, pivot}
use Rattle.matrix.specs.Laws.Shape.{Peeled, peeled-empty, peeled-free, peeled-pivot}
use Rattle.matrix.specs.Laws.Lead.{lead-before}
use Rattle.matrix.specs.Laws.Peel.{peeled-lead}
use Rattle.matrix.specs.Laws.ShapeLaws.{free-rest, pivot-rest, pivot-one, pivot-before}

pub record Located (q N K : ℕ) (m : List ℕ) (k c : ℕ) (s : Shape) : Type 0 where
  pub whole : Reduced q N K m
  pub rows : k ≤ K
  pub columns : c ≤ N
  pub part : Peeled q (entry N m) k c s
  pub right : (i : ℕ) → k ≤ i → i < K → c ≤ pivot_column N m i
  pub counted : sum (N - c) (λ i. bit (pivot_at N K m (suc i))) ≡ K - k

pub peeled-left : {q N : ℕ} {A : ℕ → ℕ → ℕ} {k c : ℕ} {s : Shape} → c ≤ N → Peeled q A k c s → (i : ℕ) → i < k → lead (A i) N < c
peeled-left b peeled-empty i h = absurd (not-suc-le-zero h)
peeled-left {N} {A} b (peeled-free {n} g p) i h = omega (arith, peeled-left {N = N} (omega arith) p i h)
peeled-left {N} {A} b (peeled-pivot {k} {n} o above left p) i h =
    cases (eq-or-lt_of_le (le_of_suc-le-suc h)) (λ l. peeled-left {N = N} (omega arith) p i l)
  where
    cases : (i ≡ k) ⊎ (i < k) → (i < k → lead (A i) N < n) → lead (A i) N < suc n
    cases (inl e) r = rw (e, peeled-lead N k n A b o left) (le_refl (suc n))
    cases (inr l) r = omega (arith, r l)

-- whether a column, c from the left, has a pivot
pivot-at : (N K : ℕ) (m : List ℕ) (c i : ℕ) → c ≤ N → i < K → c ≡ pivot_column N m i → pivot_at N K m (N - c) ≡ true
unfolding pivot_at
pivot-at N K m c i b h e = rw (sub-sub_self b) (member-of-table c (pivot_column N m) 0 K i zero-le (omega arith) e)

no-pivot-at : (N K : ℕ) (m : List ℕ) (c : ℕ) → c ≤ N → ((i : ℕ) → i < K → c ≡ pivot_column N m i → ⊥) → pivot_at N K m (N - c) ≡ false
unfolding pivot_at
no-pivot-at N K m c b h = rw (sub-sub_self b) (member-none-table c (pivot_column N m) 0 K (λ i _ g e. h i (omega arith) e))

module _ {q N K : ℕ} {m : List ℕ} where
  pub located-start : {s : Shape} → Reduced q N K m → Peeled q (entry N m) K N s → Located q N K m K N s
  unfolding sum
  located-start r p =
      record {
        whole = r;
        rows = le_refl K;
        columns = le_refl N;
        part = p;
        right = λ i h b. absurd (omega arith);
        counted = rw (sub_self N, sub_self K);
      }

  module _ {k c : ℕ} {s : Shape} (l : Located q N K m k c s) where
    pub located-left : (i : ℕ) → i < k → pivot_column N m i < c
    located-left i h = peeled-left l.columns l.part i h

    pub located-zero : (i j : ℕ) → k ≤ i → i < K → j < c → entry N m i j ≡ 0
    located-zero i j h g b = lead-before (entry N m i) N j (omega (arith, l.right i h g))

    pub located-dots : sum K (λ i. bit (ltb (pivot_column N m i) c)) ≡ k
    located-dots =
        let f : ℕ → ℕ = λ i. bit (ltb (pivot_column N m i) c) in
        ap (λ x. sum x f) (sym (add-sub_of_le l.rows))
        ∙ sum-split k (K - k) f
        ∙ ap₂ (λ a b. a + b) (sum-units k f (λ i h. ap bit (lt-ltb (pivot_column N m i) c (located-left i h))))
        (sum_zeros (K - k) (λ i. f (k + i))
        (λ i h. ap bit (le-ltb (pivot_column N m (k + i)) c (l.right (k + i) (le-add_right k i) (omega arith)))))
        ∙ add-zero k

  module _ {k c x : ℕ} {s : Shape} (l : Located q N K m k (suc c) (free x s)) where
    pub free-no-pivot : pivot_at N K m (N - c) ≡ false
    free-no-pivot = no-pivot-at N K m c (le_of_lt l.columns) (λ i h e. cases i h e (le-or-lt k i))
      where
        cases : (i : ℕ) → i < K → c ≡ pivot_column N m i → (k ≤ i) ⊎ (i < k) → ⊥
        cases i h e (inl g) = omega (arith, l.right i g h)
        cases i h e (inr g) = omega (arith, peeled-left (le_of_lt l.columns) (free-rest l.part) i g)

    pub located-free : Located q N K m k c s
    unfolding sum
    located-free =
        let e : N - c ≡ suc (N - suc c) = omega (arith, l.columns) in
        let b : bit (pivot_at N K m (suc (N - suc c))) ≡ 0 = ap (λ j. bit (pivot_at N K m j)) (sym e) ∙ ap bit free-no-pivot in
        record {
          whole = l.whole;
          rows = l.rows;
          columns = le_of_lt l.columns;
          part = free-rest l.part;
          right = λ i h g. omega (arith, l.right i h g);
          counted = rw e (ap₂ (λ x y. x + y) l.counted b ∙ add-zero (K - k));
        }

  module _ {k c : ℕ} {s : Shape} (l : Located q N K m (suc k) (suc c) (pivot s)) where
    pub pivot-row : pivot_column N m k ≡ c
    pivot-row = peeled-lead N k c (entry N m) l.columns (pivot-one l.part) (pivot-before l.part)

    pub pivot-here : pivot_at N K m (N - c) ≡ true
    pivot-here = pivot-at N K m c k (le_of_lt l.columns) l.rows (sym pivot-row)

    pub located-pivot : Located q N K m k c s
    unfolding sum
    located-pivot =
        let e : N - c ≡ suc (N - suc c) = omega (arith, l.columns) in
        let b : bit (pivot_at N K m (suc (N - suc c))) ≡ 1 = ap (λ j. bit (pivot_at N K m j)) (sym e) ∙ ap bit pivot-here in
        record {
          whole = l.whole;
          rows = le_of_lt l.rows;
          columns = le_of_lt l.columns;
          part = pivot-rest l.part;
          right = λ i h g. below i h g (eq-or-lt_of_le h);
          counted = rw e (ap₂ (λ x y. x + y) l.counted b ∙ omega (arith, l.rows));
        }
      where
        below : (i : ℕ) → k ≤ i → i < K → (k ≡ i) ⊎ (k < i) → c ≤ pivot_column N m i
        below i h g (inl e) = rw (← e) (le_of_eq (sym pivot-row))
        below i h g (inr b) = le_of_lt (l.right i b g)
