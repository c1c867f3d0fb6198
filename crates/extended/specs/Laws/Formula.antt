-- Formula (5) is the recursion on the peeled shape; no part of the meaning. Both add up the columns from the right.
--   ones-located      == the columns taken off so far have K - k ones
--   term-free, -pivot == what a column adds in formula (5), as peeling finds it
--   extended-formula  == the extended index of a reduced matrix is the index of its shape
--   division-exact    == "The division is exact": q^w divides the value of a column without a pivot
-- Assumes nothing.
use Rattle.std.specs.Prelude.{◌≡◌, false, List, ℕ, suc, ◌+◌, ◌*◌, ◌-◌, ◌^◌, ◌/◌, ◌<◌, ◌≤◌}
use Rattle.std.proofs.Common.{ap, ◌∙◌, sym, le_of_lt, add-zero, zero-add, add_assoc, arith}
use Rattle.std.proofs.Math.Nat.{one-le-pow, mul-div_cancel, sub-zero, sub_self}
use Rattle.std.proofs.Math.Arith.{sub-sub_self}
use Rattle.basics.specs.Sum.{sum}
use Rattle.matrix.specs.Matrix.{entry, pivot_at, column_value, Reduced}
use Rattle.matrix.specs.Shape.{Shape, free, pivot}
use Rattle.matrix.specs.Laws.Shape.{top_value, Peeled, peeled-empty, peeled-free, peeled-pivot}
use Rattle.matrix.specs.Laws.PeelPlace.{Located, located-start, located-free, located-pivot, free-no-pivot, pivot-here}
use Rattle.matrix.specs.Laws.Column.{free-column, LocatedColumn, at-free, at-pivot, located-column}
use Rattle.counts.specs.Gaussian.{gaussian}
use Rattle.extended.specs.Extended.{ones_among, extended_term_at, extended_term, extended_index}
use Rattle.extended.specs.Laws.ShapeRank.{extended_rank}

module _ {q N K : ℕ} {m : List ℕ} where
  pub ones-located : {k c : ℕ} {s : Shape} → Located q N K m k c s → ones_among N K m (N - c) ≡ K - k
  unfolding ones_among
  ones-located l = l.counted

  -- the ones among the columns to the right of column N - c
  pub ones-before : {k c : ℕ} {s : Shape} → Located q N K m k (suc c) s → ones_among N K m (N - c - 1) ≡ K - k
  ones-before {c} l =
      let e : N - c - 1 ≡ N - suc c = omega (arith, l.columns) in
      rw e (ones-located l)

  pub term-free : {k c x : ℕ} {s : Shape} → 0 < q → Located q N K m k (suc c) (free x s)
      → extended_term q N K m (N - c) ≡ x * gaussian q c k
  unfolding extended_term extended_term_at
  term-free {k} {c} {x} h l =
      rw (ones-before l, free-no-pivot l, free-column l, mul-div_cancel x (one-le-pow (K - k) q h))
      (rw (sub-sub_self (le_of_lt l.columns), sub-sub_self l.rows))

  pub term-pivot : {k c : ℕ} {s : Shape} → Located q N K m (suc k) (suc c) (pivot s)
      → extended_term q N K m (N - c) ≡ q ^ suc k * gaussian q c (suc k)
  unfolding extended_term extended_term_at
  term-pivot l = rw (ones-before l, pivot-here l, sub-sub_self (le_of_lt l.columns), sub-sub_self l.rows)

-- one more column from the right
sum_step : (f : ℕ → ℕ) (N c t e : ℕ) → c < N → f (N - c) ≡ t → sum N (λ i. f (suc i)) ≡ sum (N - c) (λ i. f (suc i)) + e
    → sum N (λ i. f (suc i)) ≡ sum (N - suc c) (λ i. f (suc i)) + (t + e)
unfolding sum
sum_step f N c t e h a s =
    let d : N - c ≡ suc (N - suc c) = omega arith in
    s
    ∙ ap (λ x. sum x (λ i. f (suc i)) + e) d
    ∙ ap (λ x. sum (N - suc c) (λ i. f (suc i)) + x + e) (sym (ap f d) ∙ a)
    ∙ add_assoc (sum (N - suc c) (λ i. f (suc i))) t e

pub formula-from : {q N K : ℕ} {m : List ℕ} {k c : ℕ} {s : Shape} → 0 < q → Peeled q (entry N m) k c s → Located q N K m k c s
    → sum N (λ i. extended_term q N K m (suc i)) ≡ sum (N - c) (λ i. extended_term q N K m (suc i)) + extended_rank q s k c
unfolding extended_rank
formula-from {q} {N} {K} {m} h peeled-empty l = rw (sub-zero N) (sym (add-zero (sum N (λ i. extended_term q N K m (suc i)))))
formula-from {q} {N} {K} {m} h (peeled-free {k} {n} {s} g p) l =
    sum_step (extended_term q N K m) N n (top_value q (entry N m) k n * gaussian q n k) (extended_rank q s k n) l.columns (term-free h l)
    (formula-from h p (located-free l))
formula-from {q} {N} {K} {m} h (peeled-pivot {k} {n} {s} o above left p) l =
    sum_step (extended_term q N K m) N n (q ^ suc k * gaussian q n (suc k)) (extended_rank q s k n) l.columns (term-pivot l)
    (formula-from h p (located-pivot l))

pub extended-formula : {q n k : ℕ} {m : List ℕ} {s : Shape} → 1 < q → Reduced q n k m → Peeled q (entry n m) k n s
    → extended_index q n k m ≡ extended_rank q s k n
unfolding extended_index sum
extended-formula {q} {n} {k} {m} {s} h r p =
    formula-from (omega arith) p (located-start r p)
    ∙ ap (λ x. sum x (λ i. extended_term q n k m (suc i)) + extended_rank q s k n) (sub_self n)
    ∙ zero-add (extended_rank q s k n)

exact-column : {q N K c : ℕ} {m : List ℕ} → 0 < q → LocatedColumn q N K m c → pivot_at N K m (N - c) ≡ false
    → column_value q N K m (N - c) ≡ column_value q N K m (N - c) / q ^ ones_among N K m (N - c - 1) * q ^ ones_among N K m (N - c - 1)
exact-column {q} {N} {K} h (at-free {k} {x} l) e =
    rw (ones-before l, free-column l, mul-div_cancel x (one-le-pow (K - k) q h))
exact-column h (at-pivot l) e = let z : ◌≡◌ {A = ℕ} 0 1 = cc (pivot-here l) in absurd (omega arith)

pub division-exact : {q n k : ℕ} {m : List ℕ} → 1 < q → Reduced q n k m → (j : ℕ) → 1 ≤ j → j ≤ n → pivot_at n k m j ≡ false
    → column_value q n k m j ≡ column_value q n k m j / q ^ ones_among n k m (j - 1) * q ^ ones_among n k m (j - 1)
division-exact {q} {n} {k} {m} h r j a b e =
    let s : n - (n - j) ≡ j = sub-sub_self b in
    rw s at (exact-column (omega arith) (located-column r (n - j) (omega arith)) (rw s e))
