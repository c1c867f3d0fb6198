-- The identifying vector of a peeled shape; no part of the meaning.
--   vector s             == the identifying vector of the shape s as a number
--   vector-below         == a vector of c columns is below 2^c
--   vector-rows          == it is the sum of the rows' pivots, each as a power of 2
--   identifying-vector   == a reduced matrix has the identifying vector of its shape
--   identifying-rows, identifying-below == so it is the sum of its rows' pivots, and below 2^n
-- Assumes nothing.
use Rattle.std.specs.Prelude.{◌≡◌, List}
use Rattle.std.proofs.Math.Path.{refl, ap}
use Rattle.std.proofs.Common.{ap₂, ◌∙◌, sym, mul_left_comm, zero-lt-suc, le_refl, le_of_lt, add_comm}
use Prim.Native.Nat.{ℕ, suc, ◌+◌, ◌*◌, ◌-◌, ◌^◌, ◌<◌, ◌≤◌}
use Rattle.std.proofs.Math.Nat.{zero-add, pow-zero, pow-succ'}
use native.Mathlib.Omega.{arith}
use Rattle.basics.specs.Sum.{sum, bit}
use Rattle.basics.specs.Laws.SumLaws.{sum_same, sum-front, sum-times}
use Rattle.matrix.specs.Matrix.{entry, lead, pivot as pivot_column, pivot_at, identifying, Reduced}
use Rattle.matrix.specs.Shape.{Shape, empty, free, pivot}
use Rattle.matrix.specs.Laws.Shape.{Peeled, peeled-empty, peeled-free, peeled-pivot}
use Rattle.matrix.specs.Laws.PeelPlace.{Located, peeled-left, located-start, located-free, located-pivot, free-no-pivot, pivot-here}
use Rattle.matrix.specs.Laws.Peel.{peeled-of, peeled-lead}

unfoldable pub vector : Shape → ℕ
vector empty = 0
vector (free x s) = 2 * vector s
vector (pivot s) = 1 + 2 * vector s

pub vector-below : {q : ℕ} {A : ℕ → ℕ → ℕ} {k c : ℕ} {s : Shape} → Peeled q A k c s → vector s < 2 ^ c
unfolding vector
vector-below peeled-empty = zero-lt-suc 0
vector-below (peeled-free {n} g p) = rw (pow-succ' 2 n) (omega (arith, vector-below p))
vector-below (peeled-pivot {n} o above left p) = rw (pow-succ' 2 n) (omega (arith, vector-below p))

-- the power of a pivot in column p, with c columns
power : (c p : ℕ) → p < c → 2 ^ (suc c - 1 - p) ≡ 2 * 2 ^ (c - 1 - p)
power c p h = let e : suc c - 1 - p ≡ suc (c - 1 - p) = omega arith in rw (e, pow-succ' 2 (c - 1 - p))

rows-doubled : {q k c : ℕ} {A : ℕ → ℕ → ℕ} {s : Shape} (N : ℕ) → c ≤ N → Peeled q A k c s
    → sum k (λ a. 2 ^ (suc c - 1 - lead (A a) N)) ≡ 2 * sum k (λ a. 2 ^ (c - 1 - lead (A a) N))
rows-doubled {k} {c} {A} N b p =
    sum_same k (λ a. 2 ^ (suc c - 1 - lead (A a) N)) (λ a. 2 * 2 ^ (c - 1 - lead (A a) N))
    (λ a h. power c (lead (A a) N) (peeled-left b p a h))
    ∙ sum-times k 2 (λ a. 2 ^ (c - 1 - lead (A a) N))

pub vector-rows : {q : ℕ} {A : ℕ → ℕ → ℕ} {k c : ℕ} {s : Shape} (N : ℕ) → c ≤ N → Peeled q A k c s
    → vector s ≡ sum k (λ a. 2 ^ (c - 1 - lead (A a) N))
unfolding vector sum
vector-rows N b peeled-empty = refl
vector-rows N b (peeled-free {n} g p) =
    ap (λ v. 2 * v) (vector-rows N (le_of_lt b) p) ∙ sym (rows-doubled N (le_of_lt b) p)
vector-rows {A} N b (peeled-pivot {k} {n} o above left p) =
    let none : suc n - 1 - lead (A k) N ≡ 0 = omega (arith, peeled-lead N k n A b o left) in
    let last : 2 ^ (suc n - 1 - lead (A k) N) ≡ 1 = rw (none, pow-zero) in
    let rest = sum k (λ a. 2 ^ (suc n - 1 - lead (A a) N)) in
    ap (λ v. 1 + 2 * v) (vector-rows N (le_of_lt b) p)
    ∙ ap (λ v. 1 + v) (sym (rows-doubled N (le_of_lt b) p))
    ∙ add_comm 1 rest
    ∙ ap (λ x. rest + x) (sym last)

module _ (N K : ℕ) (m : List ℕ) where
  -- what the columns left of c add, counted from the right
  columns : ℕ → ℕ → ℕ
  columns c i = bit (pivot_at N K m (N - c + suc i)) * 2 ^ i

  next-column : (c i : ℕ) → suc c ≤ N → columns (suc c) (suc i) ≡ 2 * columns c i
  unfolding columns
  next-column c i h =
      let e : N - suc c + suc (suc i) ≡ N - c + suc i = omega arith in
      ap (λ j. bit (pivot_at N K m j) * 2 ^ suc i) e ∙ rw (pow-succ' 2 i) (mul_left_comm (bit (pivot_at N K m (N - c + suc i))) 2 (2 ^ i))

  first-column : (c first : ℕ) → suc c ≤ N → bit (pivot_at N K m (N - c)) ≡ first → columns (suc c) 0 ≡ first
  unfolding columns
  first-column c first h e =
      let here : N - suc c + 1 ≡ N - c = omega arith in
      ap (λ j. bit (pivot_at N K m j) * 2 ^ 0) here ∙ ap (λ b. b * 2 ^ 0) e ∙ rw pow-zero (omega arith)

  columns-peeled : (c first : ℕ) → suc c ≤ N → bit (pivot_at N K m (N - c)) ≡ first
      → sum (suc c) (columns (suc c)) ≡ first + 2 * sum c (columns c)
  columns-peeled c first h e =
      sum-front c (columns (suc c))
      ∙ ap₂ (λ a b. a + b) (first-column c first h e)
      (sum_same c (λ i. columns (suc c) (suc i)) (λ i. 2 * columns c i) (λ i l. next-column c i h) ∙ sum-times c 2 (columns c))

  vector-columns : {q k c : ℕ} {s : Shape} → Peeled q (entry N m) k c s → Located q N K m k c s → sum c (columns c) ≡ vector s
  unfolding sum vector
  vector-columns peeled-empty l = refl
  vector-columns (peeled-free {n = c} g p) l =
      columns-peeled c 0 l.columns (ap bit (free-no-pivot l))
      ∙ zero-add (2 * sum c (columns c))
      ∙ ap (λ x. 2 * x) (vector-columns p (located-free l))
  vector-columns (peeled-pivot {n = c} o above left p) l =
      columns-peeled c 1 l.columns (ap bit (pivot-here l)) ∙ ap (λ x. 1 + 2 * x) (vector-columns p (located-pivot l))

  whole-columns : identifying N K m ≡ sum N (columns N)
  unfolding identifying columns
  whole-columns =
      sum_same N (λ i. bit (pivot_at N K m (suc i)) * 2 ^ i) (columns N)
      (λ i l. let e : suc i ≡ N - N + suc i = omega arith in ap (λ j. bit (pivot_at N K m j) * 2 ^ i) e)

pub identifying-vector : {q n k : ℕ} {m : List ℕ} {s : Shape} → Reduced q n k m → Peeled q (entry n m) k n s → identifying n k m ≡ vector s
identifying-vector {n} {k} {m} r p = whole-columns n k m ∙ vector-columns n k m p (located-start r p)

pub identifying-rows : {q n k : ℕ} {m : List ℕ} → Reduced q n k m → identifying n k m ≡ sum k (λ a. 2 ^ (n - 1 - pivot_column n m a))
identifying-rows {n} r = let (s, p) = peeled-of r in identifying-vector r p ∙ vector-rows n (le_refl n) p

pub identifying-below : {q n k : ℕ} {m : List ℕ} → Reduced q n k m → identifying n k m < 2 ^ n
identifying-below r = let (s, p) = peeled-of r in rw (identifying-vector r p) (vector-below p)
