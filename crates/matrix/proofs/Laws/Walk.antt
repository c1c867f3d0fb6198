-- The columns of a reduced matrix walked from the right by its identifying vector; no part of the meaning.
--   vector-pivot      == the identifying vector's bits tell the columns with a pivot
--   PivotColumn, FreeColumn == the column left of c has a pivot, or is free, and what is then left of the matrix's shape s
--   walk-pivot, walk-free   == the vector's bit tells which
--   walk_end          == no columns, no shape
-- Assumes nothing.
use Rattle.std.specs.Prelude.{◌≡◌, refl, Bool, true, false, List, ℕ, suc, ◌-◌, ◌^◌, ◌/◌, ◌%◌, ◌<◌, ◌≤◌, eqb}
use Rattle.std.proofs.Common.{ap, ◌∙◌, sym, arith}
use Rattle.basics.specs.Sum.{bit}
use Rattle.matrix.specs.Laws.BitSum.{bits_at}
use Rattle.matrix.specs.Laws.PeelPlace.{Located, located-free, located-pivot, free-no-pivot, pivot-here}
use Rattle.matrix.specs.Matrix.{entry, pivot_at, identifying}
use Rattle.matrix.specs.Shape.{Shape, empty, free, pivot}
use Rattle.matrix.specs.Laws.Shape.{top_value, Peeled, peeled-empty, peeled-free, peeled-pivot}

pub vector-pivot : (n k : ℕ) (m : List ℕ) (v i : ℕ) → v ≡ identifying n k m → i < n → eqb (v / 2 ^ i % 2) 1 ≡ pivot_at n k m (suc i)
unfolding identifying
vector-pivot n k m v i e h =
    rw e (ap (λ x. eqb x 1) (bits_at n i (λ j. pivot_at n k m (suc j)) h) ∙ same (pivot_at n k m (suc i)))
  where
    same : (t : Bool) → eqb (bit t) 1 ≡ t
    same true = refl
    same false = refl

pub record PivotColumn (q N K : ℕ) (m : List ℕ) (rows c : ℕ) (s : Shape) : Type 0 where
  pub some : 1 ≤ rows
  pub rest : Shape
  pub split : s ≡ pivot rest
  pub next : Located q N K m (rows - 1) (c - 1) rest

pub record FreeColumn (q N K : ℕ) (m : List ℕ) (rows c : ℕ) (s : Shape) : Type 0 where
  pub rest : Shape
  pub split : s ≡ free (top_value q (entry N m) rows (c - 1)) rest
  pub next : Located q N K m rows (c - 1) rest

module _ {q N K : ℕ} {m : List ℕ} (v : ℕ) (e : v ≡ identifying N K m) where
  bit_at : {k c : ℕ} {s : Shape} (b : Bool) → Located q N K m k (suc c) s → eqb (v / 2 ^ (N - suc c) % 2) 1 ≡ b → pivot_at N K m (N - c) ≡ b
  bit_at {c} b l t =
      let i : N - c ≡ suc (N - suc c) = omega (arith, l.columns) in
      ap (pivot_at N K m) i ∙ sym (vector-pivot N K m v (N - suc c) e (omega (arith, l.columns))) ∙ t

  found-pivot : {rows c : ℕ} {s : Shape} → Peeled q (entry N m) rows c s → Located q N K m rows c s → 0 < c
      → eqb (v / 2 ^ (N - c) % 2) 1 ≡ true → PivotColumn q N K m rows c s
  found-pivot peeled-empty l h t = absurd (omega arith)
  found-pivot (peeled-free g p) l h t = let z : ◌≡◌ {A = ℕ} 0 1 = cc (free-no-pivot l, bit_at true l t) in absurd (omega arith)
  found-pivot (peeled-pivot {k} {n} {s} o above left p) l h t =
      let row : suc k - 1 ≡ k = omega arith in
      let column : suc n - 1 ≡ n = omega arith in
      record { some = omega arith; rest = s; split = refl; next = rw (row, column) (located-pivot l) }

  found-free : {rows c : ℕ} {s : Shape} → Peeled q (entry N m) rows c s → Located q N K m rows c s → 0 < c
      → eqb (v / 2 ^ (N - c) % 2) 1 ≡ false → FreeColumn q N K m rows c s
  found-free peeled-empty l h t = absurd (omega arith)
  found-free (peeled-free {k} {n} {s} g p) l h t =
      let column : suc n - 1 ≡ n = omega arith in
      record { rest = s; split = rw column; next = rw column (located-free l) }
  found-free (peeled-pivot o above left p) l h t = let z : ◌≡◌ {A = ℕ} 0 1 = cc (pivot-here l, bit_at false l t) in absurd (omega arith)

  pub walk-pivot : {rows c : ℕ} {s : Shape} → Located q N K m rows c s → 0 < c → eqb (v / 2 ^ (N - c) % 2) 1 ≡ true
      → PivotColumn q N K m rows c s
  walk-pivot l = found-pivot l.part l

  pub walk-free : {rows c : ℕ} {s : Shape} → Located q N K m rows c s → 0 < c → eqb (v / 2 ^ (N - c) % 2) 1 ≡ false
      → FreeColumn q N K m rows c s
  walk-free l = found-free l.part l

pub walk_end : {q N K k : ℕ} {m : List ℕ} {s : Shape} → Located q N K m k 0 s → s ≡ empty
walk_end l = none l.part
  where
    none : {q k : ℕ} {A : ℕ → ℕ → ℕ} {s : Shape} → Peeled q A k 0 s → s ≡ empty
    none peeled-empty = refl
