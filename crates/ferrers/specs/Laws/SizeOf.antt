-- The size of a reduced matrix's diagram, counted column by column from the right; no part of the meaning.
--   Counting q n k m c rows dots == c columns and `rows` rows are left to count, and the columns passed have `dots` dots
--   counting-start, -pivot, -free, -end == nothing is counted yet; one more column is; all are
--   size-within, dots-few == a diagram has at most k(n-k) dots, and at most 64
-- Assumes nothing.
use Rattle.std.specs.Prelude.{◌≡◌, true, false, List, eqb}
use Rattle.std.proofs.Math.Path.{ap}
use Rattle.std.proofs.Common.{◌∙◌, sym, add-zero, zero-add}
use Prim.Native.Nat.{ℕ, pred, ◌+◌, ◌*◌, ◌-◌, ◌^◌, ◌/◌, ◌%◌, ◌<◌, ◌≤◌}
use native.Mathlib.Omega.{arith}
use Rattle.matrix.specs.Laws.PeelPlace.{Located, located-start}
use Rattle.matrix.specs.Matrix.{identifying, Reduced}
use Rattle.matrix.specs.Laws.Peel.{peeled-of}
use Rattle.matrix.specs.Shape.{Shape, empty}
use Rattle.matrix.specs.Laws.ShapeLaws.{peeled-valid}
use Rattle.matrix.proofs.Laws.Walk.{walk-pivot, walk-free, walk_end}
use Rattle.ferrers.specs.Laws.DiagramFormula.{size-formula}
use Rattle.ferrers.specs.Ferrers.{size}
use Rattle.ferrers.specs.Laws.ShapeRank.{shape_size}
use Rattle.ferrers.specs.Laws.ShapeBounds.{shape_size_lem, valid-rows}
use Rattle.partitions.specs.Laws.Box.{box-short}

pub size-within : {q n k : ℕ} {m : List ℕ} → Reduced q n k m → size n k m ≤ k * (n - k)
size-within r = let (s, p) = peeled-of r in rw (size-formula r p) (shape_size_lem (peeled-valid p))

pub dots-few : {q n k : ℕ} {m : List ℕ} → n ≤ 16 → Reduced q n k m → size n k m ≤ 64
dots-few {n} {k} h r =
    let (s, p) = peeled-of r in
    omega (arith, size-within r, box-short n (omega arith) k (omega (arith, valid-rows (peeled-valid p))))

pub record Counting (q n k : ℕ) (m : List ℕ) (c rows dots : ℕ) : Type 0 where
  pub shape : Shape
  pub left : Located q n k m rows c shape
  pub whole : dots + shape_size shape rows ≡ size n k m

pub counting-start : {q n k : ℕ} {m : List ℕ} → Reduced q n k m → Counting q n k m n k 0
counting-start {k} r =
    let (s, p) = peeled-of r in
    record { shape = s; left = located-start r p; whole = zero-add (shape_size s k) ∙ sym (size-formula r p) }

pub counting-end : {q n k c rows dots : ℕ} {m : List ℕ} → c ≡ 0 → Counting q n k m c rows dots → dots ≡ size n k m
unfolding shape_size
counting-end {q} {n} {k} {c} {rows} {dots} {m} z w =
    let none : w.shape ≡ empty = walk_end (rw z at w.left) in
    sym (add-zero dots) ∙ ap (λ s. dots + shape_size s rows) (sym none) ∙ w.whole

module _ {q n k c rows dots : ℕ} {m : List ℕ} (v : ℕ) (is : v ≡ identifying n k m) (some : 0 < c) (w : Counting q n k m c rows dots) where
  pub counting-pivot : eqb (v / 2 ^ (n - c) % 2) 1 ≡ true → (1 ≤ rows) × Counting q n k m (c - 1) (rows - 1) dots
  unfolding shape_size
  counting-pivot t =
      let p = walk-pivot v is w.left some t in
      let row : pred rows ≡ rows - 1 = omega arith in (
        p.some,
        record {
          shape = p.rest;
          left = p.next;
          whole = ap (λ r. dots + shape_size p.rest r) (sym row) ∙ ap (λ s. dots + shape_size s rows) (sym p.split) ∙ w.whole;
        },
      )

  pub counting-free : eqb (v / 2 ^ (n - c) % 2) 1 ≡ false → (dots + rows ≤ size n k m) × Counting q n k m (c - 1) rows (dots + rows)
  unfolding shape_size
  counting-free t =
      let p = walk-free v is w.left some t in
      let all : dots + (rows + shape_size p.rest rows) ≡ size n k m = ap (λ s. dots + shape_size s rows) (sym p.split) ∙ w.whole in (
        omega arith,
        record { shape = p.rest; left = p.next; whole = omega arith },
      )
