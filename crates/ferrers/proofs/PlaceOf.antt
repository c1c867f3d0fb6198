-- The place of a reduced matrix's diagram, added up column by column from the right; no part of the meaning.
--   Placing q n k m c rows left place == c columns, `rows` rows and `left` dots are left, and `place` diagrams come before for the columns
--                                        passed
--   placing-start, -end == nothing is passed yet, and all is
--   PlacedPivot, PlacedFree, placing-pivot, placing-free == one more column is passed, which has a pivot or is free
-- Assumes nothing.
use Rattle.std.specs.Prelude.{◌≡◌, true, false, List, eqb}
use Rattle.std.proofs.Math.Path.{ap, ap₂}
use Rattle.std.proofs.Common.{◌∙◌, sym, add-zero, zero-add}
use Prim.Native.Nat.{ℕ, pred, ◌+◌, ◌-◌, ◌^◌, ◌/◌, ◌%◌, ◌<◌, ◌≤◌}
use native.Mathlib.Omega.{arith}
use Rattle.matrix.specs.Laws.PeelPlace.{Located, located-start}
use Rattle.matrix.specs.Matrix.{identifying, Reduced}
use Rattle.matrix.specs.Laws.Peel.{peeled-of}
use Rattle.matrix.specs.Shape.{Shape, empty}
use Rattle.matrix.proofs.Laws.Walk.{walk-pivot, walk-free, walk_end}
use Rattle.ferrers.specs.Laws.DiagramFormula.{size-formula}
use Rattle.ferrers.specs.Ferrers.{size}
use Rattle.ferrers.specs.Laws.Formula.{place-formula}
use Rattle.ferrers.proofs.IndexParts.{place_of}
use Rattle.partitions.specs.Partitions.{free_count}
use Rattle.ferrers.specs.Laws.ShapeRank.{shape_size, shape_place}

pub record Placing (q n k : ℕ) (m : List ℕ) (c rows left place : ℕ) : Type 0 where
  pub shape : Shape
  pub at : Located q n k m rows c shape
  pub dots : left ≡ shape_size shape rows
  pub whole : place + shape_place shape rows c left ≡ place_of n k m

pub placing-start : {q n k total : ℕ} {m : List ℕ} → total ≡ size n k m → Reduced q n k m → Placing q n k m n k total 0
placing-start {n} {k} {total} e r =
    let (s, p) = peeled-of r in
    let dots : total ≡ shape_size s k = e ∙ size-formula r p in
    record {
      shape = s;
      at = located-start r p;
      dots = dots;
      whole = zero-add (shape_place s k n total) ∙ ap (shape_place s k n) dots ∙ sym (place-formula r p);
    }

pub placing-end : {q n k c rows left place : ℕ} {m : List ℕ} → c ≡ 0 → Placing q n k m c rows left place → place ≡ place_of n k m
unfolding shape_place
placing-end {c} {rows} {left} {place} z w =
    let none : w.shape ≡ empty = walk_end (rw z at w.at) in
    sym (add-zero place) ∙ ap (λ s. place + shape_place s rows c left) (sym none) ∙ w.whole

pub record PlacedPivot (q n k : ℕ) (m : List ℕ) (c rows left place : ℕ) : Type 0 where
  pub some : 1 ≤ rows
  pub fits : place ≤ place_of n k m
  pub next : Placing q n k m (c - 1) (rows - 1) left place

pub record PlacedFree (q n k : ℕ) (m : List ℕ) (c rows left place : ℕ) : Type 0 where
  pub enough : rows ≤ left
  pub next : Placing q n k m (c - 1) rows (left - rows) place

module _ {q n k c rows left place : ℕ} {m : List ℕ} (v : ℕ) (is : v ≡ identifying n k m) (some : 0 < c)
    (w : Placing q n k m c rows left place) where
  pub placing-pivot : (f : ℕ) → f ≡ free_count (c - 1) rows left → eqb (v / 2 ^ (n - c) % 2) 1 ≡ true
      → PlacedPivot q n k m c rows left (place + f)
  unfolding shape_size shape_place
  placing-pivot f e t =
      let p = walk-pivot v is w.at some t in
      let row : pred rows ≡ rows - 1 = omega arith in
      let column : pred c ≡ c - 1 = omega arith in
      let all : place + (free_count (c - 1) rows left + shape_place p.rest (rows - 1) (c - 1) left) ≡ place_of n k m
      = ap₂ (λ a b. place + (free_count b rows left + shape_place p.rest a b left)) (sym row) (sym column)
      ∙ ap (λ s. place + shape_place s rows c left) (sym p.split)
      ∙ w.whole
      in
      record {
        some = p.some;
        fits = omega arith;
        next =
            record {
              shape = p.rest;
              at = p.next;
              dots = w.dots ∙ ap (λ s. shape_size s rows) p.split ∙ ap (shape_size p.rest) row;
              whole = omega arith;
            };
      }

  pub placing-free : eqb (v / 2 ^ (n - c) % 2) 1 ≡ false → PlacedFree q n k m c rows left place
  unfolding shape_size shape_place
  placing-free t =
      let p = walk-free v is w.at some t in
      let column : pred c ≡ c - 1 = omega arith in
      let dots : left ≡ rows + shape_size p.rest rows = w.dots ∙ ap (λ s. shape_size s rows) p.split in
      record {
        enough = omega arith;
        next =
            record {
              shape = p.rest;
              at = p.next;
              dots = omega arith;
              whole =
                  ap (λ b. place + shape_place p.rest rows b (left - rows)) (sym column)
                  ∙ ap (λ s. place + shape_place s rows c left) (sym p.split)
                  ∙ w.whole;
            };
      }
