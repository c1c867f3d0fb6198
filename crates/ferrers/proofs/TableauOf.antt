-- The tableau of a reduced matrix, read column by column from the right; no part of the meaning.
--   Reading q n k m c rows tableau == c columns and `rows` rows are left, and the columns passed read as the number `tableau`
--   reading-start, -end == nothing is read yet, and all is
--   reading-pivot   == a pivot's column is passed, of which no entry is in the tableau
--   ReadColumn, reading-free == a free column is a number of its own, put after the number read: its bounds, and the next step
-- Assumes nothing.
use Rattle.std.specs.Prelude.{◌≡◌, true, false, List, T, eqb, length}
use Rattle.std.proofs.Math.Path.{ap, ap₂, sym}
use Rattle.std.proofs.Common.{◌∙◌, zero-add, zero-mul, le-mul_of_pos_right}
use Prim.Native.Nat.{ℕ, pred, ◌+◌, ◌*◌, ◌-◌, ◌^◌, ◌/◌, ◌%◌, ◌<◌, ◌≤◌}
use Rattle.std.proofs.Math.Nat.{pow-zero, one-le-pow, mul-le-mul_right, le_of_lt, le_trans}
use native.Mathlib.Omega.{arith}
use Rattle.basics.specs.Laws.Digits.{digits-joined}
use Rattle.field.specs.Field.{is_field_size}
use Rattle.field.specs.Laws.Small.{size_small}
use Rattle.counts.specs.Gaussian.{greatest_count}
use Rattle.counts.specs.Laws.Powers.{power_small}
use Rattle.settings.specs.Laws.Accepted.{Accepted}
use Rattle.matrix.specs.Laws.PeelPlace.{Located, located-start}
use Rattle.matrix.specs.Matrix.{entry, identifying, Reduced}
use Rattle.matrix.specs.Laws.Peel.{peeled-of}
use Rattle.matrix.specs.Shape.{Shape, empty}
use Rattle.matrix.specs.Laws.Shape.{top_value}
use Rattle.matrix.proofs.Laws.Walk.{walk-pivot, walk-free, walk_end}
use Rattle.ferrers.specs.Ferrers.{tableau_value}
use Rattle.ferrers.proofs.IndexParts.{parts}
use Rattle.ferrers.specs.Laws.ShapeRank.{shape_size, shape_tableau}
use Rattle.ferrers.specs.Laws.TableauFormula.{tableau-formula}

pub record Reading (q n k : ℕ) (m : List ℕ) (c rows tableau : ℕ) : Type 0 where
  pub shape : Shape
  pub at : Located q n k m rows c shape
  pub whole : tableau * q ^ shape_size shape rows + shape_tableau q shape rows ≡ tableau_value q n k m

pub reading-start : {q n k : ℕ} {m : List ℕ} → Reduced q n k m → Reading q n k m n k 0
reading-start {q} {n} {k} r =
    let (s, p) = peeled-of r in
    record {
      shape = s;
      at = located-start r p;
      whole = rw (zero-mul, zero-add) (sym (tableau-formula r p));
    }

pub reading-end : {q n k c rows tableau : ℕ} {m : List ℕ} → c ≡ 0 → Reading q n k m c rows tableau → tableau ≡ tableau_value q n k m
unfolding shape_size shape_tableau
reading-end {q} {c} {rows} {tableau} z w =
    let none : w.shape ≡ empty = walk_end (rw z at w.at) in
    let e : tableau * q ^ 0 + 0 ≡ tableau = rw pow-zero (omega arith) in
    sym e ∙ ap (λ s. tableau * q ^ shape_size s rows + shape_tableau q s rows) (sym none) ∙ w.whole

read-within : (a z y total : ℕ) → 0 < z → a * z + y ≡ total → a ≤ total
read-within a z y total h e = omega (arith, le-mul_of_pos_right a h)

-- the column left of c, whose first `rows` entries are in the tableau
pub record ReadColumn (q n k : ℕ) (m : List ℕ) (c rows tableau : ℕ) : Type 0 where
  pub size : T (is_field_size q)
  pub positive : 0 < q
  pub long : rows * n ≤ length m
  pub short : rows ≤ 64
  pub power : q ^ rows ≤ greatest_count
  pub fits : tableau * q ^ rows + top_value q (entry n m) rows (c - 1) ≤ greatest_count
  pub next : Reading q n k m (c - 1) rows (tableau * q ^ rows + top_value q (entry n m) rows (c - 1))

module _ {q n k c rows tableau : ℕ} {m : List ℕ} (v : ℕ) (is : v ≡ identifying n k m) (some : 0 < c) (w : Reading q n k m c rows tableau)
  where
    pub reading-pivot : eqb (v / 2 ^ (n - c) % 2) 1 ≡ true → (1 ≤ rows) × Reading q n k m (c - 1) (rows - 1) tableau
    unfolding shape_size shape_tableau
    reading-pivot t =
        let p = walk-pivot v is w.at some t in
        let row : pred rows ≡ rows - 1 = omega arith in
        let size : shape_size p.rest (rows - 1) ≡ shape_size w.shape rows
        = ap (shape_size p.rest) (sym row) ∙ ap (λ s. shape_size s rows) (sym p.split)
        in
        let value : shape_tableau q p.rest (rows - 1) ≡ shape_tableau q w.shape rows
        = ap (shape_tableau q p.rest) (sym row) ∙ ap (λ s. shape_tableau q s rows) (sym p.split)
        in (
          p.some,
          record {
            shape = p.rest;
            at = p.next;
            whole = ap₂ (λ z y. tableau * q ^ z + y) size value ∙ w.whole;
          },
        )

    pub reading-free : Accepted q n k → eqb (v / 2 ^ (n - c) % 2) 1 ≡ false → ReadColumn q n k m c rows tableau
    unfolding shape_size shape_tableau
    reading-free a t =
        let p = walk-free v is w.at some t in
        let (big, small) = size_small q a.size in
        let few : rows ≤ 16 = omega (arith, w.at.rows, a.dimension, a.narrow) in
        let x : ℕ = top_value q (entry n m) rows (c - 1) in
        let z : ℕ = shape_size p.rest rows in
        let all : (tableau * q ^ rows + x) * q ^ z + shape_tableau q p.rest rows ≡ tableau_value q n k m
        = sym (digits-joined q tableau rows x z (shape_tableau q p.rest rows))
        ∙ ap (λ s. tableau * q ^ shape_size s rows + shape_tableau q s rows) (sym p.split)
        ∙ w.whole
        in
        record {
          size = a.size;
          positive = le_of_lt big;
          long = omega (arith, w.at.whole.size, mul-le-mul_right n w.at.rows);
          short = omega arith;
          power = power_small q rows small few;
          fits = le_trans (read-within _ (q ^ z) _ _ (one-le-pow z q (le_of_lt big)) all) (parts a w.at.whole).tableau;
          next = record { shape = p.rest; at = p.next; whole = all };
        }
