-- The matrix with a given extended index, written column by column from the right; no part of the meaning.
--   Unranking q n k i m v c rows rest == the columns of m from c on are those of the matrix with the index i, and its first c columns are
--                                      those of the matrix of `rows` rows with the index `rest`; v holds the bits of the columns from c on
--   unranking-start, -end   == nothing is written yet, and all is
--   unranking-vector        == then v is the identifying vector
--   free-asked, write-asked, pivot-asked == of the next column the counts can be asked, and it can be written
--   bit-asked               == and its bit be added
--   unranking-free, -pivot  == it is written, as a free one or as a pivot's
--   each-positive, rows-positive == before a free column the count to divide by is above 0, before a pivot's a row is left
-- Assumes nothing.
use Rattle.std.specs.Prelude.{◌≡◌, List, ℕ, zero, suc, ◌+◌, ◌*◌, ◌-◌, ◌^◌, ◌/◌, ◌%◌, ◌<◌, ◌≤◌, T, length, replicate}
use Rattle.std.proofs.Common.{ap, ◌∙◌, le_refl, le_trans, mod-lt, zero-lt-suc, arith}
use Rattle.std.proofs.Math.Path.{sym}
use Rattle.field.specs.Field.{is_field_size}
use Rattle.field.specs.Laws.Small.{size_small}
use Rattle.matrix.specs.Matrix.{identifying}
use Rattle.matrix.specs.Laws.WriteColumn.{unit_at, Blank, Written}
use Rattle.matrix.proofs.Laws.Vector.{vector}
use Rattle.matrix.specs.Laws.Passed.{Passed, passed_start, passed-free, passed-pivot, passed-fits, passed-end}
use Rattle.matrix.proofs.Laws.ShapeMatrix.{shape-vector}
use Rattle.matrix.specs.Shape.{digit_at}
use Rattle.matrix.specs.Laws.DrawColumns.{Drawing, drawing-start, drawing-blank, drawing-free, drawing-pivot, drawing-end}
use Rattle.counts.specs.Gaussian.{gaussian, greatest_count, table_entry}
use Rattle.counts.specs.Laws.GaussianLaws.{gaussian-longer-le, gaussian-pivot-le}
use Rattle.settings.specs.Laws.Accepted.{Accepted}
use Rattle.counts.specs.Laws.GaussianLaws.{entry-within}
use Rattle.extended.specs.Drawn.{extended_shape, drawn_extended}
use Rattle.matrix.specs.Laws.Flatten.{factor-positive}
use Rattle.extended.specs.Laws.ShapeCount.{shape_free, shape-pivot, shape-valid, no-row-free, after_free}

pub record Unranking (q n k i : ℕ) (m : List ℕ) (v c rows rest : ℕ) : Type 0 where
  pub columns : c ≤ n
  pub few : rows ≤ k
  pub within : rest < gaussian q c rows
  pub count : gaussian q c rows ≤ gaussian q n k
  pub drawing : Drawing q n k (extended_shape q n k i) m c rows (extended_shape q c rows rest)
  pub passed : Passed n v c (vector (extended_shape q c rows rest)) (vector (extended_shape q n k i))

pub unranking-start : (q n k i : ℕ) (m : List ℕ) → i < gaussian q n k → m ≡ replicate (k * n) 0 → Unranking q n k i m 0 n k i
unranking-start q n k i m h e =
    record {
      columns = le_refl n;
      few = le_refl k;
      within = h;
      count = le_refl (gaussian q n k);
      drawing = drawing-start q n k _ m e;
      passed = passed_start n _;
    }

module _ {q n k i v c rows rest : ℕ} {m : List ℕ} (u : Unranking q n k i m v c rows rest) (e : c ≡ 0) where
  pub unranking-end : m ≡ drawn_extended q n k i
  unfolding drawn_extended
  unranking-end = drawing-end q n k rows (extended_shape q n k i) (extended_shape q 0 rows rest) m (rw e at u.drawing)

  pub unranking-vector : 1 < q → i < gaussian q n k → v ≡ identifying n k (drawn_extended q n k i)
  unfolding drawn_extended extended_shape vector
  unranking-vector big h =
      passed-end (ap (λ j. vector (extended_shape q j rows rest)) e) u.passed ∙ sym (shape-vector big (shape-valid q n k i h))

-- a pivot's column takes a row with it
row-left : (q c rows rest : ℕ) → rest < gaussian q (suc c) rows → q ^ rows * gaussian q c rows ≤ rest → 0 < rows
row-left q c zero rest h b = absurd (no-row-free q c rest h b)
row-left q c (suc rows) rest h b = zero-lt-suc rows

pivot-step : (q n k i : ℕ) (m m' : List ℕ) (v c rows rest : ℕ) → Unranking q n k i m v (suc c) rows rest
    → q ^ rows * gaussian q c rows ≤ rest → Written n k c (unit_at (rows - 1)) m m'
    → Unranking q n k i m' (v + 2 ^ (n - suc c)) c (rows - 1) (rest - q ^ rows * gaussian q c rows)
unfolding vector
pivot-step q n k i m m' v c zero rest u b w = absurd (no-row-free q c rest u.within b)
pivot-step q n k i m m' v c (suc rows) rest u b w =
    let e : suc rows - 1 ≡ rows = omega arith in
    rw e
    (record {
      columns = omega (arith, u.columns);
      few = omega (arith, u.few);
      within = after_free q c rows rest u.within b;
      count = le_trans (gaussian-pivot-le q c rows) u.count;
      drawing = drawing-pivot q n k c _ m m' u.columns rows _ (rw (shape-pivot q c (suc rows) rest b) at u.drawing) (rw e at w);
      passed = passed-pivot (rw (shape-pivot q c (suc rows) rest b) at u.passed);
    })

-- the columns that are left are c and those before it
module _ {q n k i v columns c rows rest : ℕ} {m : List ℕ} (a : Accepted q n k) (all : Unranking q n k i m v columns rows rest)
    (next : columns ≡ suc c) where
  u : Unranking q n k i m v (suc c) rows rest
  u = rw next at all

  here : n - 1 - c ≡ n - suc c
  here = omega arith

  pub free-asked : T (is_field_size q) × (c < 16) × (rows ≤ 16) × (gaussian q (suc c) rows ≤ greatest_count)
  free-asked =
      (a.size, omega (arith, u.columns, a.narrow), omega (arith, u.few, a.dimension, a.narrow), le_trans u.count a.counted)

  pub write-asked : T (is_field_size q) × (c < n) × (rows ≤ k) × (k * n ≤ length m) × Blank n k c rows m
  write-asked = (a.size, u.columns, u.few, omega (arith, u.drawing.sized), drawing-blank rows u.drawing)

  shorter : gaussian q c rows ≤ gaussian q n k
  shorter = let size = size_small q a.size in le_trans (gaussian-longer-le q c rows (omega arith)) u.count

  -- those with no pivot in the column c are `free`, `each` for each value of the column
  module _ (free : ℕ) (fe : free ≡ q ^ rows * gaussian q c rows) where
    module _ (each : ℕ) (te : each ≡ table_entry q c rows) (b : rest < free) where
      each-is : each ≡ gaussian q c rows
      each-is = te ∙ entry-within q c rows (le_trans shorter a.counted)

      first : rest < q ^ rows * gaussian q c rows
      first = rw fe at b

      pub each-positive : 0 < each
      each-positive = rw each-is (factor-positive (q ^ rows) (gaussian q c rows) rest first)

      pub unranking-free : {m' : List ℕ} → Written n k c (digit_at q rows (rest / each)) m m' → Unranking q n k i m' v c rows (rest % each)
      unfolding vector
      unranking-free {m'} w =
          record {
            columns = omega (arith, u.columns);
            few = u.few;
            within = rw (← each-is) (mod-lt rest each-positive);
            count = shorter;
            drawing = rw each-is
                (drawing-free q n k c _ m m' u.columns rows _ _ (rw (shape_free q c rows rest first) at u.drawing) (rw each-is at w));
            passed = rw each-is (passed-free (rw (shape_free q c rows rest first) at u.passed));
          }

    module _ (b : free ≤ rest) where
      pub rows-positive : 0 < rows
      rows-positive = row-left q c rows rest u.within (rw fe at b)

      pub pivot-asked : (c < n) × (rows - 1 < k) × (k * n ≤ length m) × Blank n k c 0 m
      pivot-asked = (u.columns, omega (arith, rows-positive, u.few), omega (arith, u.drawing.sized), drawing-blank 0 u.drawing)

      pub bit-asked : (n ≤ 16) × (c < n) × (v + 2 ^ (n - 1 - c) < 2 ^ 16)
      bit-asked = (a.narrow, u.columns, rw here (passed-fits a.narrow u.passed))

      pub unranking-pivot : {m' : List ℕ} → Written n k c (unit_at (rows - 1)) m m'
          → Unranking q n k i m' (v + 2 ^ (n - 1 - c)) c (rows - 1) (rest - free)
      unranking-pivot {m'} w = rw (fe, here) (pivot-step q n k i m m' v c rows rest u (rw fe at b) w)
