-- The identifying vector of a diagram, told by its size and place: the contract of `ferrers::vector_at`, and its steps; no part of the
-- meaning.
--   diagram_vector n k m d == the identifying vector of the diagram of size m at place d, whatever its tableau
--   diagram-vector        == it is that of the shape with such a diagram
--   Telling n k size place v c rows left earlier == v holds the bits of the columns from c on; of the diagrams of `left` dots in the
--                            first c columns, with `rows` rows, the one at the place `earlier` is left
--   telling-start, -end   == no column is passed yet, and all are
--   free-next             == where the place is among the diagrams that begin with a free column, that column's dots are there
--   rows_left, bit-asked  == where it is not, a row is left for the pivot, and its bit can be added
--   telling-free, -pivot  == one more column is passed, a free one or a pivot's
-- Assumes nothing.
use Rattle.std.specs.Prelude.{◌≡◌, refl, Bool, true, false, ℕ, zero, suc, pred, ◌+◌, ◌*◌, ◌-◌, ◌^◌, ◌<◌, ◌≤◌, ltb}
use Rattle.std.proofs.Common.{ap, subst, arith, lt-ltb, le-ltb}
use Rattle.basics.specs.Choice.{pick}
use Rattle.matrix.specs.Shape.{Shape, free, pivot}
use Rattle.matrix.proofs.Laws.Vector.{vector}
use Rattle.matrix.specs.Laws.Passed.{Passed, passed_start, passed-free, passed-pivot, passed-fits, passed-end}
use Rattle.partitions.specs.Laws.Box.{box-next, free_all}
use Rattle.ferrers.specs.Laws.DiagramShape.{free-fits}
use Rattle.partitions.specs.Laws.Less.{less-at}
use Rattle.partitions.specs.Partitions.{box_count, free_count}
use Rattle.ferrers.specs.Drawn.{diagram_shape}

unfoldable pub diagram_vector : ℕ → ℕ → ℕ → ℕ → ℕ
diagram_vector zero k m d = 0
diagram_vector (suc n) k m d =
    pick (ltb d (free_count n k m)) (2 * diagram_vector n k (m - k) d) (1 + 2 * diagram_vector n (pred k) m (d - free_count n k m))

vector-either : (b : Bool) (x : ℕ) (s t : Shape) (v w : ℕ) → vector s ≡ v → vector t ≡ w
    → vector (pick b (free x s) (pivot t)) ≡ pick b (2 * v) (1 + 2 * w)
unfolding vector
vector-either true x s t v w e g = ap (λ y. 2 * y) e
vector-either false x s t v w e g = ap (λ y. 1 + 2 * y) g

pub diagram-vector : (q n k m d x : ℕ) → vector (diagram_shape q n k m d x) ≡ diagram_vector n k m d
unfolding vector diagram_shape diagram_vector
diagram-vector q zero k m d x = refl
diagram-vector q (suc n) k m d x =
    vector-either (ltb d (free_count n k m)) _ _ _ _ _ (diagram-vector q n k (m - k) d _)
    (diagram-vector q n (pred k) m (d - free_count n k m) x)

pub record Telling (n k size place v c rows left earlier : ℕ) : Type 0 where
  pub within : earlier < box_count c rows left
  pub passed : Passed n v c (diagram_vector c rows left earlier) (diagram_vector n k size place)

pub telling-start : (n k size place : ℕ) → place < box_count n k size → Telling n k size place 0 n k size place
telling-start n k size place h = record { within = h; passed = passed_start n _ }

pub telling-end : {n k size place v c rows left earlier : ℕ} → c ≡ 0 → Telling n k size place v c rows left earlier
    → v ≡ diagram_vector n k size place
unfolding diagram_vector
telling-end {rows} {left} {earlier} z t = passed-end (ap (λ j. diagram_vector j rows left earlier) z) t.passed

vector-free : (c rows left earlier : ℕ) → earlier < free_count c rows left
    → diagram_vector (suc c) rows left earlier ≡ 2 * diagram_vector c rows (left - rows) earlier
unfolding diagram_vector
vector-free c rows left earlier h = rw (lt-ltb earlier (free_count c rows left) h)

vector-pivot : (c rows left earlier : ℕ) → free_count c (suc rows) left ≤ earlier
    → diagram_vector (suc c) (suc rows) left earlier ≡ 1 + 2 * diagram_vector c rows left (earlier - free_count c (suc rows) left)
unfolding diagram_vector
vector-pivot c rows left earlier h = rw (le-ltb earlier (free_count c (suc rows) left) h)

-- without a row every diagram begins with a free column
row-left : (c rows left earlier : ℕ) → earlier < box_count (suc c) rows left → free_count c rows left ≤ earlier → 1 ≤ rows
row-left c zero left earlier b h = absurd (omega (arith, free_all c left))
row-left c (suc rows) left earlier b h = omega arith

free_step : (n k size place v c rows left earlier : ℕ) → earlier < free_count c rows left
    → Telling n k size place v (suc c) rows left earlier → Telling n k size place v c rows (left - rows) earlier
free_step n k size place v c rows left earlier h t =
    record {
      within = rw (less-at (box_count c rows) left rows (free-fits c rows left earlier h)) at h;
      passed = passed-free (rw (vector-free c rows left earlier h) at t.passed);
    }

pivot-step : (n k size place v c rows left earlier : ℕ) → free_count c (suc rows) left ≤ earlier
    → Telling n k size place v (suc c) (suc rows) left earlier
    → Telling n k size place (v + 2 ^ (n - suc c)) c rows left (earlier - free_count c (suc rows) left)
pivot-step n k size place v c rows left earlier h t =
    record {
      within = omega (arith, box-next c rows left, t.within);
      passed = passed-pivot (rw (vector-pivot c rows left earlier h) at t.passed);
    }

-- the same for the row count that the code has
pivot-taken : (n k size place v c rows left earlier : ℕ) → free_count c rows left ≤ earlier
    → Telling n k size place v (suc c) rows left earlier
    → Telling n k size place (v + 2 ^ (n - suc c)) c (rows - 1) left (earlier - free_count c rows left)
pivot-taken n k size place v c zero left earlier h t = absurd (omega (arith, row-left c 0 left earlier t.within h))
pivot-taken n k size place v c (suc rows) left earlier h t =
    let e : suc rows - 1 ≡ rows = omega arith in
    rw e (pivot-step n k size place v c rows left earlier h t)

-- the column that is passed is left of c, and f is the count that the code compares with
module _ {n k size place v c rows left earlier : ℕ} (some : 0 < c) (f : ℕ) (counted : f ≡ free_count (c - 1) rows left)
    (t : Telling n k size place v c rows left earlier) where
  e : c ≡ suc (c - 1)
  e = omega arith

  here : Telling n k size place v (suc (c - 1)) rows left earlier
  here = subst (λ j. Telling n k size place v j rows left earlier) e t

  pub free-next : earlier < f → rows ≤ left
  free-next h = free-fits (c - 1) rows left earlier (omega arith)

  pub telling-free : earlier < f → Telling n k size place v (c - 1) rows (left - rows) earlier
  telling-free h = free_step n k size place v (c - 1) rows left earlier (omega arith) here

  pub rows_left : f ≤ earlier → 1 ≤ rows
  rows_left h = row-left (c - 1) rows left earlier here.within (omega arith)

  bit : n - 1 - (c - 1) ≡ n - suc (c - 1)
  bit = omega arith

  pub bit-asked : n ≤ 16 → (n ≤ 16) × (c - 1 < n) × (v + 2 ^ (n - 1 - (c - 1)) < 2 ^ 16)
  bit-asked narrow = (narrow, omega (arith, here.passed.columns), rw bit (passed-fits narrow here.passed))

  pub telling-pivot : f ≤ earlier → Telling n k size place (v + 2 ^ (n - 1 - (c - 1))) (c - 1) (rows - 1) left (earlier - f)
  telling-pivot h =
      let g : free_count (c - 1) rows left ≤ earlier = omega arith in
      rw (bit, counted) (pivot-taken n k size place v (c - 1) rows left earlier g here)
