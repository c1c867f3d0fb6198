-- The extended index of a reduced matrix, added up column by column from the right; no part of the meaning.
--   Ranking q n k m left rows index == `left` columns and `rows` rows are left, and the columns passed add up to `index`
--   ranking-start, -end == no column is passed yet, and all are
--   ranking-fits    == what is added up so far is a number of 64 bits
--   ranking-rows    == the ones of the identifying vector among the columns passed, document 01's w, tell the rows that are left, k - w
--   counts-asked, column-asked == of the next column the counts can be asked, and its first `rows` entries can be read as a number
--   ranking-pivot, -free == it is passed, as a pivot's or as a free one
-- Assumes nothing.
use Rattle.std.specs.Prelude.{◌≡◌, Bool, true, false, List, T, eqb, length}
use Rattle.std.proofs.Math.Path.{ap, ap₂}
use Rattle.std.proofs.Common.{◌∙◌, sym, le_trans, add-zero, zero-add, zero-mul, mul-le-mul_right, lit<}
use Prim.Native.Nat.{ℕ, suc, pred, ◌+◌, ◌*◌, ◌-◌, ◌^◌, ◌/◌, ◌%◌, ◌<◌, ◌≤◌}
use Rattle.std.proofs.Math.Nat.{add_assoc, pow-le-pow_left, pow-le-pow_right}
use native.Mathlib.Omega.{arith}
use Rattle.std.specs.Int.Count.{ones}
use Rattle.basics.specs.Laws.Flat.{row_fits}
use Rattle.field.specs.Field.{is_field_size}
use Rattle.field.specs.Laws.Small.{size_small}
use Rattle.matrix.specs.Matrix.{entry, pivot_at, identifying, Reduced}
use Rattle.matrix.specs.Shape.{Shape, empty}
use Rattle.matrix.specs.Laws.Shape.{top_value}
use Rattle.matrix.specs.Laws.BitSum.{bits-low, bits-ones}
use Rattle.matrix.specs.Laws.Peel.{peeled-of}
use Rattle.matrix.specs.Laws.ShapeLaws.{top_value-below}
use Rattle.matrix.specs.Laws.PeelPlace.{Located, located-start}
use Rattle.matrix.proofs.Laws.Walk.{walk-pivot, walk-free, walk_end}
use Rattle.counts.specs.Gaussian.{gaussian, greatest_count, table_entry}
use Rattle.counts.specs.Laws.GaussianLaws.{gaussian-longer-le, entry-within}
use Rattle.settings.specs.Laws.Accepted.{Accepted}
use Rattle.extended.specs.Extended.{extended_index}
use Rattle.extended.specs.Laws.ShapeRank.{extended_rank}
use Rattle.extended.specs.Laws.Formula.{extended-formula}
use Rattle.extended.specs.Laws.Part.{located-count}
use Rattle.extended.specs.Laws.Theorems.{index-below-count}

pub record Ranking (q n k : ℕ) (m : List ℕ) (left rows index : ℕ) : Type 0 where
  pub shape : Shape
  pub at : Located q n k m rows left shape
  pub whole : index + extended_rank q shape rows left ≡ extended_index q n k m

pub ranking-end : {q n k left rows index : ℕ} {m : List ℕ} → left ≡ 0 → Ranking q n k m left rows index → index ≡ extended_index q n k m
unfolding extended_rank
ranking-end {q} {left} {rows} {index} z w =
    let none : w.shape ≡ empty = walk_end (rw z at w.at) in
    sym (add-zero index) ∙ ap (λ s. index + extended_rank q s rows left) (sym none) ∙ w.whole

pub ranking-rows : {q n k left rows index : ℕ} {m : List ℕ} → Ranking q n k m left rows index → (v : ℕ) → v ≡ identifying n k m
    → (w : ℕ) → w ≡ ones (v % 2 ^ (n - left)) → (w ≤ k) × (k - w ≡ rows)
unfolding identifying
ranking-rows {n} {k} {left} {rows} {m} g v is w e =
    let pivots : ℕ → Bool = λ i. pivot_at n k m (suc i) in
    let counted : w ≡ k - rows
    =
    e
    ∙ ap (λ x. ones (x % 2 ^ (n - left))) is
    ∙ ap ones (bits-low n (n - left) pivots (omega arith))
    ∙ bits-ones (n - left) pivots
    ∙ g.at.counted
    in
    (omega arith, omega (arith, g.at.rows))

module _ {q n k : ℕ} {m : List ℕ} (a : Accepted q n k) where
  pub ranking-start : Reduced q n k m → Ranking q n k m n k 0
  ranking-start r =
      let (s, p) = peeled-of r in
      record {
        shape = s;
        at = located-start r p;
        whole = zero-add (extended_rank q s k n) ∙ sym (extended-formula (size_small q a.size).0 r p);
      }

  pub ranking-fits : {left rows index : ℕ} → Ranking q n k m left rows index → index ≤ greatest_count
  ranking-fits w = omega (arith, w.whole, index-below-count q n k (size_small q a.size).0 w.at.whole, a.counted)

  module _ {left rows index : ℕ} (some : 0 < left) (w : Ranking q n k m left rows index) where
    pub counts-asked : T (is_field_size q) × (left - 1 < 16) × (rows ≤ 16) × (gaussian q (suc (left - 1)) rows ≤ greatest_count)
    counts-asked =
        let size = size_small q a.size in
        let e : suc (left - 1) ≡ left = omega arith in (
          a.size,
          omega (arith, w.at.columns, a.narrow),
          omega (arith, w.at.rows, a.dimension, a.narrow),
          rw e (le_trans (located-count (omega arith) w.at) a.counted),
        )

    -- the number is below 8^16
    pub column-asked :
        (0 < q) × (left - 1 < n) × (rows * n ≤ length m) × (0 * q ^ rows + top_value q (entry n m) rows (left - 1) < 2 ^ 64)
    column-asked =
        let size = size_small q a.size in
        let r = w.at.whole in
        let inside : left - 1 < n = omega (arith, w.at.columns) in
        let below : top_value q (entry n m) rows (left - 1) < q ^ rows
        = top_value-below q (entry n m) rows (left - 1)
        (λ i h. r.below (i * n + (left - 1)) (omega (arith, row_fits i k n (omega (arith, w.at.rows)))))
        in
        let powers : q ^ rows ≤ 8 ^ 16
        =
        le_trans (pow-le-pow_left size.1 rows)
        (pow-le-pow_right {n = 8} (lit< tt) {i = rows} {j = 16} (omega (arith, counts-asked.2)))
        in
        (omega arith, inside, omega (arith, r.size, mul-le-mul_right n w.at.rows), omega (arith, below, powers))

    module _ (v : ℕ) (is : v ≡ identifying n k m) where
      pub ranking-pivot : (term : ℕ) → term ≡ q ^ rows * gaussian q (left - 1) rows → eqb (v / 2 ^ (n - left) % 2) 1 ≡ true
          → Ranking q n k m (left - 1) (rows - 1) (index + term)
      unfolding extended_rank
      ranking-pivot term e t =
          let p = walk-pivot v is w.at some t in
          let row : pred rows ≡ rows - 1 = omega arith in
          let column : pred left ≡ left - 1 = omega arith in
          record {
            shape = p.rest;
            at = p.next;
            whole =
                add_assoc index term (extended_rank q p.rest (rows - 1) (left - 1))
                ∙ ap (λ x. index + (x + extended_rank q p.rest (rows - 1) (left - 1))) e
                ∙ ap₂ (λ a b. index + (q ^ rows * gaussian q b rows + extended_rank q p.rest a b)) (sym row) (sym column)
                ∙ ap (λ s. index + extended_rank q s rows left) (sym p.split)
                ∙ w.whole;
          }

      pub ranking-free : (value each : ℕ) → value ≡ 0 * q ^ rows + top_value q (entry n m) rows (left - 1)
          → each ≡ table_entry q (left - 1) rows → eqb (v / 2 ^ (n - left) % 2) 1 ≡ false
          → Ranking q n k m (left - 1) rows (index + value * each)
      unfolding extended_rank
      ranking-free value each e f t =
          let size = size_small q a.size in
          let p = walk-free v is w.at some t in
          let column : pred left ≡ left - 1 = omega arith in
          let x : ℕ = top_value q (entry n m) rows (left - 1) in
          let term : value * each ≡ x * gaussian q (left - 1) rows
          = ap₂ ◌*◌ (e ∙ rw (zero-mul, zero-add))
          (f ∙ entry-within q (left - 1) rows
          (le_trans (gaussian-longer-le q (left - 1) rows (omega arith)) counts-asked.3))
          in
          record {
            shape = p.rest;
            at = p.next;
            whole =
                add_assoc index (value * each) (extended_rank q p.rest rows (left - 1))
                ∙ ap (λ y. index + (y + extended_rank q p.rest rows (left - 1))) term
                ∙ ap (λ b. index + (x * gaussian q b rows + extended_rank q p.rest rows b)) (sym column)
                ∙ ap (λ s. index + extended_rank q s rows left) (sym p.split)
                ∙ w.whole;
          }
