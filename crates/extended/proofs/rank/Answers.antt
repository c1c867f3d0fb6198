-- `extended::rank`: the index stays below the count, and the ones of the vector among the columns passed are the rows that are gone.
use Rattle.std.proofs.Common.{◌≡◌, true, false, List, ℕ, suc, ◌+◌, ◌*◌, ◌-◌, ◌^◌, ◌/◌, ◌%◌, ◌<◌, ◌≤◌, T, eqb, length, sym, arith}
use Rattle.std.proofs.Math.Nat.{sub-zero}
use Rattle.std.specs.Int.Count.{ones}
use Rattle.field.specs.Field.{is_field_size}
use Rattle.matrix.specs.Matrix.{entry, identifying}
use Rattle.matrix.specs.Laws.Shape.{top_value}
use Rattle.counts.specs.Gaussian.{gaussian, greatest_count, table_entry}
use Rattle.settings.specs.Laws.Accepted.{Accepted}
use Rattle.extended.specs.Laws.Rank.{Ranking, ranking-start, ranking-end, ranking-fits, ranking-rows, counts-asked, column-asked}
use Rattle.extended.specs.Laws.Rank.{ranking-pivot, ranking-free}
use Rattle.extended.proofs.rank.Goals as goal
use Rattle.extended.proofs.rank.Goals.{then-pivot_at, else-pivot_at}

-- the column that comes next, j from the right and from 0
module _ {q n k j rows index : ℕ} {m : List ℕ} (a : Accepted q n k) (inside : j < n) (w : Ranking q n k m (n - j) rows index) where
  asked : T (is_field_size q) × (n - 1 - j < 16) × (rows ≤ 16) × (gaussian q (suc (n - 1 - j)) rows ≤ greatest_count)
  asked = let c : n - j - 1 ≡ n - 1 - j = omega arith in rw c at (counts-asked a (omega arith) w)

  readable : (0 < q) × (n - 1 - j < n) × (rows * n ≤ length m) × (0 * q ^ rows + top_value q (entry n m) rows (n - 1 - j) < 2 ^ 64)
  readable = let c : n - j - 1 ≡ n - 1 - j = omega arith in rw c at (column-asked a (omega arith) w)

  module _ (v : ℕ) (is : v ≡ identifying n k m) where
    pivoted : (term : ℕ) → term ≡ q ^ rows * gaussian q (n - 1 - j) rows → eqb (v / 2 ^ j % 2) 1 ≡ true
        → Ranking q n k m (n - (j + 1)) (rows - 1) (index + term)
    pivoted term e t =
        let c : n - 1 - j ≡ n - j - 1 = omega arith in
        let d : j ≡ n - (n - j) = omega arith in
        let next : n - j - 1 ≡ n - (j + 1) = omega arith in
        rw next at (ranking-pivot a (omega arith) w v is term (rw c at e) (rw d at t))

    freed : (value each : ℕ) → value ≡ 0 * q ^ rows + top_value q (entry n m) rows (n - 1 - j) → each ≡ table_entry q (n - 1 - j) rows
        → eqb (v / 2 ^ j % 2) 1 ≡ false → Ranking q n k m (n - (j + 1)) rows (index + value * each)
    freed value each e f t =
        let c : n - 1 - j ≡ n - j - 1 = omega arith in
        let d : j ≡ n - (n - j) = omega arith in
        let next : n - j - 1 ≡ n - (j + 1) = omega arith in
        rw next at (ranking-free a (omega arith) w v is value each (rw c at e) (rw c at f) (rw d at t))

-- the rows that are left after it
rows-left : {q n k j rows index : ℕ} {m : List ℕ} → j < n → Ranking q n k m (n - (j + 1)) rows index → (v : ℕ) → v ≡ identifying n k m
    → (w : ℕ) → w ≡ ones (v % 2 ^ (j + 1)) → (w ≤ k) × (k - w ≡ rows)
rows-left {n} {j} inside r v is w e = let d : j + 1 ≡ n - (n - (j + 1)) = omega arith in ranking-rows r v is w (rw d at e)

pub loop-j-init : goal.loop-j-init
loop-j-init c = rw sub-zero (ranking-start c.requires.0 c.requires.1)

pub free_count-index-requires : goal.free_count-index-requires
free_count-index-requires c = asked c.requires.0 c.loop-j-test.true c.loop-j.invariant

pub overflow_add-index : goal.overflow_add-index
overflow_add-index c =
    let w = pivoted c.requires.0 c.loop-j-test.true c.loop-j.invariant c.args.v c.requires.2 _ c.free_count-index.ensures (sym c.if-pivot_at.ensures) in
    omega (arith, ranking-fits c.requires.0 w)

pub overflow_sub-rows : goal.overflow_sub-rows
overflow_sub-rows c =
    let w = pivoted c.requires.0 c.loop-j-test.true c.loop-j.invariant c.args.v c.requires.2 _ c.free_count-index.ensures (sym c.if-pivot_at.ensures) in
    (rows-left c.loop-j-test.true w c.args.v c.requires.2 _ c.ones_below.ensures).0

pub append_digits-requires : goal.append_digits-requires
append_digits-requires c = readable c.requires.0 c.loop-j-test.true c.loop-j.invariant

pub overflow_mul-index : goal.overflow_mul-index
overflow_mul-index c =
    let w =
    freed c.requires.0 c.loop-j-test.true c.loop-j.invariant c.args.v c.requires.2 _ _ c.append_digits.ensures c.coefficient.ensures
    (sym c.if-pivot_at.ensures) in
    omega (arith, ranking-fits c.requires.0 w)

pub overflow_add-index-else-pivot_at : goal.overflow_add-index-else-pivot_at
overflow_add-index-else-pivot_at c =
    let w =
    freed c.requires.0 c.loop-j-test.true c.loop-j.invariant c.args.v c.requires.2 _ _ c.append_digits.ensures c.coefficient.ensures
    (sym c.if-pivot_at.ensures) in
    omega (arith, ranking-fits c.requires.0 w)

pub loop-j-preserved : goal.loop-j-preserved
loop-j-preserved c =
    let a = c.requires.0 in
    let inside = c.loop-j-test.true in
    elim c.if-pivot_at.branch [
      | then-pivot_at w ↦
          let g = pivoted a inside c.loop-j.invariant c.args.v c.requires.2 _ w.free_count-index.ensures (sym w.if-pivot_at.ensures) in
          rw (w.index-is, w.rows-is, (rows-left inside g c.args.v c.requires.2 _ w.ones_below.ensures).1) g
      | else-pivot_at w ↦
          rw (w.index-is, w.rows-is)
          (freed a inside c.loop-j.invariant c.args.v c.requires.2 _ _ w.append_digits.ensures w.coefficient.ensures (sym w.if-pivot_at.ensures))
    ]

pub returns : goal.returns
returns c = ranking-end (omega arith) c.loop-j.invariant
