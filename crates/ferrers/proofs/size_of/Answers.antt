-- `ferrers::size_of`: each column, by its bit of the vector.
use Rattle.std.proofs.Common.{◌≡◌, true, false, List, ℕ, ◌+◌, ◌-◌, ◌^◌, ◌/◌, ◌%◌, ◌<◌, ◌≤◌, eqb, sym, arith}
use Rattle.std.proofs.Math.Nat.{sub-zero}
use Rattle.matrix.specs.Matrix.{identifying}
use Rattle.ferrers.specs.Ferrers.{size}
use Rattle.ferrers.specs.Laws.SizeOf.{Counting, counting-start, counting-pivot, counting-free, counting-end, dots-few}
use Rattle.ferrers.proofs.size_of.Goals as goal
use Rattle.ferrers.proofs.size_of.Goals.{then-pivot_at, else-pivot_at}

module _ {q n k j rows dots : ℕ} {m : List ℕ} (v : ℕ) (is : v ≡ identifying n k m) (inside : j < n) (w : Counting q n k m (n - j) rows dots)
  where
    pivoted : eqb (v / 2 ^ j % 2) 1 ≡ true → (1 ≤ rows) × Counting q n k m (n - (j + 1)) (rows - 1) dots
    pivoted t =
        let d : j ≡ n - (n - j) = omega arith in
        let next : n - j - 1 ≡ n - (j + 1) = omega arith in
        rw next at (counting-pivot v is (omega arith) w (rw d at t))

    freed : eqb (v / 2 ^ j % 2) 1 ≡ false → (dots + rows ≤ size n k m) × Counting q n k m (n - (j + 1)) rows (dots + rows)
    freed t =
        let d : j ≡ n - (n - j) = omega arith in
        let next : n - j - 1 ≡ n - (j + 1) = omega arith in
        rw next at (counting-free v is (omega arith) w (rw d at t))

pub loop-j-init : goal.loop-j-init
loop-j-init c = (c.requires.1.0, rw sub-zero (counting-start c.requires.1.1))

pub overflow_sub-rows : goal.overflow_sub-rows
overflow_sub-rows c =
    (pivoted c.args.v c.requires.2 c.loop-j-test.true c.loop-j.invariant.1 (sym c.if-pivot_at.ensures)).0

pub overflow_add-dots : goal.overflow_add-dots
overflow_add-dots c =
    omega (
      arith,
      (freed c.args.v c.requires.2 c.loop-j-test.true c.loop-j.invariant.1 (sym c.if-pivot_at.ensures)).0,
      dots-few c.requires.0 c.requires.1.1,
    )

pub loop-j-preserved : goal.loop-j-preserved
loop-j-preserved c =
    let q = c.loop-j.invariant.0 in
    let w = c.loop-j.invariant.1 in
    elim c.if-pivot_at.branch [
      | then-pivot_at b ↦
          (q, rw (b.dots-is, b.rows-is) (pivoted c.args.v c.requires.2 c.loop-j-test.true w (sym b.if-pivot_at.ensures)).1)
      | else-pivot_at b ↦
          (q, rw (b.dots-is, b.rows-is) (freed c.args.v c.requires.2 c.loop-j-test.true w (sym b.if-pivot_at.ensures)).1)
    ]

pub returns : goal.returns
returns c = counting-end (omega arith) c.loop-j.invariant.1
