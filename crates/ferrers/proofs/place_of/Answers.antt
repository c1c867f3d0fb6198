-- `ferrers::place_of`: each column, by its bit of the vector.
use Rattle.std.proofs.Common.{◌≡◌, true, false, List, ℕ, ◌+◌, ◌-◌, ◌^◌, ◌/◌, ◌%◌, ◌<◌, ◌≤◌, eqb, sym, arith}
use Rattle.std.proofs.Math.Nat.{sub-zero}
use Rattle.matrix.specs.Matrix.{identifying}
use Rattle.partitions.specs.Partitions.{free_count}
use Rattle.ferrers.proofs.IndexParts.{place_of, parts}
use Rattle.ferrers.proofs.PlaceOf.{Placing, placing-start, placing-pivot, placing-free, placing-end}
use Rattle.ferrers.proofs.place_of.Goals as goal
use Rattle.ferrers.proofs.place_of.Goals.{then-pivot_at, else-pivot_at}

module _ {q n k j rows left place : ℕ} {m : List ℕ} (v : ℕ) (is : v ≡ identifying n k m) (inside : j < n)
    (w : Placing q n k m (n - j) rows left place) where
  pivoted : (f : ℕ) → f ≡ free_count (n - 1 - j) rows left → eqb (v / 2 ^ j % 2) 1 ≡ true
      → (1 ≤ rows) × (place + f ≤ place_of n k m) × Placing q n k m (n - (j + 1)) (rows - 1) left (place + f)
  pivoted f e t =
      let c : n - 1 - j ≡ n - j - 1 = omega arith in
      let d : j ≡ n - (n - j) = omega arith in
      let next : n - j - 1 ≡ n - (j + 1) = omega arith in
      let p = placing-pivot v is (omega arith) w f (rw c at e) (rw d at t) in
      (p.some, p.fits, rw next at p.next)

  freed : eqb (v / 2 ^ j % 2) 1 ≡ false → (rows ≤ left) × Placing q n k m (n - (j + 1)) rows (left - rows) place
  freed t =
      let d : j ≡ n - (n - j) = omega arith in
      let next : n - j - 1 ≡ n - (j + 1) = omega arith in
      let p = placing-free v is (omega arith) w (rw d at t) in
      (p.enough, rw next at p.next)

pub loop-j-init : goal.loop-j-init
loop-j-init c = rw sub-zero (placing-start c.requires.3 c.requires.1)

pub overflow_add-place : goal.overflow_add-place
overflow_add-place c =
    let p = pivoted c.args.v c.requires.2 c.loop-j-test.true c.loop-j.invariant _ c.free_boxes-place.ensures (sym c.if-pivot_at.ensures) in
    omega (arith, p.1, (parts c.requires.0 c.requires.1).place)

pub overflow_sub-rows : goal.overflow_sub-rows
overflow_sub-rows c =
    (pivoted c.args.v c.requires.2 c.loop-j-test.true c.loop-j.invariant _ c.free_boxes-place.ensures (sym c.if-pivot_at.ensures)).0

pub overflow_sub-left : goal.overflow_sub-left
overflow_sub-left c = (freed c.args.v c.requires.2 c.loop-j-test.true c.loop-j.invariant (sym c.if-pivot_at.ensures)).0

pub loop-j-preserved : goal.loop-j-preserved
loop-j-preserved c =
    let w = c.loop-j.invariant in
    elim c.if-pivot_at.branch [
      | then-pivot_at b ↦
          rw (b.place-is, b.left-is, b.rows-is)
          (pivoted c.args.v c.requires.2 c.loop-j-test.true w _ b.free_boxes-place.ensures (sym b.if-pivot_at.ensures)).2
      | else-pivot_at b ↦
          rw (b.place-is, b.left-is, b.rows-is) (freed c.args.v c.requires.2 c.loop-j-test.true w (sym b.if-pivot_at.ensures)).1
    ]

pub returns : goal.returns
returns c = placing-end (omega arith) c.loop-j.invariant
