-- `ferrers::tableau_of`: a free column is a number of its own, put after the number read so far.
use Rattle.std.proofs.Common.{◌≡◌, true, false, List, ℕ, ◌+◌, ◌-◌, ◌^◌, ◌/◌, ◌%◌, ◌<◌, ◌≤◌, eqb, sym, zero-mul, zero-add, arith}
use Rattle.std.proofs.Math.Nat.{sub-zero}
use Rattle.matrix.specs.Matrix.{identifying}
use Rattle.settings.specs.Laws.Accepted.{Accepted}
use Rattle.ferrers.proofs.TableauOf.{Reading, ReadColumn, reading-start, reading-pivot, reading-free, reading-end}
use Rattle.ferrers.proofs.tableau_of.Goals as goal
use Rattle.ferrers.proofs.tableau_of.Goals.{then-pivot_at, else-pivot_at}

module _ {q n k j rows tableau : ℕ} {m : List ℕ} (v : ℕ) (is : v ≡ identifying n k m) (inside : j < n)
    (w : Reading q n k m (n - j) rows tableau) where
  pivoted : eqb (v / 2 ^ j % 2) 1 ≡ true → (1 ≤ rows) × Reading q n k m (n - (j + 1)) (rows - 1) tableau
  pivoted t =
      let d : j ≡ n - (n - j) = omega arith in
      let next : n - j - 1 ≡ n - (j + 1) = omega arith in
      rw next at (reading-pivot v is (omega arith) w (rw d at t))

  freed : Accepted q n k → eqb (v / 2 ^ j % 2) 1 ≡ false → ReadColumn q n k m (n - j) rows tableau
  freed a t = let d : j ≡ n - (n - j) = omega arith in reading-free v is (omega arith) w a (rw d at t)

pub loop-j-init : goal.loop-j-init
loop-j-init c = rw sub-zero (reading-start c.requires.1)

pub overflow_sub-rows : goal.overflow_sub-rows
overflow_sub-rows c = (pivoted c.args.v c.requires.2 c.loop-j-test.true c.loop-j.invariant (sym c.if-pivot_at.ensures)).0

pub append_digits-column-requires : goal.append_digits-column-requires
append_digits-column-requires c =
    let r = freed c.args.v c.requires.2 c.loop-j-test.true c.loop-j.invariant c.requires.0 (sym c.if-pivot_at.ensures) in
    let column : c.args.n - 1 - c.loop-j.j ≡ c.args.n - c.loop-j.j - 1 = omega arith in
    (r.positive, omega arith, r.long, rw (zero-mul, column) (omega (arith, r.fits)))

pub power-requires : goal.power-requires
power-requires c =
    let r = freed c.args.v c.requires.2 c.loop-j-test.true c.loop-j.invariant c.requires.0 (sym c.if-pivot_at.ensures) in
    (r.size, r.short, r.power)

pub overflow_mul-tableau : goal.overflow_mul-tableau
overflow_mul-tableau c =
    let r = freed c.args.v c.requires.2 c.loop-j-test.true c.loop-j.invariant c.requires.0 (sym c.if-pivot_at.ensures) in
    rw c.power.ensures (omega (arith, r.fits))

pub overflow_add-tableau : goal.overflow_add-tableau
overflow_add-tableau c =
    let r = freed c.args.v c.requires.2 c.loop-j-test.true c.loop-j.invariant c.requires.0 (sym c.if-pivot_at.ensures) in
    let column : c.args.n - 1 - c.loop-j.j ≡ c.args.n - c.loop-j.j - 1 = omega arith in
    rw (c.power.ensures, c.append_digits-column.ensures, zero-mul, zero-add, column) (omega (arith, r.fits))

pub loop-j-preserved : goal.loop-j-preserved
loop-j-preserved c =
    let w = c.loop-j.invariant in
    let inside = c.loop-j-test.true in
    let column : c.args.n - 1 - c.loop-j.j ≡ c.args.n - c.loop-j.j - 1 = omega arith in
    let next : c.args.n - (c.loop-j.j + 1) ≡ c.args.n - c.loop-j.j - 1 = omega arith in
    elim c.if-pivot_at.branch [
      | then-pivot_at b ↦ rw (b.tableau-is, b.rows-is) (pivoted c.args.v c.requires.2 inside w (sym b.if-pivot_at.ensures)).1
      | else-pivot_at b ↦
          rw (b.tableau-is, b.rows-is, b.power.ensures, b.append_digits-column.ensures, zero-mul, zero-add, column, next)
          (freed c.args.v c.requires.2 inside w c.requires.0 (sym b.if-pivot_at.ensures)).next
    ]

pub returns : goal.returns
returns c = reading-end (omega arith) c.loop-j.invariant
