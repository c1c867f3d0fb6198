-- With the digits of the rows passed the value is at most what it is with all of them.
use Rattle.std.proofs.Common.{◌≡◌, List, ℕ, suc, ◌+◌, ◌*◌, ◌^◌, ◌<◌, get_or, sym, add-one, arith}
use Rattle.matrix.specs.Matrix.{entry}
use Rattle.matrix.specs.Laws.Shape.{top_value}
use Rattle.matrix.specs.Laws.TopValue.{append-none, append-next, append-grows}
use Rattle.matrix.proofs.append_digits.Goals as goal

module _ (x q n c i v : ℕ) (m : List ℕ) (before : v ≡ x * q ^ i + top_value q (entry n m) i c) where
  next : v * q + get_or m (i * n + c) 0 ≡ x * q ^ suc i + top_value q (entry n m) (suc i) c
  next = rw before (sym (append-next q (entry n m) c x i))

  fits : (rows : ℕ) → 0 < q → i < rows → x * q ^ rows + top_value q (entry n m) rows c < 2 ^ 64 → v * q + get_or m (i * n + c) 0 < 2 ^ 64
  fits rows positive more all = omega (arith, next, append-grows q (entry n m) c positive x (suc i) rows more)

pub loop-i-init : goal.loop-i-init
loop-i-init c = sym (append-none _ _ _ _)

pub overflow_mul-value : goal.overflow_mul-value
overflow_mul-value c =
    omega (arith, fits c.args.x c.args.q c.args.n c.args.c _ _ _ c.loop-i.invariant c.args.rows c.requires.0 (omega arith) c.requires.3)

pub overflow_add-value-in-loop-i : goal.overflow_add-value-in-loop-i
overflow_add-value-in-loop-i c =
    omega (arith, fits c.args.x c.args.q c.args.n c.args.c _ _ _ c.loop-i.invariant c.args.rows c.requires.0 (omega arith) c.requires.3)

pub loop-i-preserved : goal.loop-i-preserved
loop-i-preserved c = rw add-one (next c.args.x c.args.q c.args.n c.args.c _ _ _ c.loop-i.invariant)
