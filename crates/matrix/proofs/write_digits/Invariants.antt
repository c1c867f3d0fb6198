-- The rows from `counter` on are written, `start` is where the first of them begins, and `rest` holds the digits that are left.
use Rattle.std.proofs.Common.{◌≡◌, ◌*◌, ◌-◌, ◌^◌, ◌/◌}
use Rattle.matrix.specs.Shape.{digit_at}
use Rattle.matrix.specs.Laws.WriteColumn.{WrittenFrom}
use Rattle.matrix.proofs.write_digits.Given as goal

abbrev pub invariant-loop : goal.invariant-loop
invariant-loop l =
    record {
      left : l.rest ≡ l.x / l.q ^ (l.rows - l.counter);
      written : WrittenFrom l.n l.k l.c l.counter (digit_at l.q l.rows l.x) l.initial.m l.m;
      begins : l.start ≡ l.counter * l.n;
    }
