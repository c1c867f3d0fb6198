-- The numeral of what is left of x, with the digits made so far after it, is that of x.
use Rattle.std.proofs.Common.{◌≡◌, ◌^◌, ◌≤◌, ◌<◌, ◌++◌, drop}
use Rattle.text.specs.Text.{numeral}
use Rattle.text.proofs.append.write_digits.Given as goal

abbrev pub invariant-loop-rest : goal.invariant-loop-rest
invariant-loop-rest l = record {
  some : 1 ≤ l.start;
  most : l.start ≤ 20;
  small : l.rest < 10 ^ l.start;
  whole : numeral l.rest ++ drop l.start l.digits ≡ numeral l.x;
}

abbrev pub decreases-loop-rest : goal.decreases-loop-rest
decreases-loop-rest l = l.rest
