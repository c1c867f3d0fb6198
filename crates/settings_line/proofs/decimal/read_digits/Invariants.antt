-- The digits passed make the value, and those ahead finish the number; a cursor past the end stays there.
use Rattle.std.proofs.Common.{◌+◌, ◌-◌, ◌≤◌, length}
use Rattle.settings_line.specs.Laws.ReadDigits.{Running}
use Rattle.settings_line.proofs.decimal.read_digits.Given as goal

abbrev pub invariant-loop-i : goal.invariant-loop-i
invariant-loop-i l = record {
  running : Running l.text l.at l.value l.i;
  within : l.i ≤ l.at + (length l.text - l.at);
}
