-- In the last arms q is what no arm before has taken.
use Rattle.std.proofs.Common.{◌≡◌, arith}
use Rattle.field.specs.Laws.Kinds.{last-even, not-even, last-odd}
use Rattle.matrix.proofs.part_digit.Goals as goal

pub returns-in_default : goal.returns-in_default
returns-in_default c =
    let e : c.args.q ≡ 8 = last-even _ c.requires c.if-q-eq0.true (λ e. omega arith) (λ e. omega arith) in
    rw e c.part_even-in_default.ensures

pub returns-in_default-q : goal.returns-in_default-q
returns-in_default-q c =
    let e : c.args.q ≡ 7 = last-odd _ (not-even _ c.requires c.if-q-eq0.false) (λ e. omega arith) (λ e. omega arith) in
    rw e c.part_odd-in_default-q.ensures
