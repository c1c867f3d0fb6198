use Rattle.std.proofs.Common.{◌≡◌, suc, ◌-◌, ◌*◌, ap, sym, ◌∙◌, arith}
use Rattle.matrix.specs.Laws.WriteColumn.{written_step, step-digit}
use Rattle.matrix.proofs.write_digits.Goals as goal

pub loop-preserved : goal.loop-preserved
loop-preserved c =
    let a = c.args in
    let i = c.loop.counter - 1 in
    let next : suc i ≡ c.loop.counter = omega arith in
    let row : c.loop.start - a.n ≡ i * a.n = omega (arith, c.loop.invariant.begins, ap (λ y. y * a.n) next) in
    let step = step-digit a.q a.rows a.x i c.loop.counter c.loop.rest next c.loop.invariant.left (omega arith) in
    record {
      left = c.part_digit-parted.ensures.0 ∙ step.rest-is;
      written =
          rw row
          (written_step _ _ _ _ _ _ _ _ _ c.requires.1 next (omega arith) c.requires.3
          (step.digit-is ∙ sym c.part_digit-parted.ensures.1) c.loop.invariant.written);
      begins = row;
    }
