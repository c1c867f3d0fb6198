use Rattle.std.proofs.Common.{◌≡◌, ◌*◌, ap, ◌∙◌, arith}
use Rattle.rows.specs.Laws.Steps.{raised}
use Rattle.rows.specs.Laws.Raise.{raised-none, raised-more}
use Rattle.rows.proofs.raise.Goals as goal

pub loop-i-init : goal.loop-i-init
loop-i-init c = (omega arith, raised-none c.args.n c.args.m.now (c.args.d * c.args.n))

pub loop-i-preserved : goal.loop-i-preserved
loop-i-preserved c =
    let a = c.args in (
      omega arith,
      c.swap.ensures ∙ raised-more a.n a.m.now a.d _ _ (omega arith) (omega arith) c.requires.1 _ c.loop-i.invariant.1,
    )

pub returns : goal.returns
returns c =
    let e : c.loop-i.i ≡ c.args.at = omega arith in
    c.loop-i.invariant.1 ∙ ap (λ x. raised c.args.n (c.args.d * c.args.n) (x * c.args.n) c.args.m.now) e
