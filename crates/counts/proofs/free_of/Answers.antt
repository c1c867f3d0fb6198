-- `counts::free_of`: the product is at most [n + 1, k].
use Rattle.std.proofs.Common.{◌*◌, ap₂, ◌∙◌, le_trans, arith}
use Rattle.field.specs.Laws.Small.{size_small}
use Rattle.counts.specs.Laws.GaussianLaws.{gaussian-free-le, gaussian-longer-le, entry-within}
use Rattle.counts.specs.Laws.Powers.{power_small}
use Rattle.counts.proofs.free_of.Goals as goal

pub power-requires : goal.power-requires
power-requires c =
    (c.requires.0, omega (arith, c.requires.2), power_small c.args.q c.args.k (size_small c.args.q c.requires.0).1 c.requires.2)

pub returns : goal.returns
returns c =
    let a = c.args in
    let size = size_small a.q c.requires.0 in
    ap₂ ◌*◌ c.power.ensures
    (c.requires.4 ∙ entry-within _ _ _ (le_trans (gaussian-longer-le a.q a.n a.k (omega (arith, size.0))) c.requires.3))

pub overflow_mul-result : goal.overflow_mul-result
overflow_mul-result c =
    omega (arith, returns c, gaussian-free-le c.args.q c.args.n c.args.k, c.requires.3)
