-- `ferrers::weight`: a partition count times a power, both at most the settings' count.
use Rattle.std.proofs.Common.{◌*◌, ap₂, arith}
use Rattle.ferrers.specs.Laws.Weight.{sizes}
use Rattle.ferrers.proofs.weight.Goals as goal

pub power-requires : goal.power-requires
power-requires c = let z = sizes c.args.m c.requires.0 (omega (arith, c.requires.2, c.requires.3)) in (z.size, z.short, z.power)

pub overflow_mul-result : goal.overflow_mul-result
overflow_mul-result c =
    omega (
      arith,
      ap₂ ◌*◌ c.box_entry.ensures c.power.ensures,
      (sizes c.args.m c.requires.0 (omega (arith, c.requires.2, c.requires.3))).these,
    )
