-- `partitions::box_count`: beyond the box there is no diagram.
use Rattle.std.proofs.Common.{sym, arith}
use Rattle.partitions.specs.Laws.Box.{box-beyond, box-limit}
use Rattle.partitions.proofs.box_count.Goals as goal

pub returns-then-n-k : goal.returns-then-n-k
returns-then-n-k c = sym (box-beyond _ _ _ c.if-n-k.true)

pub returns-then-limit-m : goal.returns-then-limit-m
returns-then-limit-m c = sym (box-limit _ _ _ _ (omega arith) c.if-limit-m.true)
