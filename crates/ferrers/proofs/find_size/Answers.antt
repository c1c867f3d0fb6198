-- `ferrers::find_size`: the size is m, or it is smaller.
use Rattle.std.proofs.Common.{arith}
use Rattle.ferrers.specs.Laws.FindSize.{searching-start, searching-found, searching-next, searching-end}
use Rattle.ferrers.proofs.find_size.Goals as goal

pub loop-m-init : goal.loop-m-init
loop-m-init c = searching-start c.requires.0.dimension c.requires.1

pub returns-then-rest-count : goal.returns-then-rest-count
returns-then-rest-count c = searching-found _ c.loop-m-test.true c.weight-count.ensures c.loop-m.invariant c.if-rest-count.true

pub loop-m-preserved : goal.loop-m-preserved
loop-m-preserved c = searching-next _ c.loop-m-test.true c.weight-count.ensures c.loop-m.invariant c.if-rest-count.false

pub returns : goal.returns
returns c = searching-end (omega arith) c.loop-m.invariant
