-- `ferrers::vector_at`: each column, a free one or a pivot's.
use Rattle.std.proofs.Common.{arith}
use Rattle.ferrers.specs.Laws.VectorAt.{telling-end, rows_left, telling-free, telling-pivot}
use Rattle.ferrers.proofs.vector_at.Goals as goal

pub loop-c-preserved-then-earlier-free : goal.loop-c-preserved-then-earlier-free
loop-c-preserved-then-earlier-free c =
    telling-free (omega arith) _ c.free_boxes-free.ensures c.loop-c.invariant c.if-earlier-free.true

pub overflow_sub-rows : goal.overflow_sub-rows
overflow_sub-rows c = rows_left (omega arith) _ c.free_boxes-free.ensures c.loop-c.invariant c.if-earlier-free.false

pub loop-c-preserved : goal.loop-c-preserved
loop-c-preserved c =
    rw c.add_pivot-v.ensures (telling-pivot (omega arith) _ c.free_boxes-free.ensures c.loop-c.invariant c.if-earlier-free.false)

pub returns : goal.returns
returns c = telling-end (omega arith) c.loop-c.invariant
