-- `extended::unrank`: before a free column the count to divide by is above 0, and before a pivot's a row is left.
use Rattle.std.proofs.Common.{arith}
use Rattle.field.specs.Laws.Small.{size_small}
use Rattle.extended.specs.Laws.Unrank.{unranking-end, unranking-vector, each-positive, rows-positive, pivot-asked}
use Rattle.extended.specs.Laws.Unrank.{unranking-free, unranking-pivot}
use Rattle.extended.proofs.unrank.Goals as goal

pub nonzero_div-value : goal.nonzero_div-value
nonzero_div-value c =
    each-positive c.requires.0 c.loop-c.invariant (omega arith) _ c.free_of-free.ensures _ c.coefficient-each.ensures c.if-rest-free.true

pub nonzero_rem-rest : goal.nonzero_rem-rest
nonzero_rem-rest c =
    each-positive c.requires.0 c.loop-c.invariant (omega arith) _ c.free_of-free.ensures _ c.coefficient-each.ensures c.if-rest-free.true

pub loop-c-preserved-then-rest-free : goal.loop-c-preserved-then-rest-free
loop-c-preserved-then-rest-free c =
    unranking-free c.requires.0 c.loop-c.invariant (omega arith) _ c.free_of-free.ensures _ c.coefficient-each.ensures c.if-rest-free.true
    c.write_digits.ensures.written

pub overflow_sub-rows : goal.overflow_sub-rows
overflow_sub-rows c = rows-positive c.requires.0 c.loop-c.invariant (omega arith) _ c.free_of-free.ensures c.if-rest-free.false

pub write_pivot-requires : goal.write_pivot-requires
write_pivot-requires c = pivot-asked c.requires.0 c.loop-c.invariant (omega arith) _ c.free_of-free.ensures c.if-rest-free.false

pub overflow_sub-rows-else-rest-free : goal.overflow_sub-rows-else-rest-free
overflow_sub-rows-else-rest-free c =
    rows-positive c.requires.0 c.loop-c.invariant (omega arith) _ c.free_of-free.ensures c.if-rest-free.false

pub loop-c-preserved : goal.loop-c-preserved
loop-c-preserved c =
    rw c.add_pivot-v.ensures
    (unranking-pivot c.requires.0 c.loop-c.invariant (omega arith) _ c.free_of-free.ensures c.if-rest-free.false c.write_pivot.ensures)

pub returns-clause-m_after : goal.returns-clause-m_after
returns-clause-m_after c = unranking-end c.loop-c.invariant (omega arith)

pub returns-clause-value : goal.returns-clause-value
returns-clause-value c = unranking-vector c.loop-c.invariant (omega arith) (size_small _ c.requires.0.size).0 c.requires.1
