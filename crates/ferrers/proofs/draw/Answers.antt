-- `ferrers::draw`: each column, by its bit of the vector.
use Rattle.std.proofs.Common.{replicate, ap, ◌∙◌, sym, arith}
use Rattle.ferrers.specs.Laws.WriteMatrix.{unranking-start, unranking-end, write-asked, pivot-asked, unranking-free, unranking-pivot}
use Rattle.ferrers.proofs.draw.Goals as goal
use Rattle.ferrers.proofs.draw.Goals.{then-pivot_at, else-pivot_at}

pub loop-c-init : goal.loop-c-init
loop-c-init c = λ s a. unranking-start _ (c.clear.ensures ∙ ap (λ size. replicate size 0) c.requires.2) a

pub write_pivot-requires : goal.write_pivot-requires
write_pivot-requires c =
    let (s, a) = c.requires.1 in
    pivot-asked a c.loop-c-test.true (c.loop-c.invariant s a) (sym c.if-pivot_at.ensures)

pub overflow_add-rows : goal.overflow_add-rows
overflow_add-rows c =
    let (s, a) = c.requires.1 in
    omega (
      arith,
      (pivot-asked a c.loop-c-test.true (c.loop-c.invariant s a) (sym c.if-pivot_at.ensures)).1,
      c.requires.0.dimension,
      c.requires.0.narrow,
    )

pub write_digits-entries-requires : goal.write_digits-entries-requires
write_digits-entries-requires c =
    let (s, a) = c.requires.1 in
    write-asked a c.loop-c-test.true (c.loop-c.invariant s a) c.requires.0

pub loop-c-preserved : goal.loop-c-preserved
loop-c-preserved c =
    λ s a.
    let u = c.loop-c.invariant s a in
    let inside = c.loop-c-test.true in
    elim c.if-pivot_at.branch [
      | then-pivot_at w ↦
          rw (w.m-is, w.entries-is, w.rows-is)
          (unranking-pivot a inside u (sym w.if-pivot_at.ensures) _ w.write_pivot.ensures)
      | else-pivot_at w ↦
          rw (w.m-is, w.entries-is, w.rows-is)
          (unranking-free a inside u _ _ c.requires.0 (sym w.if-pivot_at.ensures) w.write_digits-entries.ensures.written
          w.write_digits-entries.ensures.value)
    ]

pub returns : goal.returns
returns c = λ s a. unranking-end (omega arith) (c.loop-c.invariant s a)
