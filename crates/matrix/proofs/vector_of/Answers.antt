-- What the rows add makes up the whole, which is below 2^16.
use Rattle.std.proofs.Common.{◌≡◌, ◌+◌, ◌-◌, ◌^◌, ap, ap₂, ◌∙◌, sym, add-one, refl, arith}
use Rattle.basics.specs.Sum.{sum}
use Rattle.matrix.proofs.Laws.Vector.{identifying-rows}
use Rattle.matrix.proofs.Laws.VectorRows.{row_power, rows-fit}
use Rattle.matrix.proofs.vector_of.Goals as goal

pub loop-row-init : goal.loop-row-init
unfolding sum
loop-row-init c = refl

pub add_pivot-vector-requires : goal.add_pivot-vector-requires
unfolding sum
add_pivot-vector-requires c =
    let i = c.loop-row.row in
    let r = c.requires.1.1 in
    let p = c.requires.3 i c.loop-row-test.true in (
      c.requires.0,
      omega (arith, p, r.no-zero-row i c.loop-row-test.true),
      rw p (omega (arith, c.loop-row.invariant, rows-fit c.requires.0 r i c.loop-row-test.true)),
    )

pub loop-row-preserved : goal.loop-row-preserved
unfolding sum
loop-row-preserved c =
    rw add-one
    (c.add_pivot-vector.ensures
    ∙ ap₂ (λ v p. v + 2 ^ (c.args.n - 1 - p)) c.loop-row.invariant (c.requires.3 c.loop-row.row c.loop-row-test.true))

pub returns : goal.returns
returns c =
    let all : c.loop-row.row ≡ c.args.k = omega arith in
    c.loop-row.invariant ∙ ap (λ i. sum i (row_power c.args.n c.args.m.now)) all ∙ sym (identifying-rows c.requires.1.1)
