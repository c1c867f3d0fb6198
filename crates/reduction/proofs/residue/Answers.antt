-- The lead of a row is read from `pivots`, and the row ends before row d.
use Rattle.std.proofs.Common.{◌<◌, ap, sym, ◌∙◌, inl, zero-mul, add-one, arith}
use Rattle.basics.specs.Laws.Flat.{row_fits}
use Rattle.field.specs.Laws.Decide.{laws}
use Rattle.linear.specs.Eliminate.{lead_of}
use Rattle.rows.specs.Laws.Steps.{part}
use Rattle.rows.specs.Laws.Puts.{pasted}
use Rattle.reduction.specs.Laws.LeadsRead.{lead-read, read-inside}
use Rattle.reduction.specs.Laws.Residue.{eliminating-none, eliminating-first, first-row, eliminating-part}
use Rattle.reduction.specs.Laws.Residue.{eliminating-row, eliminating-more, eliminating-end}
use Rattle.reduction.proofs.residue.Goals as goal

pub returns-then-d-eq0 : goal.returns-then-d-eq0
returns-then-d-eq0 c =
    let a = c.args in
    c.copy.ensures ∙ pasted a.n 0 a.row.now a.m.now c.requires.t.3.0
    ∙ eliminating-none a.q a.n a.d a.m.now a.row.now c.if-d-eq0.true

pub enter-requires-clause-t : goal.enter-requires-clause-t
enter-requires-clause-t c =
    let a = c.args in
    let t = c.requires.t in
    let some : 0 < a.d = omega arith in (
      t.0,
      read-inside a.n a.d a.m.now a.pivots.now c.requires.d_in_bounds.1 0 some a.q t.2,
      t.3,
      first-row a.q (laws a.q t.0) a.n a.d a.m.now a.row.now t.1 t.2.rows t.3 some,
      omega (arith, row_fits 0 a.d a.n some),
      t.1,
    )

pub enter-requires-clause-p_value : goal.enter-requires-clause-p_value
enter-requires-clause-p_value c =
    let a = c.args in
    lead-read a.n a.d a.m.now a.pivots.now c.requires.d_in_bounds.1 0 (omega arith)
    ∙ ap (λ x. lead_of a.n (part a.n x a.m.now)) (zero-mul a.n)

pub loop-i-init : goal.loop-i-init
loop-i-init c =
    let a = c.args in
    let t = c.requires.t in
    eliminating-first a.q (laws a.q t.0) a.n a.d a.m.now a.row.now t.1 t.2.rows t.3 (omega arith) _ c.enter.ensures

pub eliminate-requires-clause-t : goal.eliminate-requires-clause-t
eliminate-requires-clause-t c =
    let a = c.args in
    let t = c.requires.t in
    let i = c.loop-i.i in (
      t.0,
      read-inside a.n a.d a.m.now a.pivots.now c.requires.d_in_bounds.1 i c.loop-i-test.true a.q t.2,
      eliminating-row a.q (laws a.q t.0) a.n a.d a.m.now a.row.now t.1 t.2.rows i c.loop-i.m c.loop-i.invariant c.loop-i-test.true,
      c.loop-i.invariant.row,
      inl (row_fits i a.d a.n c.loop-i-test.true),
    )

pub eliminate-requires-clause-n_in_bounds : goal.eliminate-requires-clause-n_in_bounds
eliminate-requires-clause-n_in_bounds c =
    let a = c.args in
    let t = c.requires.t in
    let i = c.loop-i.i in
    let same =
    eliminating-part a.q (laws a.q t.0) a.n a.d a.m.now a.row.now t.1 t.2.rows i c.loop-i.m c.loop-i.invariant c.loop-i-test.true in (
      omega (arith, row_fits i a.d a.n c.loop-i-test.true, t.1),
      omega (arith, t.1),
      lead-read a.n a.d a.m.now a.pivots.now c.requires.d_in_bounds.1 i c.loop-i-test.true ∙ ap (lead_of a.n) (sym same),
    )

pub loop-i-preserved : goal.loop-i-preserved
loop-i-preserved c =
    let a = c.args in
    let t = c.requires.t in
    rw add-one (eliminating-more a.q (laws a.q t.0) a.n a.d a.m.now a.row.now t.1 t.2.rows c.loop-i.i c.loop-i.m c.loop-i.invariant
    c.loop-i-test.true _ c.eliminate.ensures)

pub returns : goal.returns
returns c =
    let a = c.args in
    let t = c.requires.t in
    eliminating-end a.q (laws a.q t.0) a.n a.d a.m.now a.row.now t.1 t.2.rows c.loop-i.i c.loop-i.m c.loop-i.invariant
    (omega (arith, c.loop-i.invariant.within))
