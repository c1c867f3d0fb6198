-- The row that i has come to is handed over as a slice, and its lead is read from `pivots`.
use Rattle.std.proofs.Common.{◌≡◌, List, ℕ, ◌+◌, ◌*◌, ◌-◌, ◌<◌, take, drop, ap, ◌∙◌, add-one, arith, length-take-le}
use Rattle.field.specs.Laws.Decide.{laws}
use Rattle.linear.specs.Eliminate.{eliminate}
use Rattle.rows.specs.Laws.Steps.{part, put}
use Rattle.reduction.specs.Laws.LeadsRead.{lead-taken, taken-inside}
use Rattle.reduction.specs.Laws.InSpan.{trying_start, trying-row, trying-more, trying-end}
use Rattle.reduction.proofs.take_off_rows.Goals as goal

handed : (n at : ℕ) (m : List ℕ) → take (at + n - at) (drop at m) ≡ part n at m
handed n at m = let e : at + n - at ≡ n = omega arith in ap (λ x. take x (drop at m)) e

pub loop-i-init : goal.loop-i-init
loop-i-init c =
    let a = c.args in
    let t = c.requires.t in
    trying_start a.q (laws a.q t.0) a.n a.d a.m.now a.work.now t.4 t.3

pub take_off-requires-clause-t : goal.take_off-requires-clause-t
take_off-requires-clause-t c =
    let a = c.args in
    let t = c.requires.t in
    let i = c.loop-i.i in
    let h : i < a.d = omega (arith, length-take-le a.d a.pivots.now c.requires.d_in_bounds.0) in
    let row = trying-row a.q (laws a.q t.0) a.n a.d a.m.now a.work.now t.4 t.2.rows i c.loop-i.work c.loop-i.invariant h in (
      t.0,
      taken-inside a.n a.d a.m.now a.pivots.now c.requires.d_in_bounds.1 i h a.q t.2,
      rw handed row,
      c.loop-i.invariant.row,
      omega (arith, t.4),
    )

pub take_off-requires-clause-p_value : goal.take_off-requires-clause-p_value
take_off-requires-clause-p_value c =
    let a = c.args in
    let i = c.loop-i.i in
    let h : i < a.d = omega (arith, length-take-le a.d a.pivots.now c.requires.d_in_bounds.0) in
    rw handed (lead-taken a.n a.d a.m.now a.pivots.now c.requires.d_in_bounds.1 i h)

pub loop-i-preserved : goal.loop-i-preserved
loop-i-preserved c =
    let a = c.args in
    let t = c.requires.t in
    let i = c.loop-i.i in
    let h : i < a.d = omega (arith, length-take-le a.d a.pivots.now c.requires.d_in_bounds.0) in
    rw add-one
    (trying-more a.q (laws a.q t.0) a.n a.d a.m.now a.work.now t.4 t.2.rows i c.loop-i.work c.loop-i.invariant h _
    (c.take_off.ensures
    ∙ ap (λ x. put a.n a.n (eliminate a.q a.n x (part a.n a.n c.loop-i.work)) (put a.n 0 x c.loop-i.work))
    (handed a.n (i * a.n) a.m.now)))

pub returns : goal.returns
returns c =
    let a = c.args in
    let t = c.requires.t in
    trying-end a.q (laws a.q t.0) a.n a.d a.m.now a.work.now t.4 t.2.rows c.loop-i.i c.loop-i.work c.loop-i.invariant
    (omega (arith, length-take-le a.d a.pivots.now c.requires.d_in_bounds.0))
