-- Row i is as it was, and so is row d; the lead of row i is read from `pivots`.
use Rattle.std.proofs.Common.{◌≡◌, ◌*◌, ◌<◌, ◌≤◌, ap, sym, ◌∙◌, subst, subst₂, inr, add-one, arith, length-take-le}
use Rattle.basics.specs.Laws.Flat.{row_fits}
use Rattle.linear.specs.Span.{Row}
use Rattle.linear.specs.Eliminate.{lead_of, eliminate}
use Rattle.linear.specs.Laws.FlatRows.{rows-each}
use Rattle.rows.specs.Laws.Steps.{part, put}
use Rattle.reduction.specs.Laws.LeadsRead.{lead-taken}
use Rattle.reduction.specs.Laws.ClearAbove.{clearing-start, clearing-rest, clearing-more, clearing-stop, clearing-end}
use Rattle.reduction.proofs.clear_above.Goals as goal

pub loop-i-init : goal.loop-i-init
loop-i-init c = clearing-start _ _ _ _ _

pub returns-then-p-lead : goal.returns-then-p-lead
returns-then-p-lead c =
    let a = c.args in
    let b = c.requires.d_in_bounds in
    let i = c.loop-i.i in
    let h : i < a.d = omega (arith, length-take-le a.d a.pivots.now b.0) in
    let same = clearing-rest a.q a.n a.d a.m.now _ i c.loop-i.m c.loop-i.invariant a.n (i * a.n) (omega arith) in
    let lead = lead-taken a.n a.d a.m.now a.pivots.now b.1 i h ∙ ap (lead_of a.n) (sym same) in
    let done = clearing-stop _ _ _ _ _ i c.loop-i.m c.loop-i.invariant h (subst₂ ◌≤◌ b.3 lead c.if-p-lead.true) in
    record { value = done.0; m_after = done.1 }

pub eliminate-requires-clause-t : goal.eliminate-requires-clause-t
eliminate-requires-clause-t c =
    let a = c.args in
    let t = c.requires.t in
    let i = c.loop-i.i in
    let h : i < a.d = omega (arith, length-take-le a.d a.pivots.now c.requires.d_in_bounds.0) in
    let fits = row_fits i a.d a.n h in
    let rest = clearing-rest a.q a.n a.d a.m.now _ i c.loop-i.m c.loop-i.invariant a.n in (
      t.0,
      c.requires.d_in_bounds.2,
      subst (Row a.q a.n) (sym (rest (a.d * a.n) (omega (arith, fits)))) t.3,
      subst (Row a.q a.n) (sym (rest (i * a.n) (omega arith))) (rows-each a.n a.m.now a.d i a.n t.2 h (omega arith)),
      inr fits,
    )

pub eliminate-requires-clause-n_in_bounds : goal.eliminate-requires-clause-n_in_bounds
eliminate-requires-clause-n_in_bounds c =
    let a = c.args in
    let b = c.requires.d_in_bounds in
    let i = c.loop-i.i in
    let h : i < a.d = omega (arith, length-take-le a.d a.pivots.now b.0) in
    let fits = row_fits i a.d a.n h in
    let rest = clearing-rest a.q a.n a.d a.m.now _ i c.loop-i.m c.loop-i.invariant a.n in (
      omega (arith, c.requires.t.1),
      omega (arith, fits, c.requires.t.1),
      b.3 ∙ ap (lead_of a.n) (sym (rest (a.d * a.n) (omega (arith, fits)))),
    )

pub loop-i-preserved : goal.loop-i-preserved
loop-i-preserved c =
    let a = c.args in
    let b = c.requires.d_in_bounds in
    let i = c.loop-i.i in
    let h : i < a.d = omega (arith, length-take-le a.d a.pivots.now b.0) in
    let rest = clearing-rest a.q a.n a.d a.m.now _ i c.loop-i.m c.loop-i.invariant a.n in
    let lead = lead-taken a.n a.d a.m.now a.pivots.now b.1 i h ∙ ap (lead_of a.n) (sym (rest (i * a.n) (omega arith))) in
    let last = rest (a.d * a.n) (omega (arith, row_fits i a.d a.n h)) in
    rw add-one
    (clearing-more a.q a.n a.d a.m.now _ i c.loop-i.m c.loop-i.invariant h _ (omega (arith, c.requires.t.1))
    (subst₂ ◌<◌ lead b.3 c.if-p-lead.false)
    (c.eliminate.ensures ∙ ap (λ x. put a.n (i * a.n) (eliminate a.q a.n x (part a.n (i * a.n) c.loop-i.m)) c.loop-i.m) last))

pub returns : goal.returns
returns c =
    let e : c.loop-i.i ≡ c.args.d = omega (arith, length-take-le c.args.d c.args.pivots.now c.requires.d_in_bounds.0) in
    let done = clearing-end _ _ _ _ _ c.loop-i.i c.loop-i.m c.loop-i.invariant e in
    record { value = done.0; m_after = done.1 }
