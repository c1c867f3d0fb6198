-- The entry that is read is the row's entry at the lead; a multiple that is zero is left out.
use Rattle.std.proofs.Common.{get_or, ap, sym, ◌∙◌, arith}
use Rattle.field.specs.Field.{negate}
use Rattle.field.specs.Laws.Decide.{laws}
use Rattle.linear.specs.Laws.Entries.{row_below}
use Rattle.linear.specs.Laws.NoChange.{eliminate-nothing}
use Rattle.rows.specs.Laws.Factor.{negative-below, eliminated-by}
use Rattle.rows.specs.Laws.Steps.{part, put}
use Rattle.rows.specs.Laws.Write.{part-read, put_same}
use Rattle.rows.proofs.eliminate.Goals as goal

pub negate-c-requires : goal.negate-c-requires
negate-c-requires c =
    let a = c.args in
    let t = c.requires.t in
    (t.0, rw (← part-read a.n a.to a.m.now a.p t.1) (row_below a.q (laws a.q t.0) a.n t.3 a.p))

pub add_scaled-requires-clause-t : goal.add_scaled-requires-clause-t
add_scaled-requires-clause-t c =
    let a = c.args in
    let t = c.requires.t in
    let e = part-read a.n a.to a.m.now a.p t.1 in
    let entry = rw e at (row_below a.q (laws a.q t.0) a.n t.3 a.p) in
    let factor = negative-below a.q a.n (part a.n a.to a.m.now) a.p _ (c.negate-c.ensures ∙ ap (negate a.q) (sym e)) t.0 t.3 in
    (t.0, omega (arith, entry, factor), t.2, t.3, t.4)

pub returns-then-entry-ne0 : goal.returns-then-entry-ne0
returns-then-entry-ne0 c =
    let a = c.args in
    let factor = c.negate-c.ensures ∙ ap (negate a.q) (sym (part-read a.n a.to a.m.now a.p c.requires.t.1)) in
    c.add_scaled.ensures
    ∙ ap (λ w. put a.n a.to w a.m.now)
    (eliminated-by a.q a.n (part a.n a.to a.m.now) a.p _ factor (part a.n a.from a.m.now) c.requires.n_in_bounds.2)

pub returns-else-entry-ne0 : goal.returns-else-entry-ne0
returns-else-entry-ne0 c =
    let a = c.args in
    let t = c.requires.t in
    let at_lead = ap (λ j. get_or (part a.n a.to a.m.now) j 0) (sym c.requires.n_in_bounds.2) in
    let zero = at_lead ∙ part-read a.n a.to a.m.now a.p t.1 ∙ c.if-entry-ne0.false in
    sym
    (ap (λ w. put a.n a.to w a.m.now) (eliminate-nothing a.q (laws a.q t.0) a.n _ _ t.2 t.3 zero)
    ∙ put_same a.n a.to a.m.now)
