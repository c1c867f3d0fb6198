-- The factor is the inverse of the entry at the lead, and what is scaled already stays.
use Rattle.std.proofs.Common.{get_or, ap, sym, ◌∙◌, arith}
use Rattle.field.specs.Field.{invert}
use Rattle.field.specs.Laws.Decide.{laws}
use Rattle.linear.specs.Eliminate.{monic}
use Rattle.linear.specs.Laws.Entries.{row_below}
use Rattle.rows.specs.Laws.Monic.{monic-same}
use Rattle.rows.specs.Laws.Steps.{multiple}
use Rattle.rows.proofs.monic.Goals as goal

pub invert-c-requires : goal.invert-c-requires
invert-c-requires c =
    let a = c.args in
    let r = c.requires in
    (r.0, row_below a.q (laws a.q r.0) a.n r.1 a.p)

pub scale-requires : goal.scale-requires
scale-requires c =
    let a = c.args in
    let r = c.requires in
    let law = laws a.q r.0 in
    let pivot = row_below a.q law a.n r.1 a.p in
    let factor = rw (← c.invert-c.ensures) at (law.invert-below _ pivot) in
    (r.0, omega (arith, pivot, factor), r.1)

pub returns-then-pivot-ne1 : goal.returns-then-pivot-ne1
unfolding monic multiple
returns-then-pivot-ne1 c =
    let a = c.args in
    c.scale.ensures
    ∙ ap (λ x. multiple a.q a.n x a.v.now) (c.invert-c.ensures ∙ ap (λ i. invert a.q (get_or a.v.now i 0)) c.requires.2)

pub returns-else-pivot-ne1 : goal.returns-else-pivot-ne1
returns-else-pivot-ne1 c =
    let a = c.args in
    let r = c.requires in
    monic-same a.q (laws a.q r.0) a.n a.v.now r.1 (ap (λ i. get_or a.v.now i 0) (sym r.2) ∙ c.if-pivot-ne1.false)
