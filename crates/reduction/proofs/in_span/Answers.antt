-- The copy stands behind the place of a row, and what is left of it is the row's residue.
use Rattle.std.proofs.Common.{ap, ◌∙◌, eqb, replicate, arith}
use Rattle.linear.specs.Span.{rows_of}
use Rattle.linear.specs.Eliminate.{lead_of, residue, in_span}
use Rattle.linear.specs.Laws.FlatRows.{lead-part}
use Rattle.reduction.specs.Laws.InSpan.{copied-part}
use Rattle.reduction.proofs.in_span.Goals as goal

pub returns : goal.returns
unfolding in_span
returns c =
    let a = c.args in
    let behind = copied-part a.n a.row.now (replicate 64 0) _ c.requires.t.3.0 c.copy.ensures (omega (arith, c.requires.t.4)) in
    ap (λ x. eqb x a.n)
    (c.lead.ensures ∙ lead-part a.n _ a.n
    ∙ ap (lead_of a.n) (c.take_off_rows.ensures ∙ ap (residue a.q a.n (rows_of a.n a.d a.m.now)) behind))
