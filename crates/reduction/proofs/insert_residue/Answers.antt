-- The row is in the span where its residue is zero, and else the residue is scaled and put among the rows.
use Rattle.std.proofs.Common.{◌*◌, ◌+◌, ◌-◌, length, ap, sym, ◌∙◌, arith}
use Rattle.field.specs.Laws.Decide.{laws}
use Rattle.linear.specs.Laws.FlatMatrix.{rows-length}
use Rattle.reduction.specs.Laws.Steps.{leads}
use Rattle.reduction.specs.Laws.InsertResidue.{left-zero, left-nonzero, left-lead, left-asks, insert-same, scaled-is, scaled-rows}
use Rattle.reduction.specs.Laws.InsertResidue.{scaled-lead, scaled-asks, among-result, one_more, insert-among}
use Rattle.reduction.proofs.insert_residue.Goals as goal

pub returns-then-p-n : goal.returns-then-p-n
returns-then-p-n c =
    let a = c.args in
    let t = c.requires.t in
    let law = laws a.q t.0 in
    let z = c.requires.m_value in
    let left = c.residue.ensures in
    let zero = left-zero a.q law a.n a.d a.m.now t.1 t.2 a.row.now t.3 z _ left _ c.lead-p.ensures c.if-p-n.true in
    let same = insert-same a.q law a.n a.d a.m.now t.1 t.2 a.row.now t.3 z _ left zero in
    record {
      value = sym (rows-length a.n a.d a.m.now) ∙ ap length same.0;
      m_after = same.1;
      pivots_after = c.requires.d_in_bounds.1 ∙ ap (leads a.n) same.0;
    }

pub monic-requires : goal.monic-requires
monic-requires c =
    let a = c.args in
    let t = c.requires.t in
    let asks =
    left-asks a.q (laws a.q t.0) a.n a.d a.m.now t.1 t.2 a.row.now t.3 c.requires.m_value _ c.residue.ensures _ c.lead-p.ensures
    c.if-p-n.false (a.d * a.n + a.n - a.d * a.n) (omega arith) in
    (t.0, asks.0, asks.1, asks.2)

pub put_among-requires-clause-t : goal.put_among-requires-clause-t
put_among-requires-clause-t c =
    let a = c.args in
    let t = c.requires.t in
    let law = laws a.q t.0 in
    let z = c.requires.m_value in
    let scaled =
    scaled-is a.q law a.n a.d a.m.now t.1 t.2 a.row.now t.3 z _ c.residue.ensures (a.d * a.n + a.n - a.d * a.n) (omega arith) _
    c.monic.ensures in
    let asks = scaled-asks a.q law a.n a.d a.m.now t.1 t.2 a.row.now t.3 z _ scaled in
    (t.0, asks.0, asks.1, asks.2)

pub put_among-requires-clause-d_in_bounds : goal.put_among-requires-clause-d_in_bounds
put_among-requires-clause-d_in_bounds c =
    let a = c.args in
    let t = c.requires.t in
    let b = c.requires.d_in_bounds in
    let law = laws a.q t.0 in
    let z = c.requires.m_value in
    let left = c.residue.ensures in
    let k = a.d * a.n + a.n - a.d * a.n in
    let scaled = scaled-is a.q law a.n a.d a.m.now t.1 t.2 a.row.now t.3 z _ left k (omega arith) _ c.monic.ensures in
    let nonzero = left-nonzero a.q law a.n a.d a.m.now t.1 t.2 a.row.now t.3 z _ left _ c.lead-p.ensures c.if-p-n.false in
    let asks = left-asks a.q law a.n a.d a.m.now t.1 t.2 a.row.now t.3 z _ left _ c.lead-p.ensures c.if-p-n.false k (omega arith) in (
      b.0,
      b.1 ∙ ap (leads a.n) (sym (scaled-rows a.q law a.n a.d a.m.now t.1 t.2 a.row.now t.3 z _ scaled)),
      asks.2,
      b.2,
      c.lead-p.ensures ∙ left-lead a.q law a.n a.d a.m.now t.1 t.2 a.row.now t.3 z _ left
          ∙ scaled-lead a.q law a.n a.d a.m.now t.1 t.2 a.row.now t.3 z _ scaled nonzero,
    )

pub returns : goal.returns
returns c =
    let a = c.args in
    let t = c.requires.t in
    let law = laws a.q t.0 in
    let z = c.requires.m_value in
    let left = c.residue.ensures in
    let k = a.d * a.n + a.n - a.d * a.n in
    let scaled = scaled-is a.q law a.n a.d a.m.now t.1 t.2 a.row.now t.3 z _ left k (omega arith) _ c.monic.ensures in
    let nonzero = left-nonzero a.q law a.n a.d a.m.now t.1 t.2 a.row.now t.3 z _ left _ c.lead-p.ensures c.if-p-n.false in
    record {
      value = one_more a.q law a.n a.d a.m.now t.1 t.2 a.row.now t.3 z _ scaled nonzero;
      m_after = insert-among a.q law a.n a.d a.m.now t.1 t.2 a.row.now t.3 z _ scaled nonzero _ c.put_among.ensures.m_after;
      pivots_after =
          c.put_among.ensures.pivots_after
          ∙ ap (leads a.n) (among-result a.q law a.n a.d a.m.now t.1 t.2 a.row.now t.3 z _ scaled nonzero);
    }
