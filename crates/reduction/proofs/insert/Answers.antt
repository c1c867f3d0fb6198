-- n rows span every row; else there is room for one more.
use Rattle.std.proofs.Common.{◌*◌, ◌<◌, length, ap, sym, ◌∙◌, arith}
use Rattle.field.specs.Laws.Decide.{laws}
use Rattle.linear.specs.Eliminate.{insert_row, join}
use Rattle.linear.specs.Span.{rows_of}
use Rattle.linear.specs.Laws.FlatMatrix.{rows-length}
use Rattle.reduction.specs.Padded.{padded}
use Rattle.reduction.specs.Laws.Steps.{leads}
use Rattle.reduction.specs.Laws.Insert.{held_fits, held-length, full-same, row_room, room-zeros}
use Rattle.reduction.proofs.insert.Goals as goal

pub returns-then-d-n : goal.returns-then-d-n
returns-then-d-n c =
    let a = c.args in
    let t = c.requires.t in
    let same = full-same a.q (laws a.q t.0) a.n t.1 (rows-length a.n a.d a.m.now ∙ c.if-d-n.true) a.row.now t.3 in
    record {
      value = sym (rows-length a.n a.d a.m.now) ∙ ap length same;
      m_after = t.2 ∙ ap (λ x. padded (a.n * a.n) (join x)) same;
      pivots_after = c.requires.n_in_bounds.1 ∙ ap (leads a.n) same;
    }

pub insert_residue-requires : goal.insert_residue-requires
insert_residue-requires c =
    let a = c.args in
    let t = c.requires.t in
    let b = c.requires.n_in_bounds in
    let law = laws a.q t.0 in
    let room : a.d < a.n = omega (arith, held_fits a.q law a.n a.d a.m.now t.1 t.2, c.if-d-n.false) in
    record {
      t = (t.0, row_room a.q law a.n a.d a.m.now t.1 t.2 room, t.1, t.3);
      d_in_bounds = (omega (arith, room, b.0), b.1, b.2);
      m_value = room-zeros a.q law a.n a.d a.m.now t.1 t.2 room;
    }

pub returns-clause-m_after : goal.returns-clause-m_after
returns-clause-m_after c =
    let a = c.args in
    let t = c.requires.t in
    c.insert_residue.ensures.m_after
    ∙ ap (λ x. padded x (join (insert_row a.q a.n (rows_of a.n a.d a.m.now) a.row.now)))
    (held-length a.q (laws a.q t.0) a.n a.d a.m.now t.1 t.2)
