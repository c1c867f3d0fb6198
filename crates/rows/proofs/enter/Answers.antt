-- The factor is the negative of the row's entry at the lead; the rest is that of the kind of field.
use Rattle.std.proofs.Common.{ap, sym, ◌∙◌}
use Rattle.basics.specs.Laws.Choice.{holds}
use Rattle.field.specs.Laws.Decide.{laws}
use Rattle.linear.specs.Laws.Entries.{row_below}
use Rattle.rows.specs.Laws.Factor.{negative-below, eliminated-by}
use Rattle.rows.specs.Laws.Steps.{part, put}
use Rattle.rows.proofs.enter.Goals as goal

pub negate-c-requires : goal.negate-c-requires
negate-c-requires c =
    let a = c.args in
    let t = c.requires.t in
    (t.0, row_below a.q (laws a.q t.0) a.n t.2 _)

pub enter_sum-requires-clause-t : goal.enter_sum-requires-clause-t
enter_sum-requires-clause-t c =
    let a = c.args in
    let t = c.requires.t in
    let element = negative-below a.q a.n a.row.now _ _ c.negate-c.ensures t.0 t.2 in
    (t.0, holds _ (sym c.if-is_polynomial.ensures), element, t.2, t.3)

pub enter_sum-requires-else-is_polynomial-clause-t : goal.enter_sum-requires-else-is_polynomial-clause-t
enter_sum-requires-else-is_polynomial-clause-t c =
    let a = c.args in
    let t = c.requires.t in
    let element = negative-below a.q a.n a.row.now _ _ c.negate-c.ensures t.0 t.2 in
    (t.0, sym c.if-is_polynomial.ensures, element, t.2, t.3)

pub returns-then-is_polynomial : goal.returns-then-is_polynomial
returns-then-is_polynomial c =
    let a = c.args in
    c.enter_sum.ensures
    ∙ ap (λ w. put a.n a.to w a.m.now)
    (eliminated-by a.q a.n a.row.now _ _ c.negate-c.ensures (part a.n 0 a.m.now) c.requires.p_value)

pub returns-else-is_polynomial : goal.returns-else-is_polynomial
returns-else-is_polynomial c =
    let a = c.args in
    c.enter_sum-else-is_polynomial.ensures
    ∙ ap (λ w. put a.n a.to w a.m.now)
    (eliminated-by a.q a.n a.row.now _ _ c.negate-c.ensures (part a.n 0 a.m.now) c.requires.p_value)
