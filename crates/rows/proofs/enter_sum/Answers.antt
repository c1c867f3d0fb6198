-- The row is read, and m's first row is as it was.
use Rattle.std.proofs.Common.{◌<◌, get_or, ap, ◌∙◌, arith}
use Rattle.field.specs.Laws.Decide.{laws}
use Rattle.field.specs.Field.{add, multiply}
use Rattle.linear.specs.Laws.Entries.{row_below}
use Rattle.rows.specs.Laws.Steps.{part}
use Rattle.rows.specs.Laws.Adding.{adding-none, adding-all, adding-front, adding-more}
use Rattle.rows.proofs.enter_sum.Goals as goal

pub loop-j-init : goal.loop-j-init
loop-j-init g c =
    let a = c.args in
    let m = a.m.now in
    adding-none a.q a.n a.c a.to (part a.n 0 m) a.row.now m

pub add_product-requires : goal.add_product-requires
add_product-requires g c =
    let a = c.args in
    let t = c.requires.t in
    let b = c.requires.n_in_bounds in
    let law = laws a.q t.0 in (
      t.0,
      t.1,
      row_below a.q law a.n t.3 c.loop-j.j,
      t.2,
      rw (adding-front _ _ _ _ _ _ _ b.1 _ _ c.loop-j.invariant (omega (arith, t.3.0)) b.0) (row_below a.q law a.n t.4 c.loop-j.j),
    )

pub loop-j-preserved : goal.loop-j-preserved
loop-j-preserved g c =
    let a = c.args in
    let b = c.requires.n_in_bounds in
    let inside : c.loop-j.j < a.n = omega (arith, c.requires.t.3.0) in
    adding-more _ _ _ _ _ _ _ b.1 _ _ c.loop-j.invariant inside _
    (c.add_product.ensures
    ∙ ap (λ y. add a.q (get_or a.row.now c.loop-j.j 0) (multiply a.q a.c y))
    (adding-front _ _ _ _ _ _ _ b.1 _ _ c.loop-j.invariant inside b.0))

pub returns : goal.returns
returns g c = adding-all _ _ _ _ _ _ _ c.requires.n_in_bounds.1 _ _ c.loop-j.invariant (omega (arith, c.requires.t.3.0))
