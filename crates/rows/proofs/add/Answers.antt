-- The two entries that the sum is made of are still their rows' own.
use Rattle.std.proofs.Common.{ap₂, ◌∙◌, arith}
use Rattle.field.specs.Laws.Decide.{laws}
use Rattle.field.specs.Field.{add, multiply}
use Rattle.linear.specs.Laws.Entries.{row_below}
use Rattle.rows.specs.Laws.Steps.{part}
use Rattle.rows.specs.Laws.Adding.{adding-none, adding-all, adding-to, adding-from, adding-more}
use Rattle.rows.proofs.add.Goals as goal

pub loop-j-init : goal.loop-j-init
loop-j-init g c =
    let a = c.args in
    let m = a.m.now in
    adding-none a.q a.n a.c a.to (part a.n a.from m) (part a.n a.to m) m

pub add_product-requires : goal.add_product-requires
add_product-requires g c =
    let a = c.args in
    let t = c.requires.t in
    let law = laws a.q t.0 in
    let fits = c.requires.n_in_bounds.1 in
    let inside = c.loop-j-test.true in (
      t.0,
      t.1,
      rw (adding-to _ _ _ _ _ _ _ fits _ _ c.loop-j.invariant inside) (row_below a.q law a.n t.4 c.loop-j.j),
      t.2,
      rw (adding-from _ _ _ _ _ _ _ fits _ _ c.loop-j.invariant inside a.from t.5) (row_below a.q law a.n t.3 c.loop-j.j),
    )

pub loop-j-preserved : goal.loop-j-preserved
loop-j-preserved g c =
    let a = c.args in
    let fits = c.requires.n_in_bounds.1 in
    let inside = c.loop-j-test.true in
    adding-more _ _ _ _ _ _ _ fits _ _ c.loop-j.invariant inside _
    (c.add_product.ensures
    ∙ ap₂ (λ x y. add a.q x (multiply a.q a.c y)) (adding-to _ _ _ _ _ _ _ fits _ _ c.loop-j.invariant inside)
    (adding-from _ _ _ _ _ _ _ fits _ _ c.loop-j.invariant inside a.from c.requires.t.5))

pub returns : goal.returns
returns g c = adding-all _ _ _ _ _ _ _ c.requires.n_in_bounds.1 _ _ c.loop-j.invariant (omega arith)
