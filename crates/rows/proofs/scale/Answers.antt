-- The entry that the loop has come to is still the row's own; a row of polynomials is the sum of the row and one more multiple.
use Rattle.std.proofs.Common.{◌≡◌, T, get_or, set, subst, inr, refl, ap, ap₂, sym, ◌∙◌, arith}
use Rattle.basics.specs.Table.{tabulate}
use Rattle.basics.specs.Laws.Choice.{holds}
use Rattle.basics.specs.Laws.TableWrite.{write-none, write_read, write-more, write-all}
use Rattle.field.specs.Field.{add, multiply, is_polynomial}
use Rattle.field.specs.Laws.Decide.{laws}
use Rattle.field.specs.Laws.Polynomials.{one_more}
use Rattle.linear.specs.Span.{Row}
use Rattle.linear.specs.Laws.Entries.{row_below}
use Rattle.rows.specs.Laws.Monic.{only-multiple}
use Rattle.rows.specs.Laws.Scaled.{whole, scaled-sum}
use Rattle.rows.specs.Laws.Steps.{multiple, multiple_at}
use Rattle.rows.proofs.scale.Goals as goal

pub add-requires-clause-t : goal.add-requires-clause-t
add-requires-clause-t c =
    let a = c.args in
    let r = c.requires in
    let size : T (is_polynomial a.q) = holds _ (sym c.if-is_polynomial.ensures) in
    let row = subst (Row a.q a.n) (sym (whole a.q a.n a.c (laws a.q r.0) size r.1 a.v.now r.2)) r.2 in
    (r.0, size, (one_more a.q size a.c r.1 a.c r.1).0, row, row, inr refl)

pub returns-then-is_polynomial : goal.returns-then-is_polynomial
returns-then-is_polynomial c =
    let a = c.args in
    let r = c.requires in
    let size : T (is_polynomial a.q) = holds _ (sym c.if-is_polynomial.ensures) in
    c.add.ensures ∙ scaled-sum a.q a.n a.c (laws a.q r.0) size r.1 a.v.now r.2

pub loop-entry-init : goal.loop-entry-init
loop-entry-init c = write-none _ _

pub add_product-requires : goal.add_product-requires
add_product-requires c =
    let a = c.args in
    let r = c.requires in
    let j = c.loop-entry.entry-index in
    let old = ap (λ x. get_or x j 0) c.loop-entry.invariant ∙ write_read (multiple_at a.q a.c a.v.now) a.v.now j c.loop-entry-test.true in
    (r.0, sym c.if-is_polynomial.ensures, omega arith, r.1, rw old (row_below a.q (laws a.q r.0) a.n r.2 j))

pub loop-entry-preserved : goal.loop-entry-preserved
loop-entry-preserved c =
    let a = c.args in
    let r = c.requires in
    let law = laws a.q r.0 in
    let j = c.loop-entry.entry-index in
    let f = multiple_at a.q a.c a.v.now in
    let old = ap (λ x. get_or x j 0) c.loop-entry.invariant ∙ write_read f a.v.now j c.loop-entry-test.true in
    let new : c.add_product.result ≡ f j =
    c.add_product.ensures ∙ ap (λ x. add a.q 0 (multiply a.q a.c x)) old
    ∙ only-multiple a.q law a.c _ r.1 (row_below a.q law a.n r.2 j) in
    ap₂ (λ x y. set x j y) c.loop-entry.invariant new ∙ write-more f a.v.now j c.loop-entry-test.true

pub returns : goal.returns
unfolding multiple
returns c =
    let j = c.loop-entry.entry-index in
    let e : j ≡ c.args.n = omega (arith, c.requires.2.0) in
    c.loop-entry.invariant ∙ write-all _ _ j c.loop-entry-test.false ∙ ap (tabulate _ 0) e
