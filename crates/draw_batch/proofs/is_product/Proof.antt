-- `draw_batch::is_product` meets its contract: a number is a product exactly when one factor divides it, nothing remaining, to the other.
use mathlib.Core.Path.{ap, sym, ◌∙◌}
use Prim.Native.Nat.{◌*◌, ◌<◌}
use native.Mathlib.Nat.{mul-zero}
use borrow.Author.Tests.{ne_eqb}
use lib.Dec.{eqb}
use Rattle.basics.specs.Laws.Product.{product-exact, product-other}
use borrow.Author.Rules.{rules}
use Rattle.draw_batch.proofs.is_product.Statement.{statement}
use Rattle.draw_batch.proofs.is_product.Tie as tie

returns : tie.Need-returns-then-size-eq0
returns c =
    let a = c.before.args in
    ap (eqb a.length) (sym (ap (λ x. a.count * x) c.if-size-eq0.true ∙ mul-zero a.count))

div-if2 : tie.Need-nonzero_div-length
div-if2 c = search rules

rem-result : tie.Need-nonzero_rem-result
rem-result c = search rules

returns-2 : tie.Need-returns-then-length-size
returns-2 c = product-exact _ _ _ c.if-length-size.true

returns-3 : tie.Need-returns-else-length-size
returns-3 c =
    let a = c.before.before.args in
    let some : 0 < a.size = search rules in
    ne_eqb _ _ c.if-length-size.false ∙ product-other a.length a.count a.size some c.if-length-size.false

pub is_product_spec : {M : Type 1} → statement M
is_product_spec = tie.close (tie.spec returns div-if2 rem-result returns-2 returns-3)
