-- Modulo 2 bit by bit; else the reciprocal gives the sum's remainder, which is that of the sum with the product's remainder.
use Rattle.std.proofs.Common.{◌≡◌, false, ℕ, ◌+◌, ◌*◌, ◌%◌, ◌<◌, subst, ap, ◌∙◌, sym, arith}
use Rattle.std.proofs.Math.Nat.{add-mod-mod}
use Rattle.field.specs.Field.{is_polynomial, add as sum, multiply as product}
use Rattle.field.specs.Laws.Kinds.{odd-size}
use Rattle.field.specs.Laws.Reciprocal.{in_two, sum-reciprocal}
use Rattle.field.specs.Laws.Small.{size_small}
use Rattle.field.proofs.add_product.Goals as goal

-- the product's remainder may be left out
modulo : (q a c b : ℕ) → is_polynomial q ≡ false → (a + c * b) % q ≡ sum q a (product q c b)
unfolding sum product
modulo q a c b number = rw number (sym (add-mod-mod a (c * b) q))

pub returns-then-q-eq2 : goal.returns-then-q-eq2
returns-then-q-eq2 c =
    let a = c.args in
    let bit = λ (x : ℕ) (h : x < a.q). subst (λ q. x < q) c.if-q-eq2.true h in
    in_two a.a (bit _ c.requires.2) a.c (bit _ c.requires.3) a.b (bit _ c.requires.4)
    ∙ ap (λ q. sum q a.a (product q a.c a.b)) (sym c.if-q-eq2.true)

pub reciprocal-requires : goal.reciprocal-requires
reciprocal-requires c = odd-size c.args.q c.requires.0 c.requires.1 c.if-q-eq2.false

pub overflow_mul-quotient : goal.overflow_mul-quotient
overflow_mul-quotient c = omega (arith, (sum-reciprocal _ c.args.a c.args.c c.args.b _ (c.requires.0, c.requires.2, c.requires.3, c.requires.4) c.reciprocal.ensures).product)

pub overflow_cast-result : goal.overflow_cast-result
overflow_cast-result c = omega (arith, size_small c.args.q c.requires.0)

pub overflow_mul-result : goal.overflow_mul-result
overflow_mul-result c = omega (arith, (sum-reciprocal _ c.args.a c.args.c c.args.b _ (c.requires.0, c.requires.2, c.requires.3, c.requires.4) c.reciprocal.ensures))

pub overflow_sub-result : goal.overflow_sub-result
overflow_sub-result c = (sum-reciprocal _ c.args.a c.args.c c.args.b _ (c.requires.0, c.requires.2, c.requires.3, c.requires.4) c.reciprocal.ensures).below

pub overflow_cast-result-2 : goal.overflow_cast-result-2
overflow_cast-result-2 c = omega (arith, (sum-reciprocal _ c.args.a c.args.c c.args.b _ (c.requires.0, c.requires.2, c.requires.3, c.requires.4) c.reciprocal.ensures))

pub returns : goal.returns
returns c = (sum-reciprocal _ c.args.a c.args.c c.args.b _ (c.requires.0, c.requires.2, c.requires.3, c.requires.4) c.reciprocal.ensures).remainder ∙ modulo _ c.args.a c.args.c c.args.b c.requires.1
