-- By the tests over the elements of the two fields.
use Rattle.std.proofs.Common.{◌≡◌, ℕ, ◌<◌, ap, subst, sym, ◌∙◌, arith}
use Rattle.field.specs.Field.{multiply}
use Rattle.field.specs.Laws.Polynomials.{InFour, in_four, InEight, in-eight, eight}
use Rattle.field.proofs.polynomial_product.Goals as goal

four-known : (q c b : ℕ) → q ≡ 4 → c < q → b < q → InFour c b
four-known q c b e hc hb = in_four c (subst (λ q. c < q) e hc) b (subst (λ q. b < q) e hb)

eight-known : (q c b : ℕ) → q ≡ 8 → c < q → b < q → InEight c b
eight-known q c b e hc hb = in-eight c (subst (λ q. c < q) e hc) b (subst (λ q. b < q) e hb)

pub returns-then-q-eq4 : goal.returns-then-q-eq4
returns-then-q-eq4 c =
    let a = c.args in
    (four-known a.q a.c a.b c.if-q-eq4.true c.requires.1 c.requires.2).product ∙ ap (λ q. multiply q a.c a.b) (sym c.if-q-eq4.true)

pub overflow_mul-x-3 : goal.overflow_mul-x-3
overflow_mul-x-3 c = omega (arith, (eight-known c.args.q c.args.c c.args.b (eight _ c.requires.0 c.if-q-eq4.false) c.requires.1 c.requires.2).second)

pub overflow_mul-x-4 : goal.overflow_mul-x-4
overflow_mul-x-4 c = omega (arith, (eight-known c.args.q c.args.c c.args.b (eight _ c.requires.0 c.if-q-eq4.false) c.requires.1 c.requires.2).third)

pub overflow_mul-result-2 : goal.overflow_mul-result-2
overflow_mul-result-2 c = omega (arith, (eight-known c.args.q c.args.c c.args.b (eight _ c.requires.0 c.if-q-eq4.false) c.requires.1 c.requires.2).high)

pub returns : goal.returns
returns c = let a = c.args in (eight-known c.args.q c.args.c c.args.b (eight _ c.requires.0 c.if-q-eq4.false) c.requires.1 c.requires.2).product ∙ ap (λ q. multiply q a.c a.b) (sym (eight _ c.requires.0 c.if-q-eq4.false))
