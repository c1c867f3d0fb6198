-- By the test of the sizes whose elements are their own negatives.
use Rattle.std.proofs.Common.{◌-◌, ◌%◌, ap, sym, ◌∙◌, arith, mod-eq_of_lt, eq-eqb, ne_eqb}
use Rattle.std.proofs.Math.Nat.{mod_self, sub-zero}
use Rattle.basics.specs.Choice.{pick}
use Rattle.field.specs.Laws.Kinds.{negative-is}
use Rattle.field.specs.Laws.Small.{size_small}
use Rattle.field.proofs.negate.Goals as goal

pub returns-then-q-eq0 : goal.returns-then-q-eq0
returns-then-q-eq0 c =
    let a = c.args in
    sym (negative-is _ c.requires.0 _ c.requires.1 ∙ ap (λ x. pick x a.a ((a.q - a.a) % a.q)) (eq-eqb _ _ c.if-q-eq0.true))

pub returns-then-a-eq0 : goal.returns-then-a-eq0
returns-then-a-eq0 c =
    let a = c.args in
    sym
    (negative-is _ c.requires.0 _ c.requires.1
    ∙ ap (λ x. pick x a.a ((a.q - a.a) % a.q)) (ne_eqb _ _ c.if-q-eq0.false)
    ∙ ap (λ x. (a.q - x) % a.q) c.if-a-eq0.true
    ∙ ap (λ r. r % a.q) (sub-zero a.q)
    ∙ mod_self a.q)

pub overflow_cast-result : goal.overflow_cast-result
overflow_cast-result c = omega (arith, size_small c.args.q c.requires.0)

pub returns : goal.returns
returns c =
    let a = c.args in
    sym
    (negative-is _ c.requires.0 _ c.requires.1
    ∙ ap (λ x. pick x a.a ((a.q - a.a) % a.q)) (ne_eqb _ _ c.if-q-eq0.false)
    ∙ mod-eq_of_lt (omega (arith, c.requires.1, c.if-a-eq0.false)))
