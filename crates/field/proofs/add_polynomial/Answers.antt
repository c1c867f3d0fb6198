-- Polynomials are added bit by bit.
use Rattle.std.proofs.Common.{◌+◌, ◌%◌, ap, sym, ◌∙◌, arith}
use Rattle.std.specs.Int.Bits.{bit_xor}
use Rattle.basics.specs.Choice.{pick}
use Rattle.basics.specs.Laws.Choice.{is_true}
use Rattle.field.specs.Field.{is_polynomial, add as sum, multiply as product}
use Rattle.field.specs.Laws.Kinds.{polynomial-small}
use Rattle.field.proofs.Remainders.{product-exactly}
use Rattle.field.proofs.add_polynomial.Goals as goal

pub overflow_cast-result : goal.overflow_cast-result
overflow_cast-result c =
    let a = c.args in
    let r = c.requires in
    omega (arith, c.polynomial_product.ensures, (product-exactly a.q r.0 a.c r.1 a.b r.2).0, polynomial-small a.q r.0)

pub returns : goal.returns
unfolding sum
returns c =
    let a = c.args in
    let p = product a.q a.c a.b in
    ap (bit_xor a.a) c.polynomial_product.ensures
    ∙ sym (ap (λ x. pick x (bit_xor a.a p) ((a.a + p) % a.q)) (is_true (is_polynomial a.q) c.requires.0))
