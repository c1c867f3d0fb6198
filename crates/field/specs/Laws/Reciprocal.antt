-- The remainder by q without a division: computed tests over the field sizes; no part of the meaning.
--   in_two           == modulo 2 a product is that of the bits, and a sum is taken bit by bit
--   quotient         == below q·q the reciprocal of q, 256 divided by q and rounded up, gives the quotient by q
--   Reciprocal q x r == what the code asks of x and the reciprocal r, and the remainder that it finds
--   by_reciprocal    == all of it, for x below q·q
--   sum-reciprocal   == and so for a + c·b of elements
-- Assumes nothing.
use Rattle.std.specs.Prelude.{◌≡◌, ℕ, suc, ◌+◌, ◌*◌, ◌-◌, ◌/◌, ◌%◌, ◌<◌, ◌≤◌, T}
use Rattle.std.proofs.Common.{ap, ◌∙◌, mul-le-mul, mul-le-mul_left, mul-le-mul_right, div-le_self, div-add-mod', arith}
use Rattle.std.specs.Int.Bits.{bit_and, bit_xor}
use Rattle.basics.specs.Laws.Member.{for_each}
use Rattle.basics.specs.Laws.Test.{equal, every, every_triple}
use Rattle.field.specs.Field.{field_sizes, is_field_size, is_polynomial, add, multiply}
use Rattle.field.specs.Laws.Small.{size_small}

pub in_two : (a : ℕ) → a < 2 → (c : ℕ) → c < 2 → (b : ℕ) → b < 2 → bit_xor a (bit_and c b) ≡ add 2 a (multiply 2 c b)
unfolding is_polynomial add multiply
in_two =
    (every_triple 2 (λ a c b. bit_xor a (bit_and c b) ≡ add 2 a (multiply 2 c b))
    (λ a c b. equal (bit_xor a (bit_and c b)) (add 2 a (multiply 2 c b)))).shows tt

quotient : (q : ℕ) → T (is_field_size q) → (x : ℕ) → x < q * q → x * (255 / q + 1) / 256 ≡ x / q
unfolding is_field_size
quotient =
    (for_each (λ q. (x : ℕ) → x < q * q → x * (255 / q + 1) / 256 ≡ x / q)
    (λ q. every (λ x. x * (255 / q + 1) / 256 ≡ x / q) (λ x. equal (x * (255 / q + 1) / 256) (x / q)) (q * q)) field_sizes).shows tt

pub record Reciprocal (q x r : ℕ) : Type 0 where
  pub small : x < 64
  pub product : x * r < 65536
  pub below : x * r / 256 * q ≤ x
  pub remainder : x - x * r / 256 * q ≡ x % q

by_reciprocal : (q x r : ℕ) → T (is_field_size q) → x < q * q → r ≡ 255 / q + 1 → Reciprocal q x r
by_reciprocal q x r t h e =
    let s = size_small q t in
    let squares : q * q ≤ 64 = mul-le-mul {n₁ = q} {m₁ = q} {n₂ = 8} {m₂ = 8} s.1 s.1 in
    let products : x * r ≤ 16384 = mul-le-mul {n₁ = x} {m₁ = r} {n₂ = 64} {m₂ = 256} (omega arith) (omega (arith, div-le_self 255 q)) in
    let same : x * r / 256 * q ≡ x / q * q = ap (λ y. x * y / 256 * q) e ∙ ap (λ y. y * q) (quotient q t x h) in
    let whole : x / q * q + x % q ≡ x = div-add-mod' x q in
    record {
      small = omega arith;
      product = omega arith;
      below = omega arith;
      remainder = omega arith;
    }

sum_below : (q a c b : ℕ) → a < q → c < q → b < q → a + c * b < q * q
sum_below q a c b ha hc hb = omega (arith, mul-le-mul_right {m = suc c} {n = q} b hc, mul-le-mul_left {m = suc b} {n = q} q hb)

pub sum-reciprocal : (q a c b r : ℕ) → T (is_field_size q) × (a < q) × (c < q) × (b < q) → r ≡ 255 / q + 1 → Reciprocal q (a + c * b) r
sum-reciprocal q a c b r p e = by_reciprocal q (a + c * b) r p.0 (sum_below q a c b p.1 p.2 p.3) e
