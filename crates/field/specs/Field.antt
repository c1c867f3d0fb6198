-- The field with q elements. Document 01: "q is the field size: 2, 3, 5 or 7, with arithmetic modulo q." Order 7: "Add q = 4 and q = 8.
-- An entry's bits are the coefficients of a polynomial, lowest bit the constant; addition is bit by bit, and products are reduced by
-- t^2 + t + 1 for four and t^3 + t + 1 for eight."
--   field_sizes      == the six sizes; a table's part for a size stands at the size's place in this list
--   is_field_size q   == the test that q is one of them
--   is_polynomial q  == the test that the elements are polynomials: q is 4 or 8
--   modulus q, degree q == what their products are reduced by, and its degree
--   add q a b, multiply q a b == sum and product
--   negate q a      == the least number below q whose sum with a is 0; 0 where there is none
--   invert q a      == the least number below q whose product with a is 1; 0 where there is none
-- Assumes nothing.
use Rattle.std.specs.Prelude.{Bool, List, [], ◌∷◌, ℕ, zero, suc, ◌+◌, ◌*◌, ◌%◌, ◌^◌, eqb}
use Rattle.std.specs.Int.Bits.{bit_xor}
use Rattle.basics.specs.Choice.{pick}
use Rattle.basics.specs.Member.{member}
use Rattle.field.specs.Polynomial.{t, times, remainder}

abbrev pub field_sizes : List ℕ
field_sizes = 2 ∷ 3 ∷ 4 ∷ 5 ∷ 7 ∷ 8 ∷ []

unfoldable pub is_field_size : ℕ → Bool
is_field_size q = member q field_sizes

unfoldable pub is_polynomial : ℕ → Bool
is_polynomial q = member q (4 ∷ 8 ∷ [])

abbrev pub modulus : ℕ → ℕ
modulus q = pick (eqb q 4) (t ^ 2 + t + 1) (t ^ 3 + t + 1)

abbrev pub degree : ℕ → ℕ
degree q = pick (eqb q 4) 2 3

unfoldable pub add : ℕ → ℕ → ℕ → ℕ
add q a b = pick (is_polynomial q) (bit_xor a b) ((a + b) % q)

unfoldable pub multiply : ℕ → ℕ → ℕ → ℕ
multiply q a b = pick (is_polynomial q) (remainder (modulus q) (degree q) (degree q) (times (degree q) a b)) (a * b % q)

-- the least of the numbers b, b+1, .. , as many as `left` says, that passes the test
unfoldable pub least_from : (ℕ → Bool) → ℕ → ℕ → ℕ
least_from test b zero = 0
least_from test b (suc left) = pick (test b) b (least_from test (suc b) left)

unfoldable pub negate : ℕ → ℕ → ℕ
negate q a = least_from (λ b. eqb (add q a b) 0) 0 q

unfoldable pub invert : ℕ → ℕ → ℕ
invert q a = least_from (λ b. eqb (multiply q a b) 1) 0 q
