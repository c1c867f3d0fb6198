-- Polynomials whose coefficients are bits, as numbers. Order 7: "An entry's bits are the coefficients of a polynomial, lowest bit the
-- constant".
--   t                       == the polynomial t, as a number; and so t^2 + t + 1 is 7
--   times w a b             == the product of a and b, where a has at most w coefficients
--   remainder modulus d m x == x "reduced by" a modulus of degree d, where x has at most d + m coefficients: what long division leaves
-- Assumes nothing.
use Rattle.std.specs.Prelude.{ℕ, zero, suc, ◌+◌, ◌*◌, ◌/◌, ◌%◌, ◌^◌}
use Rattle.std.specs.Int.Bits.{bit_xor}

abbrev pub t : ℕ
t = 2

-- a is its constant and t times its other coefficients, and so a·b is the constant times b and t times what these give with b
unfoldable pub times : ℕ → ℕ → ℕ → ℕ
times zero a b = 0
times (suc w) a b = bit_xor (a % t * b) (t * times w (a / t) b)

-- the coefficients from the highest down to that of t^d are cleared, each that is 1 by the modulus with its highest coefficient there
unfoldable pub remainder : ℕ → ℕ → ℕ → ℕ → ℕ
remainder modulus d zero x = x
remainder modulus d (suc m) x = remainder modulus d m (bit_xor x (x / t ^ (d + m) % t * (modulus * t ^ m)))
