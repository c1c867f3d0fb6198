-- The fields of polynomials: what tells their moduli from others, and their product as the code makes it; no part of the meaning.
--   t-squared-in-four, t-cubed-in-eight == t·t is t + 1 in the field of four, and t·t^2 in that of eight. The laws of a field do not tell
--                     the modulus: t^3 + t^2 + 1 obeys them too.
--   two_bits c b, three_bits c b == the product of polynomials of two and of three coefficients: for each bit of c, b times that bit's
--                     power of t
--   reduced_two c b, reduced_three c b == it reduced, as the code does it
--   InFour c b, InEight c b == what the code asks of it, and the product in the field that it finds
--   in_four, in-eight == all of it: computed tests over the elements
--   eight           == the field of polynomials that is not the one of four
--   one_more        == c·a is a + (c + 1)·a, as 1 + 1 is 0
-- Assumes nothing.
use Rattle.std.specs.Prelude.{◌≡◌, refl, [], ◌∷◌, ℕ, ◌+◌, ◌*◌, ◌/◌, ◌^◌, ◌<◌, T}
use Rattle.std.specs.Int.Bits.{bit_and, bit_xor}
use Rattle.basics.specs.Laws.Member.{member-next, member-last, for_each}
use Rattle.basics.specs.Laws.Test.{equal, below, always, ◌⊛◌, every_pair}
use Rattle.field.specs.Polynomial.{t, times, remainder}
use Rattle.field.specs.Field.{is_polynomial, add, multiply}

pub t-squared-in-four : multiply 4 t t ≡ t + 1
unfolding is_polynomial multiply times remainder
t-squared-in-four = refl

pub t-cubed-in-eight : multiply 8 t (t ^ 2) ≡ t + 1
unfolding is_polynomial multiply times remainder
t-cubed-in-eight = refl

abbrev pub two_bits : ℕ → ℕ → ℕ
two_bits c b = bit_xor (bit_and c 1 * b) (bit_and c 2 * b)

abbrev pub three_bits : ℕ → ℕ → ℕ
three_bits c b = bit_xor (two_bits c b) (bit_and c 4 * b)

-- reduced: four's t^2 is cleared by the modulus, and what stands from eight's t^3 on is added at t and at 1
abbrev pub reduced_two : ℕ → ℕ → ℕ
reduced_two c b = bit_xor (two_bits c b) (two_bits c b / 4 * 7)

abbrev pub reduced_three : ℕ → ℕ → ℕ
reduced_three c b = bit_xor (bit_xor (bit_and (three_bits c b) 7) (three_bits c b / 8)) (three_bits c b / 8 * 2)

pub record InFour (c b : ℕ) : Type 0 where
  pub first : bit_and c 1 * b < 64
  pub second : bit_and c 2 * b < 64
  pub high : two_bits c b / 4 < 64
  pub product : reduced_two c b ≡ multiply 4 c b

pub in_four : (c : ℕ) → c < 4 → (b : ℕ) → b < 4 → InFour c b
unfolding is_polynomial multiply times remainder
in_four =
    (every_pair 4 InFour
    (λ c b.
    always (λ f s h p. record { first = f; second = s; high = h; product = p })
    ⊛ below (bit_and c 1 * b) 64
    ⊛ below (bit_and c 2 * b) 64
    ⊛ below (two_bits c b / 4) 64
    ⊛ equal (reduced_two c b) (multiply 4 c b))
    ).shows tt

pub record InEight (c b : ℕ) : Type 0 where
  pub first : bit_and c 1 * b < 64
  pub second : bit_and c 2 * b < 64
  pub third : bit_and c 4 * b < 64
  pub high : three_bits c b / 8 < 64
  pub product : reduced_three c b ≡ multiply 8 c b

pub in-eight : (c : ℕ) → c < 8 → (b : ℕ) → b < 8 → InEight c b
unfolding is_polynomial multiply times remainder
in-eight =
    (every_pair 8 InEight
    (λ c b.
    always (λ f s t h p. record { first = f; second = s; third = t; high = h; product = p })
    ⊛ below (bit_and c 1 * b) 64
    ⊛ below (bit_and c 2 * b) 64
    ⊛ below (bit_and c 4 * b) 64
    ⊛ below (three_bits c b / 8) 64
    ⊛ equal (reduced_three c b) (multiply 8 c b))
    ).shows tt

pub eight : (q : ℕ) → T (is_polynomial q) → (q ≡ 4 → ⊥) → q ≡ 8
unfolding is_polynomial
eight q size other = member-last q 8 (member-next q 4 (8 ∷ []) size other)

pub one_more : (q : ℕ) → T (is_polynomial q) → (c : ℕ) → c < q → (a : ℕ) → a < q
    → (bit_xor c 1 < q) × (add q a (multiply q (bit_xor c 1) a) ≡ multiply q c a)
unfolding is_polynomial add multiply times remainder
one_more =
    (for_each (λ q. (c : ℕ) → c < q → (a : ℕ) → a < q → (bit_xor c 1 < q) × (add q a (multiply q (bit_xor c 1) a) ≡ multiply q c a))
    (λ q.
    every_pair q (λ c a. (bit_xor c 1 < q) × (add q a (multiply q (bit_xor c 1) a) ≡ multiply q c a))
    (λ c a.
    always (λ small same. (small, same))
    ⊛ below (bit_xor c 1) q
    ⊛ equal (add q a (multiply q (bit_xor c 1) a)) (multiply q c a)))
    (4 ∷ 8 ∷ [])).shows tt
