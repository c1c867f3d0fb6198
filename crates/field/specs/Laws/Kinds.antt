-- The kinds of field sizes: 2, the odd ones, and those of polynomials. Computed tests over the six.
--   odd_sizes        == the odd ones
--   odd-size        == a size that is not 2 and not one of polynomials is odd
--   last-odd        == the odd size that is neither 3 nor 5
--   is_even q        == the test by which the code tells the even sizes, and not-even == the others
--   last-even       == the even size that is neither 2 nor 4
--   element_bits q   == the number of zeros behind the highest bit of q, where q is even the bits of an element
--   even-bits       == then it is small, and q is 2 to it
--   by-four         == the sizes of polynomials are those that 4 divides
--   own_negative q   == the test by which the code tells where an element is its own negative
--   negative-is     == where it says so, it is, and elsewhere the negative is q less the element
--   polynomial-small == where the elements are polynomials, q is at most 8
-- Assumes nothing.
use Rattle.std.specs.Prelude.{◌≡◌, Bool, false, not, List, [], ◌∷◌, ℕ, ◌-◌, ◌%◌, ◌^◌, ◌<◌, T, eqb}
use Rattle.std.proofs.Common.{ap, eq-eqb, ne_eqb}
use Rattle.std.specs.Int.Count.{count_trailing_zeros}
use Rattle.basics.specs.Choice.{pick}
use Rattle.basics.specs.Laws.Choice.{holds}
use Rattle.basics.specs.Member.{member}
use Rattle.basics.specs.Laws.Member.{member-next, member-last, for_each}
use Rattle.basics.specs.Laws.Test.{Test, equal, below, same, always, ◌⊛◌, decided, whenever, every}
use Rattle.field.specs.Field.{field_sizes, is_field_size, is_polynomial, add, negate, least_from}

abbrev pub odd_sizes : List ℕ
odd_sizes = 3 ∷ 5 ∷ 7 ∷ []

other-sizes : (q : ℕ) → T (is_field_size q) → T (not (is_polynomial q)) → T (not (eqb q 2)) → T (member q odd_sizes)
unfolding is_field_size is_polynomial
other-sizes =
    (for_each (λ q. T (not (is_polynomial q)) → T (not (eqb q 2)) → T (member q odd_sizes))
    (λ q.
    whenever (not (is_polynomial q)) (T (not (eqb q 2)) → T (member q odd_sizes))
    (whenever (not (eqb q 2)) (T (member q odd_sizes)) (decided (member q odd_sizes))))
    field_sizes).shows tt

pub odd-size : (q : ℕ) → T (is_field_size q) → is_polynomial q ≡ false → (q ≡ 2 → ⊥) → T (member q odd_sizes)
odd-size q size number other = other-sizes q size (holds _ (ap not number)) (holds _ (ap not (ne_eqb q 2 other)))

pub last-odd : (q : ℕ) → T (member q odd_sizes) → (q ≡ 3 → ⊥) → (q ≡ 5 → ⊥) → q ≡ 7
last-odd q size three five = member-last q 7 (member-next q 5 (7 ∷ []) (member-next q 3 (5 ∷ 7 ∷ []) size three) five)

abbrev pub is_even : ℕ → Bool
is_even q = eqb (q % 2) 0

uneven : (q : ℕ) → T (is_field_size q) → T (not (is_even q)) → T (member q odd_sizes)
unfolding is_field_size
uneven =
    (for_each (λ q. T (not (is_even q)) → T (member q odd_sizes))
    (λ q. whenever (not (is_even q)) (T (member q odd_sizes)) (decided (member q odd_sizes))) field_sizes).shows tt

pub not-even : (q : ℕ) → T (is_field_size q) → (q % 2 ≡ 0 → ⊥) → T (member q odd_sizes)
not-even q size odd = uneven q size (holds _ (ap not (ne_eqb (q % 2) 0 odd)))

abbrev even_sizes : List ℕ
even_sizes = 2 ∷ 4 ∷ 8 ∷ []

even-size : (q : ℕ) → T (is_field_size q) → T (is_even q) → T (member q even_sizes)
unfolding is_field_size
even-size =
    (for_each (λ q. T (is_even q) → T (member q even_sizes)) (λ q. whenever (is_even q) (T (member q even_sizes)) (decided (member q even_sizes)))
    field_sizes).shows tt

pub last-even : (q : ℕ) → T (is_field_size q) → q % 2 ≡ 0 → (q ≡ 2 → ⊥) → (q ≡ 4 → ⊥) → q ≡ 8
last-even q size even two four =
    member-last q 8 (member-next q 4 (8 ∷ []) (member-next q 2 (4 ∷ 8 ∷ []) (even-size q size (holds _ (eq-eqb (q % 2) 0 even))) two) four)

abbrev pub element_bits : ℕ → ℕ
element_bits q = count_trailing_zeros 64 q

abbrev pub EvenBits : ℕ → Type 0
EvenBits q = (element_bits q < 4) × (2 ^ element_bits q ≡ q)

bits_test : (q : ℕ) → Test (EvenBits q)
bits_test q = always (λ small power. (small, power)) ⊛ below (element_bits q) 4 ⊛ equal (2 ^ element_bits q) q

bits_of : (q : ℕ) → T (is_field_size q) → T (is_even q) → EvenBits q
unfolding is_field_size bits_test count_trailing_zeros
bits_of = (for_each (λ q. T (is_even q) → EvenBits q) (λ q. whenever (is_even q) (EvenBits q) (bits_test q)) field_sizes).shows tt

pub even-bits : (q : ℕ) → T (is_field_size q) → q % 2 ≡ 0 → EvenBits q
even-bits q size even = bits_of q size (holds _ (eq-eqb (q % 2) 0 even))

pub by-four : (q : ℕ) → T (is_field_size q) → eqb (q % 4) 0 ≡ is_polynomial q
unfolding is_field_size is_polynomial
by-four = (for_each (λ q. eqb (q % 4) 0 ≡ is_polynomial q) (λ q. same (eqb (q % 4) 0) (is_polynomial q)) field_sizes).shows tt

pub polynomial-small : (q : ℕ) → T (is_polynomial q) → q < 9
unfolding is_polynomial
polynomial-small = (for_each (λ q. q < 9) (λ q. below q 9) (4 ∷ 8 ∷ [])).shows tt

abbrev pub own_negative : ℕ → Bool
own_negative q = eqb (q % 4) 0

pub negative-is : (q : ℕ) → T (is_field_size q) → (a : ℕ) → a < q → negate q a ≡ pick (own_negative q) a ((q - a) % q)
unfolding is_field_size is_polynomial add negate least_from
negative-is =
    (for_each (λ q. (a : ℕ) → a < q → negate q a ≡ pick (own_negative q) a ((q - a) % q))
    (λ q.
    every (λ a. negate q a ≡ pick (own_negative q) a ((q - a) % q)) (λ a. equal (negate q a) (pick (own_negative q) a ((q - a) % q))) q)
    field_sizes).shows tt
