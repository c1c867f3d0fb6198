-- The product in a field of polynomials without the division: computed tests over the two fields.
--   Leaves q a b r  == the product of the polynomials a and b and the number r differ by a multiple of the modulus
--   product-exactly == of the numbers below q that is so of the product in the field, and of no other
-- Assumes nothing.
use Rattle.std.specs.Prelude.{◌≡◌, [], ◌∷◌, ℕ, ◌<◌, T, eqb}
use Rattle.std.proofs.Common.{eq-eqb}
use Rattle.std.specs.Int.Bits.{bit_xor}
use Rattle.basics.specs.Laws.Choice.{holds}
use Rattle.basics.specs.Laws.Member.{for_each}
use Rattle.basics.specs.Laws.Test.{equal, below, always, ◌⊛◌, whenever, every_pair}
use Rattle.field.specs.Polynomial.{times, remainder}
use Rattle.field.specs.Field.{is_polynomial, modulus, degree, multiply, least_from}

abbrev pub Leaves : ℕ → ℕ → ℕ → ℕ → Type 0
Leaves q a b r = (u : ℕ) × (u < q) × (times (degree q) a b ≡ bit_xor (times (degree q) u (modulus q)) r)

-- the multiple is searched for
unfoldable factor : ℕ → ℕ → ℕ → ℕ
factor q a b =
    least_from (λ u. eqb (times (degree q) a b) (bit_xor (times (degree q) u (modulus q)) (multiply q a b))) 0 q

found : (q : ℕ) → T (is_polynomial q) → (a : ℕ) → a < q → (b : ℕ) → b < q → (multiply q a b < q) × Leaves q a b (multiply q a b)
unfolding is_polynomial multiply times remainder least_from factor
found =
    (for_each (λ q. (a : ℕ) → a < q → (b : ℕ) → b < q → (multiply q a b < q) × Leaves q a b (multiply q a b))
    (λ q.
    every_pair q (λ a b. (multiply q a b < q) × Leaves q a b (multiply q a b))
    (λ a b.
    always (λ small inside e. (small, (factor q a b, inside, e)))
    ⊛ below (multiply q a b) q
    ⊛ below (factor q a b) q
    ⊛ equal (times (degree q) a b) (bit_xor (times (degree q) (factor q a b) (modulus q)) (multiply q a b))))
    (4 ∷ 8 ∷ [])).shows tt

abbrev Only : ℕ → ℕ → ℕ → ℕ → ℕ → Type 0
Only q a b u r = T (eqb (times (degree q) a b) (bit_xor (times (degree q) u (modulus q)) r)) → r ≡ multiply q a b

only : (q : ℕ) → T (is_polynomial q) → (a : ℕ) → a < q → (b : ℕ) → b < q → (u : ℕ) → u < q → (r : ℕ) → r < q → Only q a b u r
unfolding is_polynomial multiply times remainder
only =
    (for_each (λ q. (a : ℕ) → a < q → (b : ℕ) → b < q → (u : ℕ) → u < q → (r : ℕ) → r < q → Only q a b u r)
    (λ q.
    every_pair q (λ a b. (u : ℕ) → u < q → (r : ℕ) → r < q → Only q a b u r)
    (λ a b.
    every_pair q (Only q a b)
    (λ u r.
    whenever (eqb (times (degree q) a b) (bit_xor (times (degree q) u (modulus q)) r)) (r ≡ multiply q a b) (equal r (multiply q a b)))))
    (4 ∷ 8 ∷ [])).shows tt

pub product-exactly : (q : ℕ) → T (is_polynomial q) → (a : ℕ) → a < q → (b : ℕ) → b < q
    → (multiply q a b < q) × Leaves q a b (multiply q a b) × ((r : ℕ) → r < q → Leaves q a b r → r ≡ multiply q a b)
product-exactly q size a ha b hb =
    let f = found q size a ha b hb in
    (f.0, f.1, λ r hr l. only q size a ha b hb l.0 l.1 r hr (holds _ (eq-eqb _ _ l.2)))
