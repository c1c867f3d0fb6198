-- The six field sizes obey the laws: one test over all elements, with q a parameter, run at each size.
--   laws   == Laws q for every field size q
-- Assumes nothing.
use Rattle.std.specs.Prelude.{◌≡◌, ℕ, ◌<◌, T}
use Rattle.basics.specs.Laws.Member.{for_each}
use Rattle.basics.specs.Laws.Test.{Test, equal, below, always, ◌⊛◌, unless-zero, every, every_pair, every_triple}
use Rattle.field.specs.Polynomial.{times, remainder}
use Rattle.field.specs.Field.{field_sizes, is_field_size, is_polynomial, add, multiply, negate, invert, least_from}
use Rattle.field.specs.FieldLaws.{Laws}

-- the test over all elements below q
laws_test : (q : ℕ) → Test (Laws q)
laws_test q =
    always
    (λ one add-b mul-b neg-b inv-b add-c add_a add-z add-n mul-c mul-a mul-o mul-z dis mul-i.
    record {
      one_below = one;
      add-below = add-b;
      multiply-below = mul-b;
      negate-below = neg-b;
      invert-below = inv-b;
      add_comm = add-c;
      add_assoc = add_a;
      add-zero = add-z;
      add-negate = add-n;
      multiply-comm = mul-c;
      multiply-assoc = mul-a;
      multiply-one = mul-o;
      multiply-zero = mul-z;
      distribute = dis;
      multiply-invert = mul-i;
    })
    ⊛ below 1 q
    ⊛ every_pair q (λ a b. add q a b < q) (λ a b. below (add q a b) q)
    ⊛ every_pair q (λ a b. multiply q a b < q) (λ a b. below (multiply q a b) q)
    ⊛ every (λ a. negate q a < q) (λ a. below (negate q a) q) q
    ⊛ every (λ a. invert q a < q) (λ a. below (invert q a) q) q
    ⊛ every_pair q (λ a b. add q a b ≡ add q b a) (λ a b. equal (add q a b) (add q b a))
    ⊛ every_triple q (λ a b c. add q (add q a b) c ≡ add q a (add q b c)) (λ a b c. equal (add q (add q a b) c) (add q a (add q b c)))
    ⊛ every (λ a. add q a 0 ≡ a) (λ a. equal (add q a 0) a) q
    ⊛ every (λ a. add q a (negate q a) ≡ 0) (λ a. equal (add q a (negate q a)) 0) q
    ⊛ every_pair q (λ a b. multiply q a b ≡ multiply q b a) (λ a b. equal (multiply q a b) (multiply q b a))
    ⊛ every_triple q (λ a b c. multiply q (multiply q a b) c ≡ multiply q a (multiply q b c))
    (λ a b c. equal (multiply q (multiply q a b) c) (multiply q a (multiply q b c)))
    ⊛ every (λ a. multiply q a 1 ≡ a) (λ a. equal (multiply q a 1) a) q
    ⊛ every (λ a. multiply q a 0 ≡ 0) (λ a. equal (multiply q a 0) 0) q
    ⊛ every_triple q (λ a b c. multiply q a (add q b c) ≡ add q (multiply q a b) (multiply q a c))
    (λ a b c. equal (multiply q a (add q b c)) (add q (multiply q a b) (multiply q a c)))
    ⊛ every (λ a. 0 < a → multiply q a (invert q a) ≡ 1)
    (λ a. unless-zero a (multiply q a (invert q a) ≡ 1) (equal (multiply q a (invert q a)) 1)) q

pub laws : (q : ℕ) → T (is_field_size q) → Laws q
unfolding is_field_size laws_test is_polynomial times remainder add multiply negate invert least_from
laws = (for_each Laws laws_test field_sizes).shows tt
