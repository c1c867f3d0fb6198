-- Laws of sums.
--   sum_same  == terms that agree have the same sum
--   sum_zeros == terms that are 0 sum to 0
--   sum-split == a sum is the sum of its first a terms and of the b after them
--   sum-front == a sum is its first term and the others
--   sum-times == a factor of every term is one of the sum
--   sum-units == terms that are 1 sum to their number
-- Assumes nothing.
use Rattle.std.specs.Prelude.{◌≡◌, refl, ℕ, zero, suc, ◌+◌, ◌*◌, ◌<◌}
use Rattle.std.proofs.Common.{ap, ap₂, ◌∙◌, sym, add-zero, zero-add, add-suc, add_assoc, mul-zero, mul-add, le_refl, add-one, arith}
use Rattle.basics.specs.Sum.{sum}

pub sum_same : (n : ℕ) (f g : ℕ → ℕ) → ((i : ℕ) → i < n → f i ≡ g i) → sum n f ≡ sum n g
unfolding sum
sum_same zero f g h = refl
sum_same (suc n) f g h = ap₂ (λ a b. a + b) (sum_same n f g (λ i l. h i (omega arith))) (h n (le_refl (suc n)))

pub sum_zeros : (n : ℕ) (f : ℕ → ℕ) → ((i : ℕ) → i < n → f i ≡ 0) → sum n f ≡ 0
unfolding sum
sum_zeros zero f h = refl
sum_zeros (suc n) f h = ap₂ (λ a b. a + b) (sum_zeros n f (λ i l. h i (omega arith))) (h n (le_refl (suc n)))

pub sum-units : (n : ℕ) (f : ℕ → ℕ) → ((i : ℕ) → i < n → f i ≡ 1) → sum n f ≡ n
unfolding sum
sum-units zero f h = refl
sum-units (suc n) f h =
    ap₂ (λ a b. a + b) (sum-units n f (λ i l. h i (omega arith))) (h n (le_refl (suc n))) ∙ add-one n

pub sum-split : (a b : ℕ) (f : ℕ → ℕ) → sum (a + b) f ≡ sum a f + sum b (λ i. f (a + i))
unfolding sum
sum-split a zero f = rw (add-zero a, add-zero)
sum-split a (suc b) f =
    ap (λ x. sum x f) (add-suc a b) ∙ ap (λ x. x + f (a + b)) (sum-split a b f) ∙ add_assoc (sum a f) (sum b (λ i. f (a + i))) (f (a + b))

pub sum-front : (n : ℕ) (f : ℕ → ℕ) → sum (suc n) f ≡ f 0 + sum n (λ i. f (suc i))
unfolding sum
sum-front zero f = rw (zero-add, add-zero)
sum-front (suc n) f = ap (λ x. x + f (suc n)) (sum-front n f) ∙ add_assoc (f 0) (sum n (λ i. f (suc i))) (f (suc n))

pub sum-times : (n a : ℕ) (f : ℕ → ℕ) → sum n (λ i. a * f i) ≡ a * sum n f
unfolding sum
sum-times zero a f = rw mul-zero
sum-times (suc n) a f = ap (λ x. x + a * f n) (sum-times n a f) ∙ sym (mul-add a (sum n f) (f n))
