-- More laws of sums.
--   sum-add      == the sum of two sequences, term by term
--   sum-longer   == terms that are 0 from a on do not change the sum
--   range_none   == no term stands in an empty range
--   range_front, range_last == a range's first, or last, term stands apart
--   range-shift  == a range moved by one
--   range_same   == terms that agree in the range have the same sum
--   sum-range    == the terms up to b are the ones before a, the one at a and the ones after it
--   sum-le       == a sum is at most a longer one
--   range-rest   == a term of a range and the ones after it are at most the range's sum
-- Assumes nothing.
use Rattle.std.specs.Prelude.{◌≡◌, refl, ℕ, zero, suc, ◌+◌, ◌-◌, ◌<◌, ◌≤◌}
use Rattle.std.proofs.Common.{ap, ap₂, ◌∙◌, sym, subst, add-zero, suc-add, add-sub_of_le, le-add_right, arith}
use Rattle.std.proofs.Math.Nat.{suc-sub-suc}
use Rattle.basics.specs.Sum.{sum, sum_range}
use Rattle.basics.specs.Laws.SumLaws.{sum_same, sum_zeros, sum-split, sum-front}

pub sum-add : (n : ℕ) (f g : ℕ → ℕ) → sum n (λ i. f i + g i) ≡ sum n f + sum n g
unfolding sum
sum-add zero f g = refl
sum-add (suc n) f g = ap (λ x. x + (f n + g n)) (sum-add n f g) ∙ shuffle (sum n f) (sum n g) (f n) (g n)
  where
    shuffle : (a b c d : ℕ) → a + b + (c + d) ≡ a + c + (b + d)
    shuffle a b c d = omega arith

pub sum-longer : (a b : ℕ) (f : ℕ → ℕ) → a ≤ b → ((i : ℕ) → a ≤ i → f i ≡ 0) → sum b f ≡ sum a f
sum-longer a b f h z =
    ap (λ x. sum x f) (sym (add-sub_of_le h))
    ∙ sum-split a (b - a) f
    ∙ ap (λ x. sum a f + x) (sum_zeros (b - a) (λ i. f (a + i)) (λ i _. z (a + i) (omega arith)))
    ∙ add-zero (sum a f)

pub range_none : (a b : ℕ) (f : ℕ → ℕ) → b < a → sum_range a b f ≡ 0
unfolding sum_range sum
range_none a b f h = let e : suc b - a ≡ 0 = omega arith in rw e

pub range_same : (a b : ℕ) (f g : ℕ → ℕ) → ((i : ℕ) → a ≤ i → i ≤ b → f i ≡ g i) → sum_range a b f ≡ sum_range a b g
unfolding sum_range
range_same a b f g h = sum_same (suc b - a) (λ i. f (a + i)) (λ i. g (a + i)) (λ i l. h (a + i) (omega arith) (omega arith))

pub range_last : (a b : ℕ) (f : ℕ → ℕ) → a ≤ suc b → sum_range a (suc b) f ≡ sum_range a b f + f (suc b)
unfolding sum_range sum
range_last a b f h =
    let e : suc (suc b) - a ≡ suc (suc b - a) = omega arith in
    let g : a + (suc b - a) ≡ suc b = omega arith in
    rw e (ap (λ x. sum (suc b - a) (λ i. f (a + i)) + f x) g)

pub range_front : (a b : ℕ) (f : ℕ → ℕ) → a ≤ b → sum_range a b f ≡ f a + sum_range (suc a) b f
unfolding sum_range
range_front a b f h =
    let e : suc b - a ≡ suc (b - a) = omega arith in
    let g : suc b - suc a ≡ b - a = omega arith in
    rw (e, g)
    (sum-front (b - a) (λ i. f (a + i))
    ∙ ap₂ (λ x y. x + y) (ap f (add-zero a)) (sum_same (b - a) (λ i. f (a + suc i)) (λ i. f (suc a + i)) (λ i _. ap f (omega arith))))

pub sum-range : (a b : ℕ) (f : ℕ → ℕ) → a ≤ b → sum (suc b) f ≡ sum a f + f a + sum_range (suc a) b f
unfolding sum_range sum
sum-range a b f h =
    let e : suc b ≡ suc a + (b - a) = omega arith in
    let g : suc b - suc a ≡ b - a = omega arith in
    rw g (ap (λ x. sum x f) e ∙ sum-split (suc a) (b - a) f)

pub range-shift : (a b : ℕ) (f : ℕ → ℕ) → sum_range (suc a) (suc b) f ≡ sum_range a b (λ i. f (suc i))
unfolding sum_range
range-shift a b f =
    rw (suc-sub-suc (suc b) a) (sum_same (suc b - a) (λ i. f (suc a + i)) (λ i. f (suc (a + i))) (λ i _. ap f (suc-add a i)))

pub sum-le : (a b : ℕ) (f : ℕ → ℕ) → a ≤ b → sum a f ≤ sum b f
sum-le a b f h =
    subst (λ x. sum a f ≤ sum x f) (add-sub_of_le h)
    (rw (sum-split a (b - a) f) (le-add_right (sum a f) (sum (b - a) (λ i. f (a + i)))))

pub range-rest : (a z b : ℕ) (f : ℕ → ℕ) → a < z → z ≤ b → f z + sum_range (suc z) b f ≤ sum_range (suc a) b f
unfolding sum
range-rest a z b f h l = omega (arith, sum-range a b f (omega arith), sum-range z b f l, sum-le (suc a) z f h)
