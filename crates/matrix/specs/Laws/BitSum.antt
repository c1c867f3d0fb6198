-- A number given by its bits; no part of the meaning.
--   bits n b        == the number whose bit i is b i, for i below n
--   bits_below      == it is below 2^n
--   bits-low        == its j lowest bits are those of bits j b
--   bits-front      == its lowest bit, and the others
--   bits-split      == its bits from j on, and those below
--   bits_at         == its bit j is b j
--   bits_none       == without a bit it is 0
--   bits-or         == two such numbers joined bit by bit
--   bits-ones       == it has as many ones as b holds below n
-- Assumes nothing.
use Rattle.std.specs.Prelude.{◌≡◌, refl, Bool, true, false, ◌||◌, ℕ, zero, suc, ◌+◌, ◌*◌, ◌-◌, ◌^◌, ◌/◌, ◌%◌, ◌<◌, ◌≤◌}
use Rattle.std.proofs.Common.{ap, ap₂, ◌∙◌, sym, add_comm, zero-mul, mul-one, mul_comm, mul_left_comm, zero-lt-suc, add-sub_of_le, add-one, arith, pow-add}
use Rattle.std.proofs.Math.Nat.{pow-succ'}
use Rattle.std.proofs.Math.Arith.{digits_lt}
use Rattle.std.specs.Int.Bits.{bit_or}
use Rattle.std.proofs.lemmas.Nat.{or_block, ones_cat}
use Rattle.std.specs.Int.Count.{ones}
use Rattle.std.proofs.Math.Pow.{high, low, field}
use Rattle.basics.specs.Sum.{sum, bit}
use Rattle.basics.specs.Laws.SumLaws.{sum_same, sum_zeros, sum-front, sum-split, sum-times}

abbrev pub bits : ℕ → (ℕ → Bool) → ℕ
bits n b = sum n (λ i. bit (b i) * 2 ^ i)

bit_below : (b : Bool) → bit b < 2
bit_below true = omega arith
bit_below false = omega arith

bits-next : (n : ℕ) (b : ℕ → Bool) → bits (suc n) b ≡ bit (b n) * 2 ^ n + bits n b
unfolding sum
bits-next n b = add_comm (bits n b) (bit (b n) * 2 ^ n)

pub bits_below : (n : ℕ) (b : ℕ → Bool) → bits n b < 2 ^ n
unfolding sum
bits_below zero b = zero-lt-suc 0
bits_below (suc n) b = rw (pow-succ' 2 n, bits-next n b) (digits_lt (bit_below (b n)) (bits_below n b))

pub bits-front : (n : ℕ) (b : ℕ → Bool) → bits (suc n) b ≡ bit (b 0) + 2 * bits n (λ i. b (suc i))
bits-front n b =
    sum-front n (λ i. bit (b i) * 2 ^ i)
    ∙ ap₂ (λ x y. x + y) (mul-one (bit (b 0)))
    (sum_same n (λ i. bit (b (suc i)) * 2 ^ suc i) (λ i. 2 * (bit (b (suc i)) * 2 ^ i))
    (λ i h. rw (pow-succ' 2 i) (mul_left_comm (bit (b (suc i))) 2 (2 ^ i)))
    ∙ sum-times n 2 (λ i. bit (b (suc i)) * 2 ^ i))

pub bits-split : (j r : ℕ) (b : ℕ → Bool) → bits (j + r) b ≡ bits r (λ i. b (j + i)) * 2 ^ j + bits j b
bits-split j r b =
    sum-split j r (λ i. bit (b i) * 2 ^ i)
    ∙ add_comm (bits j b) (sum r (λ i. bit (b (j + i)) * 2 ^ (j + i)))
    ∙ ap (λ x. x + bits j b)
    (sum_same r (λ i. bit (b (j + i)) * 2 ^ (j + i)) (λ i. 2 ^ j * (bit (b (j + i)) * 2 ^ i))
    (λ i h. rw (pow-add 2 j i) (mul_left_comm (bit (b (j + i))) (2 ^ j) (2 ^ i)))
    ∙ sum-times r (2 ^ j) (λ i. bit (b (j + i)) * 2 ^ i)
    ∙ mul_comm (2 ^ j) (bits r (λ i. b (j + i))))

pub bits-low : (n j : ℕ) (b : ℕ → Bool) → j ≤ n → bits n b % 2 ^ j ≡ bits j b
bits-low n j b h =
    ap (λ x. bits x b % 2 ^ j) (sym (add-sub_of_le h))
    ∙ ap (λ x. x % 2 ^ j) (bits-split j (n - j) b)
    ∙ low (bits (n - j) (λ i. b (j + i))) j (bits_below j b)

pub bits_at : (n j : ℕ) (b : ℕ → Bool) → j < n → bits n b / 2 ^ j % 2 ≡ bit (b j)
bits_at n j b h =
    sym (field (bits n b) 1 j)
    ∙ ap (λ e. bits n b % 2 ^ e / 2 ^ j) (add_comm 1 j ∙ add-one j)
    ∙ ap (λ x. x / 2 ^ j) (bits-low n (suc j) b h ∙ bits-next j b)
    ∙ high (bit (b j)) j (bits_below j b)

pub bits_none : (n : ℕ) (b : ℕ → Bool) → ((j : ℕ) → j < n → b j ≡ false) → bits n b ≡ 0
bits_none n b h = sum_zeros n (λ i. bit (b i) * 2 ^ i) (λ i l. ap (λ t. bit t * 2 ^ i) (h i l) ∙ zero-mul (2 ^ i))

or-bit : (a b : Bool) → bit_or (bit a) (bit b) ≡ bit (a || b)
or-bit true true = refl
or-bit true false = refl
or-bit false b = refl

pub bits-or : (n : ℕ) (a b : ℕ → Bool) → bit_or (bits n a) (bits n b) ≡ bits n (λ j. a j || b j)
unfolding sum
bits-or zero a b = refl
bits-or (suc n) a b =
    ap₂ (λ x y. bit_or x y) (bits-next n a) (bits-next n b)
    ∙ or_block n (bit (a n)) (bit (b n)) (bits n a) (bits n b) (bits_below n a) (bits_below n b)
    ∙ ap₂ (λ x y. x * 2 ^ n + y) (or-bit (a n) (b n)) (bits-or n a b)
    ∙ sym (bits-next n (λ j. a j || b j))

ones_bit : (b : Bool) → ones (bit b) ≡ bit b
unfolding ones
ones_bit true = refl
ones_bit false = refl

pub bits-ones : (n : ℕ) (b : ℕ → Bool) → ones (bits n b) ≡ sum n (λ i. bit (b i))
unfolding sum ones
bits-ones zero b = refl
bits-ones (suc n) b =
    ap ones (bits-next n b)
    ∙ ones_cat n (bit (b n)) (bits n b) (bits_below n b)
    ∙ ap₂ (λ x y. x + y) (ones_bit (b n)) (bits-ones n b)
    ∙ add_comm (bit (b n)) (sum n (λ i. bit (b i)))
