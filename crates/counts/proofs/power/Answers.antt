-- `counts::power`: a shift for the even sizes, and the list of the others, which a power within 64 bits never leaves.
use Rattle.std.proofs.Common.{T, ◌%◌, ◌≡◌, refl, ℕ, ◌+◌, ◌*◌, ◌^◌, ◌<◌, ◌≤◌, length, get_or, ap, subst, ◌∙◌, sym, one-mul, zero-add, arith, lit<}
use Rattle.std.proofs.Math.Pow.{shl_exact}
use Rattle.basics.specs.Sum.{sum}
use Rattle.field.specs.Laws.Kinds.{odd_sizes, element_bits, even-bits, not-even, last-odd}
use Rattle.field.specs.Field.{is_field_size}
use Rattle.counts.specs.Gaussian.{greatest_count}
use Rattle.counts.specs.Laws.Powers.{powers, power_base, power_count, power_at, power-shift, exponent-below}
use Rattle.counts.proofs.power.Goals as goal

-- what the list of powers answers for the odd size s, which stands after t others
found : (t s q m r : ℕ) → power_base t ≡ s → q ≡ s → 1 ≤ s → t < length odd_sizes → greatest_count < s ^ power_count t → q ^ m ≤ greatest_count
    → r ≡ get_or powers (sum t power_count + m) 0 → r ≡ q ^ m
found t s q m r base same positive known last small e =
    let inside : s ^ m ≤ greatest_count = subst (λ x. x ^ m ≤ greatest_count) same small in
    e ∙ power_at t m known (exponent-below s (power_count t) m positive last inside) ∙ ap (λ x. x ^ m) (base ∙ sym same)

-- the shift that makes the power
shifted : (q d m : ℕ) → T (is_field_size q) → q % 2 ≡ 0 → d ≡ element_bits q → q ^ m ≤ greatest_count → (d * m < 64) × (2 ^ (d * m) ≡ q ^ m)
shifted q d m size even is small = power-shift q d m (sym (ap (λ x. 2 ^ x) is ∙ (even-bits q size even).1)) small

pub overflow_shl-result : goal.overflow_shl-result
overflow_shl-result c = (shifted c.args.q c.bits.result c.args.m c.requires.0 c.if-q-eq0.true c.bits.ensures c.requires.2).0

pub returns-then-q-eq0 : goal.returns-then-q-eq0
returns-then-q-eq0 c =
    let (inside, same) = shifted c.args.q c.bits.result c.args.m c.requires.0 c.if-q-eq0.true c.bits.ensures c.requires.2 in
    let e = c.bits.result * c.args.m in
    shl_exact {a = 1} 1 e 64 (lit< tt) (omega arith) ∙ one-mul (2 ^ e) ∙ same

pub returns-in-3 : goal.returns-in-3
unfolding sum
returns-in-3 c =
    found 0 3 _ _ _ refl c.in-3.is (omega arith) (lit< tt) (lit< tt) c.requires.2
    (c.power.ensures ∙ ap (λ i. get_or powers i 0) (sym (zero-add _)))

pub returns-in-5 : goal.returns-in-5
unfolding sum
returns-in-5 c =
    found 1 5 _ _ _ refl c.in-5.is (omega arith) (lit< tt) (lit< tt) c.requires.2 c.power-in-5.ensures

pub returns-in_default : goal.returns-in_default
unfolding sum
returns-in_default c =
    let seven : c.args.q ≡ 7 = last-odd _ (not-even _ c.requires.0 c.if-q-eq0.false) (λ e. omega arith) (λ e. omega arith) in
    found 2 7 _ _ _ refl seven (omega arith) (lit< tt) (lit< tt) c.requires.2 c.power-in_default.ensures
