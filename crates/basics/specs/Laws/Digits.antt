-- Numbers in a base q, read from their digits and written as digits.
--   Digits q ds        == every entry of the list ds is below q
--   digits-joined      == digits after digits after a number t are all the digits after t
--   value-append       == the digits ds before es: the value of ds times q to es's length, and the value of es
--   value-zeros        == w zeros after ds: the value of ds times q^w
--   value-below        == a list of digits has a value below q to its length
--   value-digits       == a number below q^k is the value of its k digits
--   lower-digit        == a digit is not changed by the ones above it
--   digit-of-value     == the i-th digit of a list's value is its i-th entry
--   value-injective    == equally many digits with the same value are the same
-- Assumes nothing.
use Rattle.std.specs.Prelude.{◌≡◌, refl, List, [], ◌∷◌, ◌++◌, ℕ, zero, suc, pred, ◌+◌, ◌*◌, ◌-◌, ◌^◌, ◌/◌, ◌%◌, ◌<◌, length, get_or, replicate}
use Rattle.std.proofs.Common.{ap, ap₂, ◌∙◌, sym, add-zero, zero-add, zero-mul, add-mul, mul_assoc, pow-suc, zero-lt-suc, mod-eq_of_lt, not-suc-le-zero, arith, length-append, pow-add, ext_get_or}
use Rattle.std.proofs.Math.Nat.{sub-zero, pow-zero, pow-succ', one-le-pow, mod-one, mul-add-div_right, mul-add-mod_self_right}
use Rattle.std.proofs.Math.Arith.{digits_lt, digits_div, mod-mul}
use Rattle.std.proofs.lemmas.List.{length-replicate}
use Rattle.basics.specs.Sum.{value}
use Rattle.basics.specs.Table.{tabulate}
use Rattle.basics.specs.Laws.TableSize.{tabulate-length}

abbrev pub Digits : ℕ → List ℕ → Type 0
Digits q ds = (i : ℕ) → i < length ds → get_or ds i 0 < q

pub digits-joined : (q t r x z y : ℕ) → t * q ^ (r + z) + (x * q ^ z + y) ≡ (t * q ^ r + x) * q ^ z + y
digits-joined q t r x z y = ap (λ p. t * p + (x * q ^ z + y)) (pow-add q r z) ∙ joined (q ^ r) (q ^ z)
  where
    joined : (a b : ℕ) → t * (a * b) + (x * b + y) ≡ (t * a + x) * b + y
    joined a b = omega arith

pub value-append : (q : ℕ) (ds es : List ℕ) → value q (ds ++ es) ≡ value q ds * q ^ length es + value q es
unfolding value
value-append q [] es = rw (zero-mul, zero-add)
value-append q (d ∷ ds) es =
    ap₂ (λ a b. d * q ^ a + b) (length-append ds es) (value-append q ds es)
    ∙ rw (pow-add, add-mul) (omega arith)

value-of-zeros : (q w : ℕ) → value q (replicate w 0) ≡ 0
unfolding value
value-of-zeros q zero = refl
value-of-zeros q (suc w) = rw (zero-mul, zero-add) (value-of-zeros q w)

pub value-zeros : (q : ℕ) (ds : List ℕ) (w : ℕ) → value q (ds ++ replicate w 0) ≡ value q ds * q ^ w
value-zeros q ds w = value-append q ds (replicate w 0) ∙ rw (length-replicate, value-of-zeros q w, add-zero)

pub value-below : (q : ℕ) (ds : List ℕ) → Digits q ds → value q ds < q ^ length ds
unfolding value
value-below q [] h = rw pow-zero (zero-lt-suc 0)
value-below q (d ∷ ds) h =
    rw pow-succ' (digits_lt (h 0 (zero-lt-suc (length ds))) (value-below q ds (λ i l. h (suc i) (omega arith))))

digits_from : (q x k i m : ℕ) → 0 < q → i + m ≡ k → value q (tabulate (λ j. x / q ^ (pred k - j) % q) i m) ≡ x % q ^ m
unfolding value tabulate
digits_from q x k i zero h e = rw (pow-zero, mod-one)
digits_from q x k i (suc m) h e =
    let place : pred k - i ≡ m = omega arith in
    ap₂ (λ a b. x / q ^ a % q * q ^ length (tabulate (λ j. x / q ^ (pred k - j) % q) (suc i) m) + b) place
    (digits_from q x k (suc i) m h (omega arith))
    ∙ rw (tabulate-length, pow-succ' q m) (sym (mod-mul x h (one-le-pow m q h)))

pub value-digits : (q k x : ℕ) → 0 < q → x < q ^ k → value q (tabulate (λ i. x / q ^ (pred k - i) % q) 0 k) ≡ x
value-digits q k x h b = digits_from q x k 0 k h (zero-add k) ∙ mod-eq_of_lt b

pub lower-digit : (q d v i e : ℕ) → 0 < q → (d * q ^ (suc i + e) + v) / q ^ e % q ≡ v / q ^ e % q
lower-digit q d v i e h =
    rw (pow-add, ← mul_assoc, mul-add-div_right (one-le-pow e q h), pow-suc, ← mul_assoc, mul-add-mod_self_right)

pub digit-of-value : (q : ℕ) (ds : List ℕ) (i : ℕ) → Digits q ds → i < length ds → value q ds / q ^ (pred (length ds) - i) % q ≡ get_or ds i 0
unfolding value
digit-of-value q [] i h l = absurd (not-suc-le-zero l)
digit-of-value q (d ∷ ds) zero h l = rw (sub-zero, digits_div d (value-below q ds (λ i b. h (suc i) (omega arith)))) (mod-eq_of_lt (h 0 l))
digit-of-value q (d ∷ ds) (suc i) h l =
    let e : length ds - suc i ≡ pred (length ds) - i = omega arith in
    let f : length ds ≡ suc i + (pred (length ds) - i) = omega arith in
    let digit : d < q = h 0 (omega arith) in
    rw e
    (ap (λ l. (d * q ^ l + value q ds) / q ^ (pred (length ds) - i) % q) f
    ∙ lower-digit q d (value q ds) i (pred (length ds) - i) (omega arith)
    ∙ digit-of-value q ds i (λ j b. h (suc j) (omega arith)) (omega arith))

pub value-injective : (q : ℕ) (ds es : List ℕ) → Digits q ds → Digits q es → length ds ≡ length es → value q ds ≡ value q es → ds ≡ es
value-injective q ds es h g l e =
    ext_get_or 0 ds es l
    (λ i b. sym (digit-of-value q ds i h b) ∙ rw (l, e) (digit-of-value q es i g (omega arith)))
