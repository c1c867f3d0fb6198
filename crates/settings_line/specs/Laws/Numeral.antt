-- Numerals and the numbers that they make; no part of the meaning.
--   DigitBytes s          == every byte of s is a digit's
--   numeral-digits, -nonempty, -first == a numeral consists of digits, has one at least, and has no needless leading zero
--   reading-numeral       == a numeral makes its number
--   numeral-reading       == digits without a needless leading zero are the numeral of the number that they make
--   reading-below         == a number of so many digits is below that power of 10
-- Assumes nothing.
use Rattle.std.specs.Prelude.{◌≡◌, refl, ◌⊎◌, List, [], ◌∷◌, ◌++◌, ℕ, zero, suc, ◌+◌, ◌*◌, ◌-◌, ◌^◌, ◌/◌, ◌%◌, ◌≤◌, ◌<◌, length, get_or}
use Rattle.std.proofs.Common.{ap, ◌∙◌, sym, inl, inr, ⊎_elim, append_assoc, append-nil, le_refl, mul-le-mul_right, mul_assoc, lt_of_lt_of_le, arith, length-append}
use Rattle.std.proofs.Math.Nat.{pow-succ'}
use Rattle.std.proofs.Math.ListN.{get_or-append}
use Rattle.basics.specs.Laws.Order.{le-or-lt}
use Rattle.text.specs.Text.{glyph, numeral}
use Rattle.text.specs.Laws.Numeral.{numeral-digit, numeral-step}
use Rattle.settings_line.specs.Decimal.{reading}

-- one more digit behind the numeral of a number that is not 0
numeral-more : (x d : ℕ) → 1 ≤ x → d < 10 → numeral (x * 10 + d) ≡ numeral x ++ (glyph d ∷ [])
numeral-more x d h l =
    let front : (x * 10 + d) / 10 ≡ x = omega arith in
    let last : (x * 10 + d) % 10 ≡ d = omega arith in
    numeral-step (x * 10 + d) (omega arith) ∙ rw (front, last)

pub data DigitBytes : List ℕ → Type 0 where
  none : DigitBytes []
  more : {b : ℕ} {s : List ℕ} → 48 ≤ b → b ≤ 57 → DigitBytes s → DigitBytes (b ∷ s)

digits_append : {s t : List ℕ} → DigitBytes s → DigitBytes t → DigitBytes (s ++ t)
digits_append none e = e
digits_append (more l h d) e = more l h (digits_append d e)

one-digit : (d : ℕ) → d < 10 → DigitBytes (glyph d ∷ [])
one-digit d h = more {b = glyph d} (omega arith) (omega arith) none

-- by induction on a bound of x
digits-within : (m x : ℕ) → x ≤ m → DigitBytes (numeral x)
digits-within zero x h = rw (numeral-digit x (omega arith)) (one-digit x (omega arith))
digits-within (suc m) x h =
    ⊎_elim (λ large. rw (numeral-step x large) (digits_append (digits-within m (x / 10) (omega arith)) (one-digit (x % 10) (omega arith))))
    (λ small. rw (numeral-digit x small) (one-digit x small)) (le-or-lt 10 x)

pub numeral-digits : (x : ℕ) → DigitBytes (numeral x)
numeral-digits x = digits-within x x (le_refl x)

reading-append : (v : ℕ) (s t : List ℕ) → reading v (s ++ t) ≡ reading (reading v s) t
unfolding reading
reading-append v [] t = refl
reading-append v (b ∷ s) t = reading-append (v * 10 + (b - 48)) s t

-- by induction on a bound of x
reading-within : (m x : ℕ) → x ≤ m → reading 0 (numeral x) ≡ x
unfolding reading
reading-within zero x h =
    let z : x ≡ 0 = omega arith in
    ap (λ y. reading 0 (numeral y)) z ∙ ap (reading 0) (numeral-digit 0 (omega arith)) ∙ sym z
reading-within (suc m) x h =
    ⊎_elim
    (λ large.
    ap (reading 0) (numeral-step x large)
    ∙ reading-append 0 (numeral (x / 10)) (glyph (x % 10) ∷ [])
    ∙ ap (λ v. v * 10 + (glyph (x % 10) - 48)) (reading-within m (x / 10) (omega arith))
    ∙ omega arith)
    (λ small. ap (reading 0) (numeral-digit x small) ∙ omega arith) (le-or-lt 10 x)

pub reading-numeral : (x : ℕ) → reading 0 (numeral x) ≡ x
reading-numeral x = reading-within x x (le_refl x)

-- the digits s, with the numeral of v before them
numeral-behind : (v : ℕ) {s : List ℕ} → 1 ≤ v → DigitBytes s → numeral (reading v s) ≡ numeral v ++ s
unfolding reading
numeral-behind v h none = sym (append-nil (numeral v))
numeral-behind v h (more {b} {s} l u d) =
    let digit : 48 + (b - 48) ≡ b = omega arith in
    numeral-behind (v * 10 + (b - 48)) (omega arith) d
    ∙ ap (λ t. t ++ s) (numeral-more v (b - 48) h (omega arith))
    ∙ append_assoc (numeral v) (glyph (b - 48) ∷ []) s
    ∙ rw digit

-- digits without a needless leading zero
pub numeral-reading : (s : List ℕ) → DigitBytes s → 1 ≤ length s → ((length s ≡ 1) ⊎ (get_or s 0 0 ≡ 48 → ⊥)) → numeral (reading 0 s) ≡ s
unfolding reading
numeral-reading [] none h w = absurd (omega arith)
numeral-reading (b ∷ []) (more l u d) h w =
    let digit : 48 + (b - 48) ≡ b = omega arith in
    let alone : 0 * 10 + (b - 48) ≡ b - 48 = omega arith in
    ap numeral alone ∙ numeral-digit (b - 48) (omega arith) ∙ rw digit
numeral-reading (b ∷ c ∷ s) (more l u d) h (inl e) = absurd (omega arith)
numeral-reading (b ∷ c ∷ s) (more l u d) h (inr z) =
    let digit : 48 + (b - 48) ≡ b = omega arith in
    let high : (b ≡ 48) → ⊥ = z in
    let small : b - 48 < 10 = omega arith in
    let alone : 0 * 10 + (b - 48) ≡ b - 48 = omega arith in
    ap (λ v. numeral (reading v (c ∷ s))) alone
    ∙ numeral-behind (b - 48) (omega arith) d ∙ rw (numeral-digit (b - 48) small, digit)

pub numeral-nonempty : (x : ℕ) → 1 ≤ length (numeral x)
numeral-nonempty x =
    ⊎_elim (λ large. rw (numeral-step x large, length-append) (omega arith)) (λ small. rw (numeral-digit x small) (omega arith))
    (le-or-lt 10 x)

first-within : (m x : ℕ) → x ≤ m → 1 ≤ x → get_or (numeral x) 0 0 ≡ 48 → ⊥
first-within zero x h p e = absurd (omega arith)
first-within (suc m) x h p e =
    ⊎_elim
    (λ large.
    first-within m (x / 10) (omega arith) (omega arith)
    (sym (get_or-append (numeral (x / 10)) (glyph (x % 10) ∷ []) 0 0 (numeral-nonempty (x / 10))) ∙ (rw (numeral-step x large) at e)))
    (λ small. let f : glyph x ≡ 48 = rw (numeral-digit x small) at e in omega arith) (le-or-lt 10 x)

-- a numeral has no needless leading zero
pub numeral-first : (x : ℕ) → (length (numeral x) ≡ 1) ⊎ (get_or (numeral x) 0 0 ≡ 48 → ⊥)
numeral-first x =
    ⊎_elim (λ some. inr (first-within x x (le_refl x) some))
    (λ none. let z : x ≡ 0 = omega arith in inl (ap length (ap numeral z ∙ numeral-digit 0 (omega arith)))) (le-or-lt 1 x)

-- behind v, so many digits make less than v + 1 followed by as many zeros
reading-bound : (v : ℕ) {s : List ℕ} → DigitBytes s → reading v s < suc v * 10 ^ length s
unfolding reading
reading-bound v none = omega arith
reading-bound v (more {b} {s} l u d) =
    let step : suc (v * 10 + (b - 48)) * 10 ^ length s ≤ suc v * 10 * 10 ^ length s = mul-le-mul_right (10 ^ length s) (omega arith) in
    rw (pow-succ' 10 (length s), ← mul_assoc) (lt_of_lt_of_le (reading-bound (v * 10 + (b - 48)) d) step)

pub reading-below : {s : List ℕ} → DigitBytes s → reading 0 s < 10 ^ length s
reading-below d = omega (arith, reading-bound 0 d)
