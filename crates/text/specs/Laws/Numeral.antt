-- Laws of numerals; no part of the meaning.
--   numeral-digit == a number below ten is one digit
--   numeral-step  == from ten on, the numeral is that of all digits but the last, and then the last
--   numeral-length == a number below a power of ten has at most so many digits
--   two_digits    == a number of at least ten that is below a power of ten: the power is at least the second
--   below-before  == what is below a power of ten is, without its last digit, below the power before
--   digit-put     == a digit stored before a list's tail stands between what came before and the tail
-- Assumes nothing.
use Rattle.std.specs.Prelude.{◌≡◌, true, false, List, [], ◌∷◌, ◌++◌, ℕ, zero, suc, ◌-◌, ◌^◌, ◌/◌, ◌%◌, ◌≤◌, ◌<◌, length, drop, set}
use Rattle.std.proofs.Common.{ap, ap₂, ◌∙◌, sym, ⊎_elim, pow-suc, mod-eq_of_lt, arith, length-append, lt-length-set, drop-cons, drop-set-lt, get_or-set_same, lt-ltb, le-ltb}
use Rattle.std.proofs.Math.Seq.{append_snoc}
use Rattle.basics.specs.Laws.Order.{le-or-lt}
use Rattle.text.specs.Text.{glyph, numeral_within, numeral}

digit-within : (more x : ℕ) → x < 10 → numeral_within more x ≡ glyph x ∷ []
unfolding numeral_within
digit-within zero x h = ap (λ d. glyph d ∷ []) (mod-eq_of_lt h)
digit-within (suc more) x h = ap (λ t. elim t [ true ↦ glyph x ∷ [] | false ↦ numeral_within more (x / 10) ++ (glyph (x % 10) ∷ []) ])
    (lt-ltb x 10 h)

step-within : (more x : ℕ) → 10 ≤ x → numeral_within (suc more) x ≡ numeral_within more (x / 10) ++ (glyph (x % 10) ∷ [])
unfolding numeral_within
step-within more x h = ap (λ t. elim t [ true ↦ glyph x ∷ [] | false ↦ numeral_within more (x / 10) ++ (glyph (x % 10) ∷ []) ])
    (le-ltb x 10 h)

-- room for more digits than there are makes no difference
room_within : (a b x : ℕ) → x ≤ a → x ≤ b → numeral_within a x ≡ numeral_within b x
room_within zero b x h g = digit-within zero x (omega arith) ∙ sym (digit-within b x (omega arith))
room_within (suc a) zero x h g = digit-within (suc a) x (omega arith) ∙ sym (digit-within zero x (omega arith))
room_within (suc a) (suc b) x h g =
    ⊎_elim
    (λ l.
    step-within a x l
    ∙ ap (λ ds. ds ++ (glyph (x % 10) ∷ [])) (room_within a b (x / 10) (omega arith) (omega arith))
    ∙ sym (step-within b x l))
    (λ l. digit-within (suc a) x l ∙ sym (digit-within (suc b) x l)) (le-or-lt 10 x)

pub numeral-digit : (x : ℕ) → x < 10 → numeral x ≡ glyph x ∷ []
unfolding numeral
numeral-digit x h = digit-within x x h

pub numeral-step : (x : ℕ) → 10 ≤ x → numeral x ≡ numeral (x / 10) ++ (glyph (x % 10) ∷ [])
unfolding numeral
numeral-step zero h = absurd (omega arith)
numeral-step (suc more) h =
    step-within more (suc more) h
    ∙ ap (λ ds. ds ++ (glyph (suc more % 10) ∷ [])) (room_within more (suc more / 10) (suc more / 10) (omega arith) (omega arith))

pub numeral-length : (more x : ℕ) → x < 10 ^ suc more → length (numeral x) ≤ suc more
numeral-length zero x h = omega (arith, ap length (numeral-digit x (omega arith)))
numeral-length (suc more) x h =
    ⊎_elim
    (λ l.
    omega (
      arith,
      ap length (numeral-step x l) ∙ length-append (numeral (x / 10)) (glyph (x % 10) ∷ []),
      numeral-length more (x / 10) (omega (arith, pow-suc 10 (suc more))),
    ))
    (λ l. omega (arith, ap length (numeral-digit x l))) (le-or-lt 10 x)

pub two_digits : (x n : ℕ) → 10 ≤ x → x < 10 ^ n → 2 ≤ n
two_digits x zero h l = absurd (omega arith)
two_digits x (suc zero) h l = absurd (omega arith)
two_digits x (suc (suc n)) h l = omega arith

drop-stored : (l : List ℕ) (i a : ℕ) → i < length l → drop i (set l i a) ≡ a ∷ drop (suc i) l
drop-stored l i a h =
    drop-cons (set l i a) i 0 (lt-length-set l i a h)
    ∙ ap₂ ◌∷◌ (get_or-set_same l i a 0 h) (drop-set-lt (suc i) l i a (omega arith))

pub digit-put : (l ds : List ℕ) (start d : ℕ) → 1 ≤ start → start ≤ length l
    → ds ++ drop (start - 1) (set l (start - 1) d) ≡ (ds ++ (d ∷ [])) ++ drop start l
digit-put l ds zero d h g = absurd (omega arith)
digit-put l ds (suc i) d h g =
    let e : suc i - 1 ≡ i = omega arith in
    rw e (ap (λ s. ds ++ s) (drop-stored l i d (omega arith)) ∙ sym (append_snoc ds d (drop (suc i) l)))

pub below-before : (x start : ℕ) → 1 ≤ start → x < 10 ^ start → x / 10 < 10 ^ (start - 1)
below-before x zero h l = absurd (omega arith)
below-before x (suc n) h l = let e : suc n - 1 ≡ n = omega arith in rw e (omega (arith, pow-suc 10 n))
