-- The digits with which a text begins, and the test for a numeral; no part of the meaning.
--   run-digits    == they are digits
--   run-split     == the text is these and what follows
--   run_of        == they are all the digits up to a byte that is none
--   Numerals, numerals == what the test for a numeral tells
--   numeral-is    == the numeral of a number below 10^most passes the test
-- Assumes nothing.
use Rattle.std.specs.Prelude.{◌≡◌, refl, Bool, true, false, ◌&&◌, ◌||◌, not, ◌⊎◌, List, [], ◌∷◌, ◌++◌, ℕ, suc, ◌^◌, ◌≤◌, ◌<◌, T, leb, eqb, length, get_or, drop}
use Rattle.std.proofs.Common.{ap, ◌∙◌, inl, inr, ⊎_elim, le-leb, eq-eqb, leb→le, eqb→eq}
use Rattle.basics.specs.Laws.Choice.{holds}
use Rattle.basics.specs.Laws.Test.{and_left, and_right}
use Rattle.text.specs.Text.{numeral}
use Rattle.text.specs.Laws.Numeral.{numeral-length}
use Rattle.settings_line.specs.Decimal.{is_digit, digit_run, is_numeral}
use Rattle.settings_line.specs.Laws.Numeral.{DigitBytes, none, more, numeral-nonempty, numeral-first}
use Rattle.settings_line.specs.Laws.ReadDigits.{digit-bounds}
use Rattle.settings_line.specs.Laws.Decimal.{numeral-single, numeral-led}

run-yes : (b : ℕ) (s : List ℕ) → is_digit b ≡ true → digit_run (b ∷ s) ≡ b ∷ digit_run s
unfolding digit_run
run-yes b s e = rw (e, digit_run)

run-no : (b : ℕ) (s : List ℕ) → is_digit b ≡ false → digit_run (b ∷ s) ≡ []
unfolding digit_run
run-no b s e = rw (e, digit_run)

digit-byte : (b : ℕ) {s : List ℕ} → is_digit b ≡ true → DigitBytes s → DigitBytes (b ∷ s)
digit-byte b e d = more (digit-bounds b e).0 (digit-bounds b e).1 d

run-digits-step : (b : ℕ) (s : List ℕ) (t : Bool) → is_digit b ≡ t → DigitBytes (digit_run s) → DigitBytes (digit_run (b ∷ s))
run-digits-step b s true e d = rw (run-yes b s e) (digit-byte b e d)
run-digits-step b s false e d = rw (run-no b s e) none

pub run-digits : (s : List ℕ) → DigitBytes (digit_run s)
unfolding digit_run
run-digits [] = none
run-digits (b ∷ s) = run-digits-step b s (is_digit b) refl (run-digits s)

run-split-step : (b : ℕ) (s : List ℕ) (t : Bool) → is_digit b ≡ t → s ≡ digit_run s ++ drop (length (digit_run s)) s
    → b ∷ s ≡ digit_run (b ∷ s) ++ drop (length (digit_run (b ∷ s))) (b ∷ s)
run-split-step b s true e h = rw (run-yes b s e) (ap (λ t. b ∷ t) h)
run-split-step b s false e h = rw (run-no b s e)

pub run-split : (s : List ℕ) → s ≡ digit_run s ++ drop (length (digit_run s)) s
unfolding digit_run
run-split [] = refl
run-split (b ∷ s) = run-split-step b s (is_digit b) refl (run-split s)

is_digit_lem : (b : ℕ) → 48 ≤ b → b ≤ 57 → is_digit b ≡ true
unfolding is_digit
is_digit_lem b l h = rw (le-leb 48 b l, le-leb b 57 h)

pub run_of : {d : List ℕ} (b : ℕ) (s : List ℕ) → DigitBytes d → is_digit b ≡ false → digit_run (d ++ (b ∷ s)) ≡ d
run_of b s none e = run-no b s e
run_of c s (more {b} {s = d} l h r) e = run-yes b (d ++ (c ∷ s)) (is_digit_lem b l h) ∙ ap (λ t. b ∷ t) (run_of c s r e)

led : (a b : Bool) → T (a || not b) → (T a) ⊎ (T b → ⊥)
led true b t = inl tt
led false true t = absurd t
led false false t = inr (λ z. absurd z)

pub record Numerals (most : ℕ) (s : List ℕ) : Type 0 where
  pub nonempty : 1 ≤ length s
  pub short : length s ≤ most
  pub first : (length s ≡ 1) ⊎ (get_or s 0 0 ≡ 48 → ⊥)

pub numerals : (most : ℕ) (s : List ℕ) → is_numeral most s ≡ true → Numerals most s
unfolding is_numeral
numerals most s e =
    let t = holds (is_numeral most s) e in
    let front = and_left (leb 1 (length s) && leb (length s) most) (eqb (length s) 1 || not (eqb (get_or s 0 0) 48)) t in
    let last = and_right (leb 1 (length s) && leb (length s) most) (eqb (length s) 1 || not (eqb (get_or s 0 0) 48)) t in
    record {
      nonempty = leb→le 1 (length s) (and_left (leb 1 (length s)) (leb (length s) most) front);
      short = leb→le (length s) most (and_right (leb 1 (length s)) (leb (length s) most) front);
      first =
          ⊎_elim (λ a. inl (eqb→eq (length s) 1 a)) (λ n. inr (λ z. n (holds (eqb (get_or s 0 0) 48) (eq-eqb (get_or s 0 0) 48 z))))
          (led (eqb (length s) 1) (eqb (get_or s 0 0) 48) last);
    }

pub numeral-is : (m x : ℕ) → x < 10 ^ suc m → is_numeral (suc m) (numeral x) ≡ true
numeral-is m x h =
    let short = numeral-length m x h in
    ⊎_elim (λ one. numeral-single (suc m) (numeral x) one short) (λ led. numeral-led (suc m) (numeral x) (numeral-nonempty x) short led)
    (numeral-first x)
