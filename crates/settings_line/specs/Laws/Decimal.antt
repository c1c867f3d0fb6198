-- How the code finds what stands at a cursor; no part of the meaning.
--   numeral-single, numeral-led == when digits pass the test for a numeral
--   read_number     == what is read is the number of the digits there, and the test holds
--   decimal-unread  == nothing is read where the digits make too great a number
--   decimal-inside, -empty, -long, -single, -zero-led, -led == what is read where they make the number x, by their number and first byte
--   marked-unread, -open, -other, -read == what is read with the byte behind it
-- Assumes nothing.
use Rattle.std.specs.Prelude.{Some, None, ◌≡◌, Bool, ◌&&◌, ◌||◌, List, [], ◌∷◌, ℕ, ◌+◌, ◌-◌, ◌≤◌, ◌<◌, leb, eqb, length, get_or, drop}
use Rattle.std.proofs.Math.Path.{refl, ap, ap₂}
use Rattle.std.proofs.Common.{◌∙◌, sym, add-zero, arith, length-drop, get_or-drop}
use Rattle.std.proofs.Math.Bool.{true, false}
use borrow.Author.Tests.{le-leb, lt-leb, lt-ltb, le-ltb, eq-eqb, ne_eqb}
use Rattle.basics.specs.Choice.{pick}
use Rattle.settings_line.specs.Decimal.{is_digit, digit_run, reading, is_numeral, greatest, read_if, read_at, decimal_at, marked, marked_at}
use Rattle.settings_line.specs.declared.decimal.Numeral.{Numeral}

run-cons : (b : ℕ) (s : List ℕ) (t : Bool) → is_digit b ≡ t → 1 ≤ length (digit_run (b ∷ s)) → get_or (digit_run (b ∷ s)) 0 0 ≡ b
unfolding digit_run
run-cons b s true e h = rw (e, digit_run)
run-cons b s false e h = let z : 1 ≤ 0 = rw (e, digit_run) at h in absurd (omega arith)

run-first : (s : List ℕ) → 1 ≤ length (digit_run s) → (get_or (digit_run s) 0 0 ≡ get_or s 0 0) × (1 ≤ length s)
unfolding digit_run
run-first [] h = absurd (omega arith)
run-first (b ∷ s) h = (run-cons b s (is_digit b) refl h, omega arith)

module _ (most : ℕ) (s : List ℕ) where
  numeral-empty : length s ≡ 0 → is_numeral most s ≡ false
  unfolding is_numeral
  numeral-empty e = rw e

  numeral-long : 1 ≤ length s → most < length s → is_numeral most s ≡ false
  unfolding is_numeral
  numeral-long h l = rw (le-leb 1 (length s) h, lt-leb (length s) most l)

  pub numeral-single : length s ≡ 1 → length s ≤ most → is_numeral most s ≡ true
  unfolding is_numeral
  numeral-single e l = rw (le-leb (length s) most l, e)

  numeral-zero-led : 1 < length s → length s ≤ most → get_or s 0 0 ≡ 48 → is_numeral most s ≡ false
  unfolding is_numeral
  numeral-zero-led h l z =
      rw (le-leb 1 (length s) (omega arith), le-leb (length s) most l, ne_eqb (length s) 1 (λ e. omega arith), eq-eqb (get_or s 0 0) 48 z)

  pub numeral-led : 1 ≤ length s → length s ≤ most → (get_or s 0 0 ≡ 48 → ⊥) → is_numeral most s ≡ true
  unfolding is_numeral
  numeral-led h l z = rw (le-leb 1 (length s) h, le-leb (length s) most l, ne_eqb (get_or s 0 0) 48 z) (or-true (eqb (length s) 1))
    where
      or-true : (b : Bool) → b || true ≡ true
      or-true true = refl
      or-true false = refl

pub read_number : (b : Bool) (at : ℕ) (s : List ℕ) (x : Numeral) → read_if b at s ≡ Some x
    → (b ≡ true) × (x ≡ record { value = reading 0 s; end = at + length s })
read_number true at s x e = (refl, cc)
read_number false at s x e = let z : ◌≡◌ {A = ℕ} 0 1 = cc in absurd (omega arith)

read_none : (b : Bool) (at : ℕ) (s : List ℕ) → read_if b at s ≡ None → b ≡ false
read_none true at s e = let z : ◌≡◌ {A = ℕ} 0 1 = cc in absurd (omega arith)
read_none false at s e = refl

pub decimal-unread : (text : List ℕ) (at most : ℕ) → read_at text at ≡ None → decimal_at text at most ≡ None
unfolding read_at decimal_at
decimal-unread text at most e =
    let s = digit_run (drop at text) in
    ap (λ b. read_if (b && is_numeral most s) at s) (read_none (leb (reading 0 s) greatest) at s e)

module _ (text : List ℕ) (at most : ℕ) (x : Numeral) (e : read_at text at ≡ Some x) where
  decimal-read : (b : Bool) → is_numeral most (digit_run (drop at text)) ≡ b → decimal_at text at most ≡ pick b (Some x) None
  unfolding read_at decimal_at
  decimal-read b i =
      let s = digit_run (drop at text) in
      let r = read_number (leb (reading 0 s) greatest) at s x e in
      ap₂ (λ a c. read_if (a && c) at s) r.0 i ∙ ap (λ y. pick b (Some y) None) (sym r.1)

  read-size : x.end ≡ at + length (digit_run (drop at text))
  unfolding read_at
  read-size = let s = digit_run (drop at text) in ap (λ y. y.end) (read_number (leb (reading 0 s) greatest) at s x e).1

  pub decimal-inside : at < x.end → at < length text
  decimal-inside h =
      let size = read-size in
      let first = (run-first (drop at text) (omega arith)).1 in
      omega (arith, length-drop at text)

  first_byte : at < x.end → get_or (digit_run (drop at text)) 0 0 ≡ get_or text at 0
  first_byte h =
      let size = read-size in
      (run-first (drop at text) (omega arith)).0 ∙ get_or-drop at text 0 0 ∙ ap (λ i. get_or text i 0) (add-zero at)

  pub decimal-empty : x.end ≤ at → decimal_at text at most ≡ None
  decimal-empty h = let size = read-size in decimal-read false (numeral-empty most _ (omega arith))

  pub decimal-long : at < x.end → most < x.end - at → decimal_at text at most ≡ None
  decimal-long h l = let size = read-size in decimal-read false (numeral-long most _ (omega arith) (omega arith))

  pub decimal-single : x.end - at ≡ 1 → x.end - at ≤ most → decimal_at text at most ≡ Some x
  decimal-single h l = let size = read-size in decimal-read true (numeral-single most _ (omega arith) (omega arith))

  pub decimal-zero-led : at < x.end → (x.end - at ≡ 1 → ⊥) → x.end - at ≤ most → get_or text at 0 ≡ 48 → decimal_at text at most ≡ None
  decimal-zero-led h o l z =
      let size = read-size in
      let longer : 1 < length (digit_run (drop at text)) = many (digit_run (drop at text)) size in
      decimal-read false (numeral-zero-led most _ longer (omega arith) (first_byte h ∙ z))
    where
      many : (s : List ℕ) → x.end ≡ at + length s → 1 < length s
      many [] e = absurd (omega arith)
      many (b ∷ []) e = absurd (o (omega arith))
      many (b ∷ c ∷ s) e = omega arith

  pub decimal-led : at < x.end → x.end - at ≤ most → (get_or text at 0 ≡ 48 → ⊥) → decimal_at text at most ≡ Some x
  decimal-led h l z =
      let size = read-size in
      decimal-read true (numeral-led most _ (omega arith) (omega arith) (λ f. z (sym (first_byte h) ∙ f)))

pub marked-unread : (text : List ℕ) (at most mark : ℕ) → decimal_at text at most ≡ None → marked_at text at most mark ≡ None
unfolding marked_at
marked-unread text at most mark e = ap (marked text mark) e

module _ (text : List ℕ) (at most mark : ℕ) (x : Numeral) (e : decimal_at text at most ≡ Some x) where
  pub marked-open : length text ≤ x.end → marked_at text at most mark ≡ None
  unfolding marked_at
  marked-open h = ap (marked text mark) e ∙ rw (le-ltb x.end (length text) h)

  pub marked_other : x.end < length text → (get_or text x.end 0 ≡ mark → ⊥) → marked_at text at most mark ≡ None
  unfolding marked_at
  marked_other h o = ap (marked text mark) e ∙ rw (lt-ltb x.end (length text) h, ne_eqb (get_or text x.end 0) mark o)

  pub marked-read : x.end < length text → get_or text x.end 0 ≡ mark
      → marked_at text at most mark ≡ Some (record { value = x.value; end = x.end + 1 })
  unfolding marked_at
  marked-read h o = ap (marked text mark) e ∙ rw (lt-ltb x.end (length text) h, eq-eqb (get_or text x.end 0) mark o)
