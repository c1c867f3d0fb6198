-- What is read at a cursor is exactly a numeral and the byte behind it.
--   decimal-is  == a number that is read stands there as its numeral, and is below 10 to the greatest number of digits
--   marked-is   == the same, with the byte `mark` behind it
--   marked-reads == such a numeral, with a `mark` behind it that is no digit, is read
-- Assumes nothing.
use Rattle.std.specs.Prelude.{Option, Some, None, ◌≡◌, refl, Bool, true, false, ◌&&◌, List, ◌∷◌, ◌++◌, ℕ, suc, ◌+◌, ◌-◌, ◌^◌, ◌≤◌, ◌<◌, leb, ltb, eqb, length, get_or, drop}
use Rattle.std.proofs.Common.{ap, ap₂, ◌∙◌, sym, lt_of_lt_of_le, add-one, arith, le-leb, ltb-true, eqb-true, length-append, length-drop, drop-drop, drop-cons, get_or-drop}
use Rattle.std.proofs.Math.Bool.{and-eq-true_iff}
use Rattle.std.proofs.Math.Nat.{pow-le-pow_right}
use Rattle.std.proofs.Math.Seq.{drop-append_seam, get_or-append_seam}
use Rattle.basics.specs.Choice.{pick}
use Rattle.text.specs.Text.{numeral}
use Rattle.settings_line.specs.Decimal.{is_digit, digit_run, reading, is_numeral, greatest, read_if, decimal_at, marked, marked_at}
use Rattle.settings_line.specs.Laws.Numeral.{numeral-digits, numeral-reading, reading-numeral, reading-below}
use Rattle.settings_line.specs.Laws.Decimal.{read_number, marked-read}
use Rattle.settings_line.specs.declared.decimal.Numeral.{Numeral}
use Rattle.settings_line.specs.Laws.Run.{run-digits, run-split, run_of, numerals, numeral-is}

pub decimal-is : (text : List ℕ) (at most : ℕ) (x : Numeral) → decimal_at text at most ≡ Some x
    → (drop at text ≡ numeral x.value ++ drop x.end text) × (x.value < 10 ^ most)
unfolding decimal_at
decimal-is text at most x e =
    let s = digit_run (drop at text) in
    let r = read_number (leb (reading 0 s) greatest && is_numeral most s) at s x e in
    let f = numerals most s ((and-eq-true_iff (leb (reading 0 s) greatest) (is_numeral most s)).0 r.0).1 in
    let value : x.value ≡ reading 0 s = ap (λ y. y.value) r.1 in
    let end : x.end ≡ at + length s = ap (λ y. y.end) r.1 in
    let digits = numeral-reading s (run-digits (drop at text)) f.nonempty f.first in (
      run-split (drop at text) ∙ ap₂ ◌++◌ (sym digits ∙ ap numeral (sym value)) (drop-drop (length s) at text
          ∙ ap (λ i. drop i text) (sym end)),
      rw value (lt_of_lt_of_le (reading-below (run-digits (drop at text))) (pow-le-pow_right (omega arith) f.short)),
    )

record Behind (text : List ℕ) (mark : ℕ) (d : Option Numeral) (x : Numeral) : Type 0 where
  number : Numeral
  read : d ≡ Some number
  inside : number.end < length text
  follows : get_or text number.end 0 ≡ mark
  same : x ≡ record { value = number.value; end = number.end + 1 }

behind : (text : List ℕ) (mark : ℕ) (d : Option Numeral) (x : Numeral) → marked text mark d ≡ Some x → Behind text mark d x
behind text mark None x e = let z : ◌≡◌ {A = ℕ} 0 1 = cc in absurd (omega arith)
behind text mark (Some y) x e = cases (ltb y.end (length text)) (eqb (get_or text y.end 0) mark) refl refl e
  where
    cases : (a b : Bool) → ltb y.end (length text) ≡ a → eqb (get_or text y.end 0) mark ≡ b
        → pick (a && b) (Some (record { value = y.value; end = y.end + 1 })) None ≡ Some x → Behind text mark (Some y) x
    cases true true l f e =
        record {
          number = y;
          read = refl;
          inside = ltb-true y.end (length text) l;
          follows = eqb-true (get_or text y.end 0) mark f;
          same = cc;
        }
    cases true false l f e = let z : ◌≡◌ {A = ℕ} 0 1 = cc in absurd (omega arith)
    cases false b l f e = let z : ◌≡◌ {A = ℕ} 0 1 = cc in absurd (omega arith)

pub marked-is : (text : List ℕ) (at most mark : ℕ) (x : Numeral) → marked_at text at most mark ≡ Some x
    → (drop at text ≡ numeral x.value ++ (mark ∷ drop x.end text)) × (x.value < 10 ^ most)
unfolding marked_at
marked-is text at most mark x e =
    let b = behind text mark (decimal_at text at most) x e in
    let y = b.number in
    let d = decimal-is text at most y b.read in
    let value : y.value ≡ x.value = sym (ap (λ z. z.value) b.same) in
    let end : suc y.end ≡ x.end = sym (add-one y.end) ∙ sym (ap (λ z. z.end) b.same) in (
      d.0
          ∙ ap₂ (λ v t. numeral v ++ t) value (drop-cons text y.end 0 b.inside ∙ ap₂ (λ c i. c ∷ drop i text) b.follows end),
      rw (sym value) d.1,
    )

pub record Reads (text : List ℕ) (at most mark v : ℕ) (rest : List ℕ) : Type 0 where
  pub end : ℕ
  pub read : marked_at text at most mark ≡ Some (record { value = v; end = end })
  pub ahead : drop end text ≡ rest
  pub within : end ≤ length text

pub marked-reads : (text : List ℕ) (at m mark v : ℕ) (rest : List ℕ) → is_digit mark ≡ false → drop at text ≡ numeral v ++ (mark ∷ rest)
    → v < 10 ^ suc m → v ≤ greatest → Reads text at (suc m) mark v rest
unfolding decimal_at
marked-reads text at m mark v rest other e short small =
    let s = digit_run (drop at text) in
    let digits : s ≡ numeral v = ap digit_run e ∙ run_of mark rest (numeral-digits v) other in
    let value : reading 0 s ≡ v = ap (reading 0) digits ∙ reading-numeral v in
    let end = at + length (numeral v) in
    let test : leb (reading 0 s) greatest && is_numeral (suc m) s ≡ true =
    ap₂ ◌&&◌ (ap (λ r. leb r greatest) value ∙ le-leb v greatest small) (ap (is_numeral (suc m)) digits ∙ numeral-is m v short) in
    let read : decimal_at text at (suc m) ≡ Some (record { value = v; end = end }) =
    ap (λ b. read_if b at s) test ∙ ap₂ (λ r d. Some (record { value = r; end = at + length d })) value digits in
    let sizes : length text - at ≡ length (numeral v) + suc (length rest) =
    sym (length-drop at text) ∙ ap length e ∙ length-append (numeral v) (mark ∷ rest) in
    let inside : end < length text = omega arith in
    let follows : get_or text end 0 ≡ mark =
    sym (get_or-drop at text (length (numeral v)) 0) ∙ ap (λ l. get_or l (length (numeral v)) 0) e ∙ get_or-append_seam (numeral v) mark rest 0 in
    let ahead : drop end text ≡ mark ∷ rest =
    sym (drop-drop (length (numeral v)) at text) ∙ ap (drop (length (numeral v))) e ∙ drop-append_seam (numeral v) (mark ∷ rest) in
    record {
      end = end + 1;
      read = marked-read text at (suc m) mark (record { value = v; end = end }) read inside follows;
      ahead = sym (drop-drop 1 end text) ∙ ap (drop 1) ahead;
      within = omega arith;
    }
