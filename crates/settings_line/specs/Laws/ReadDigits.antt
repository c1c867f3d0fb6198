-- What the loop that reads digits keeps; no part of the meaning.
--   run_end, -stop, -digit == the digits at a cursor: past the text's end, at a byte that is no digit, at a digit
--   digit-bounds    == what the test for a digit tells
--   digit-tested    == std's test for a digit is this one
--   reading-grows   == more digits make no smaller number
--   Running text at v i == the digits from `at` up to i make v, so that the digits from i on finish the number
--   running-start, -more == it holds at the start and after one more digit
--   running-done, -over  == what is read where no digit follows, and where the next makes the number too great
-- Assumes nothing.
use Rattle.std.specs.Prelude.{Some, None, ◌≡◌, refl, true, false, List, [], ◌∷◌, ℕ, suc, ◌+◌, ◌*◌, ◌-◌, ◌≤◌, ◌<◌, leb, get_or, drop}
use Rattle.std.specs.Char.{is_ascii_digit}
use Rattle.std.proofs.Math.Path.{ap}
use Rattle.std.proofs.Common.{◌∙◌, le_refl, le_trans, add-one, arith, leb→le, drop_of_length-le, drop-cons}
use Rattle.std.proofs.Math.Nat.{add-zero}
use borrow.Author.Tests.{le-leb, lt-leb}
use Rattle.std.proofs.Math.ListN.{length}
use Rattle.basics.specs.Laws.Choice.{holds}
use Rattle.basics.specs.Laws.Test.{and_left, and_right}
use Rattle.settings_line.specs.Decimal.{is_digit, digit_run, reading, greatest, read_at}

pub digit-bounds : (b : ℕ) → is_digit b ≡ true → (48 ≤ b) × (b ≤ 57)
unfolding is_digit
digit-bounds b e =
    let t = holds (is_digit b) e in
    (leb→le 48 b (and_left (leb 48 b) (leb b 57) t), leb→le b 57 (and_right (leb 48 b) (leb b 57) t))

pub digit-tested : (b : ℕ) → is_ascii_digit b ≡ is_digit b
unfolding is_digit
digit-tested b = refl

pub reading-grows : (v : ℕ) (s : List ℕ) → v ≤ reading v s
unfolding reading
reading-grows v [] = le_refl v
reading-grows v (b ∷ s) = le_trans (omega arith) (reading-grows (v * 10 + (b - 48)) s)

module _ (text : List ℕ) (i : ℕ) where
  pub run_end : length text ≤ i → digit_run (drop i text) ≡ []
  unfolding digit_run
  run_end h = rw (drop_of_length-le text h)

  pub run-stop : i < length text → is_digit (get_or text i 0) ≡ false → digit_run (drop i text) ≡ []
  unfolding digit_run
  run-stop l e = rw (drop-cons text i 0 l) (rw (e, digit_run))

  pub run-digit : i < length text → is_digit (get_or text i 0) ≡ true → digit_run (drop i text) ≡ get_or text i 0 ∷ digit_run (drop (suc i) text)
  unfolding digit_run
  run-digit l e = rw (drop-cons text i 0 l) (rw (e, digit_run))

pub record Running (text : List ℕ) (at v i : ℕ) : Type 0 where
  pub makes : reading 0 (digit_run (drop at text)) ≡ reading v (digit_run (drop i text))
  pub ends : at + length (digit_run (drop at text)) ≡ i + length (digit_run (drop i text))
  pub small : v ≤ greatest

pub running-start : (text : List ℕ) (at : ℕ) → Running text at 0 at
running-start text at = record { makes = refl; ends = refl; small = omega arith }

module _ (text : List ℕ) (at v i : ℕ) (r : Running text at v i) where
  pub running_more : i < length text → is_digit (get_or text i 0) ≡ true → v * 10 + (get_or text i 0 - 48) ≤ greatest
      → Running text at (v * 10 + (get_or text i 0 - 48)) (i + 1)
  unfolding reading
  running_more l e s =
      let next = run-digit text i l e in
      record {
        makes = r.makes ∙ ap (reading v) next ∙ rw (add-one i);
        ends = r.ends ∙ ap (λ t. i + length t) next ∙ rw (add-one i) (omega arith);
        small = s;
      }

  pub running-done : digit_run (drop i text) ≡ [] → read_at text at ≡ Some (record { value = v; end = i })
  unfolding read_at reading
  running-done e =
      let value : reading 0 (digit_run (drop at text)) ≡ v = r.makes ∙ ap (reading v) e in
      let end : at + length (digit_run (drop at text)) ≡ i = r.ends ∙ ap (λ t. i + length t) e ∙ add-zero i in
      rw (value, end, le-leb v greatest r.small)

  pub running-over : i < length text → is_digit (get_or text i 0) ≡ true → greatest < v * 10 + (get_or text i 0 - 48) → read_at text at ≡ None
  unfolding read_at reading
  running-over l e o =
      let next = r.makes ∙ ap (reading v) (run-digit text i l e) in
      let grows = reading-grows (v * 10 + (get_or text i 0 - 48)) (digit_run (drop (suc i) text)) in
      let over : greatest < reading 0 (digit_run (drop at text)) = omega (arith, next, grows) in
      rw (lt-leb _ greatest over)
