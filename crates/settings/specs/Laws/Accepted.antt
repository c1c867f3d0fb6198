-- The settings that are not refused; no part of the meaning.
--   Accepted q n k          == what they obey
--   accepted, not-refused   == settings are not refused exactly where they are Accepted
--   count-accepted, count-refused == what the table's entry says of the settings
--   entry-of-accepted       == the table's entry for accepted settings is their count
--   settings-known          == the first refusal of settings is one, or none
--   count-told              == the number and the count that an answer of Count tells
-- Assumes nothing.
use Rattle.std.specs.Prelude.{◌≡◌, true, ℕ, ◌≤◌, T, leb, Result, Ok, Err}
use Rattle.std.proofs.Math.Path.{refl, ap, sym}
use Rattle.std.proofs.Common.{◌∙◌, arith}
use mathlib.Core.List.{◌∷◌, []}
use borrow.Author.Tests.{le-leb, lt-leb, leb-true}
use Rattle.std.proofs.Math.Dec.{leb→le}
use Rattle.std.proofs.Math.Logic.{⊎_elim}
use Rattle.basics.specs.Choice.{pick}
use Rattle.basics.specs.Laws.Choice.{is_true, holds}
use Rattle.basics.specs.Laws.Order.{le-or-lt}
use Rattle.basics.specs.Laws.Test.{and_left, and_right}
use Rattle.refusal.specs.Refusal.{field_size_refusal, range_refusal, count_refusal, refuse_unless, unless_refused, named}
use Rattle.refusal.specs.Laws.First.{test-refused, test-passed, test_zero, first-none, told-number, told-value}
use Rattle.refusal.specs.Laws.First.{Known, known-none, known-test, known-first}
use Rattle.field.specs.Field.{is_field_size}
use Rattle.counts.specs.Gaussian.{gaussian, greatest_count, table_entry}
use Rattle.counts.specs.Laws.GaussianLaws.{gaussian-positive, entry-within}
use Rattle.settings.specs.Settings.{row_length_ok, range_ok, count_ok, settings_refusal, count_of, count_number, count_value}
use Rattle.refusal.specs.declared.Refusal.{Refusal}
use Rattle.refusal.specs.declared.Refusal.TheVariants.{FieldSize, Range, Count}

pub record Accepted (q n k : ℕ) : Type 0 where
  pub size : T (is_field_size q)
  pub row : 1 ≤ n
  pub narrow : n ≤ 16
  pub dimension : k ≤ n
  pub counted : gaussian q n k ≤ greatest_count

pub row-length-fits : (n : ℕ) → row_length_ok n ≡ true → (1 ≤ n) × (n ≤ 16)
unfolding row_length_ok
row-length-fits n r =
    let t = holds (row_length_ok n) r in
    (leb→le 1 n (and_left (leb 1 n) (leb n 16) t), leb→le n 16 (and_right (leb 1 n) (leb n 16) t))

module _ (q n k : ℕ) where
  -- the tests as they come to nothing
  unrefused : is_field_size q ≡ true → range_ok n k ≡ true → count_ok q n k ≡ true → settings_refusal q n k ≡ 0
  unfolding settings_refusal
  unrefused s h c = test-passed _ _ _ s ∙ test-passed _ _ _ h ∙ test-passed _ _ _ c ∙ first-none

  pub not-refused : Accepted q n k → settings_refusal q n k ≡ 0
  unfolding range_ok count_ok row_length_ok
  not-refused a =
      unrefused (is_true (is_field_size q) a.size) (rw (le-leb 1 n a.row, le-leb n 16 a.narrow, le-leb k n a.dimension))
      (le-leb (gaussian q n k) greatest_count a.counted)

  pub accepted : settings_refusal q n k ≡ 0 → Accepted q n k
  unfolding settings_refusal range_ok count_ok
  accepted e =
      let more = refuse_unless (count_ok q n k) count_refusal ∷ [] in
      let s = test_zero (is_field_size q) field_size_refusal (refuse_unless (range_ok n k) range_refusal ∷ more) tt e in
      let h = test_zero (range_ok n k) range_refusal more tt s.1 in
      let t = holds (range_ok n k) h.0 in
      let fits = row-length-fits n (is_true (row_length_ok n) (and_left (row_length_ok n) (leb k n) t)) in
      record {
        size = holds (is_field_size q) s.0;
        row = fits.0;
        narrow = fits.1;
        dimension = leb→le k n (and_right (row_length_ok n) (leb k n) t);
        counted = leb-true (gaussian q n k) greatest_count (test_zero (count_ok q n k) count_refusal [] tt h.1).0;
      }

  pub count-accepted : is_field_size q ≡ true → row_length_ok n ≡ true → k ≤ n → (table_entry q n k ≡ 0 → ⊥) → settings_refusal q n k ≡ 0
  count-accepted s r d c =
      not-refused
      (record {
        size = holds (is_field_size q) s;
        row = (row-length-fits n r).0;
        narrow = (row-length-fits n r).1;
        dimension = d;
        counted = ⊎_elim (λ l. l) (λ g. absurd (c (ap (λ b. pick b (gaussian q n k) 0) (lt-leb (gaussian q n k) greatest_count g))))
            (le-or-lt (gaussian q n k) greatest_count);
      })

  pub count-refused : is_field_size q ≡ true → row_length_ok n ≡ true → k ≤ n → table_entry q n k ≡ 0 → settings_refusal q n k ≡ count_refusal
  unfolding settings_refusal range_ok count_ok
  count-refused s r d c =
      ⊎_elim
      (λ l.
      let z : gaussian q n k ≡ 0 = sym (ap (λ b. pick b (gaussian q n k) 0) (le-leb (gaussian q n k) greatest_count l)) ∙ c in
      absurd (omega (arith, gaussian-positive q n k d)))
      (λ g. test-passed _ _ _ s ∙ test-passed _ _ _ (rw (r, le-leb k n d))
      ∙ test-refused _ _ _ tt (lt-leb (gaussian q n k) greatest_count g))
      (le-or-lt (gaussian q n k) greatest_count)

  pub entry-of-accepted : Accepted q n k → table_entry q n k ≡ gaussian q n k
  entry-of-accepted a = entry-within q n k a.counted

  pub settings-known : Known (settings_refusal q n k)
  unfolding settings_refusal
  settings-known =
      known-first _ _ (known-test _ FieldSize)
      (known-first _ _ (known-test _ Range) (known-first _ _ (known-test _ Count) known-none))

  pub count-told : (r : Result ℕ Refusal) → r ≡ count_of q n k
      → (count_number r ≡ settings_refusal q n k) × (count_value r ≡ unless_refused (settings_refusal q n k) (gaussian q n k) 0)
  unfolding count_of
  count-told r e =
      let refusal = settings_refusal q n k in
      let count = Ok (gaussian q n k) in
      let other = Err (named refusal) in (
        ap count_number e ∙ told-number refusal count other count_number refl settings-known,
        ap count_value e ∙ told-value refusal count other count_value (gaussian q n k) refl refl,
      )
