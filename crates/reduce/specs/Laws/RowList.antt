-- A list of rows that is not refused; no part of the meaning.
--   row-settings-accepted, row-settings-unrefused == neither 1 nor 2 refuses exactly where q is a field's size and n is 1 to 16
--   square-fits == rows of at most 16 entries have a square of at most 256 bytes
--   rows-size-accepted, rows-size-unrefused == neither 13 nor 4 refuses exactly where there are at most 64 rows in exactly their bytes
--   row-list-accepted, row-list-unrefused   == nor does 6 exactly where each entry is below q
--   row-settings-known, rows-size-known, row-list-known == what each of them comes to is a refusal, or none
-- Assumes nothing.
use Rattle.std.specs.Prelude.{◌≡◌, true, ℕ, ◌*◌, ◌≤◌, T, eqb, leb, length}
use Rattle.std.proofs.Common.{◌∙◌, mul-le-mul}
use mathlib.Core.List.{List, [], ◌∷◌}
use borrow.Author.Tests.{eq-eqb, le-leb, eqb-true, leb-true}
use Rattle.basics.specs.Laws.Choice.{holds}
use Rattle.refusal.specs.Refusal.{field_size_refusal, range_refusal, length_refusal, entry_refusal, row_count_refusal, refuse_unless}
use Rattle.refusal.specs.Laws.First.{first-zero, first-passed, test_zero, test-passed, first-none}
use Rattle.refusal.specs.Laws.First.{Known, known-none, known-test, known-first}
use Rattle.refusal.specs.declared.Refusal.TheVariants.{FieldSize, Range, Length, Entry, RowCount}
use Rattle.field.specs.Field.{is_field_size}
use Rattle.settings.specs.Settings.{row_length_ok}
use Rattle.settings.specs.Laws.Accepted.{row-length-fits}
use Rattle.matrix.specs.Matrix.{entries_below}
use Rattle.reduce.specs.Reduce.{most_rows, row_settings_refusal, rows_size_refusal, row_list_refusal}

pub square-fits : {n : ℕ} → n ≤ 16 → n * n ≤ 256
square-fits {n} h = mul-le-mul {n₁ = n} {m₁ = n} {n₂ = 16} {m₂ = 16} h h

module _ (q n : ℕ) where
  pub row-settings-accepted : row_settings_refusal q n ≡ 0 → T (is_field_size q) × (1 ≤ n) × (n ≤ 16)
  unfolding row_settings_refusal
  row-settings-accepted e =
      let f = test_zero (is_field_size q) field_size_refusal (refuse_unless (row_length_ok n) range_refusal ∷ []) tt e in
      let l = row-length-fits n (test_zero (row_length_ok n) range_refusal [] tt f.1).0 in
      (holds (is_field_size q) f.0, l.0, l.1)

  pub row-settings-unrefused : is_field_size q ≡ true → row_length_ok n ≡ true → row_settings_refusal q n ≡ 0
  unfolding row_settings_refusal
  row-settings-unrefused f l = test-passed _ _ _ f ∙ test-passed _ _ _ l ∙ first-none

  pub row-settings-known : Known (row_settings_refusal q n)
  unfolding row_settings_refusal
  row-settings-known = known-first _ _ (known-test _ FieldSize) (known-first _ _ (known-test _ Range) known-none)

module _ (n r : ℕ) where
  pub rows-size-accepted : (size : ℕ) → rows_size_refusal n r size ≡ 0 → (r ≤ most_rows) × (size ≡ r * n)
  unfolding rows_size_refusal
  rows-size-accepted size e =
      let c = test_zero (leb r most_rows) row_count_refusal (refuse_unless (eqb size (r * n)) length_refusal ∷ []) tt e in
      (leb-true r most_rows c.0, eqb-true size (r * n) (test_zero (eqb size (r * n)) length_refusal [] tt c.1).0)

  pub rows-size-unrefused : (size : ℕ) → r ≤ most_rows → size ≡ r * n → rows_size_refusal n r size ≡ 0
  unfolding rows_size_refusal
  rows-size-unrefused size h l =
      test-passed _ _ _ (le-leb r most_rows h) ∙ test-passed _ _ _ (eq-eqb size (r * n) l) ∙ first-none

  pub rows-size-known : (size : ℕ) → Known (rows_size_refusal n r size)
  unfolding rows_size_refusal
  rows-size-known size = known-first _ _ (known-test _ RowCount) (known-first _ _ (known-test _ Length) known-none)

  pub row-list-accepted : (q : ℕ) (input : List ℕ) → row_list_refusal q n r input ≡ 0
      → (rows_size_refusal n r (length input) ≡ 0) × T (entries_below q input)
  unfolding row_list_refusal
  row-list-accepted q input e =
      let s = first-zero (rows_size_refusal n r (length input)) (refuse_unless (entries_below q input) entry_refusal ∷ []) e in
      (s.0, holds (entries_below q input) (test_zero (entries_below q input) entry_refusal [] tt s.1).0)

  pub row-list-unrefused : (q : ℕ) (input : List ℕ) → rows_size_refusal n r (length input) ≡ 0 → entries_below q input ≡ true
      → row_list_refusal q n r input ≡ 0
  unfolding row_list_refusal
  row-list-unrefused q input e b = first-passed _ _ e ∙ test-passed _ _ _ b ∙ first-none

  pub row-list-known : (q : ℕ) (input : List ℕ) → Known (row_list_refusal q n r input)
  unfolding row_list_refusal
  row-list-known q input = known-first _ _ (rows-size-known (length input)) (known-first _ _ (known-test _ Entry) known-none)
