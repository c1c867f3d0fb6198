-- Which refusal the distance of two lists of rows answers; no part of the meaning.
--   number_is, value-is == the number told is the refusal; without one the value told is the distance
--   size-wrong, row-wrong == 1 for a q that is no field's size, then 2 for an n outside 1 to 16
--   settings-right        == neither
--   many, missized, oversized == of a list: 13 for more than 64 rows, then 4 for another number of bytes, then 6 for an entry of q or more
--   list_right            == none of these
--   refused-before, refused-first, refused-second == the refusals that come before the lists, of the first list, and of the second
-- Assumes nothing.
use Rattle.std.specs.Prelude.{◌≡◌, refl, true, false, ℕ, ◌*◌, ◌≤◌, ◌<◌, length}
use Rattle.std.proofs.Common.{sym, ◌∙◌}
use mathlib.Core.List.{List, []}
use borrow.Author.Tests.{ne_eqb, le-leb, lt-leb}
use Rattle.basics.specs.Laws.Choice.{holds, is_false}
use Rattle.refusal.specs.Laws.First.{first-refused, first-passed, first_one, test-refused, test-passed, done, positive}
use Rattle.field.specs.Field.{is_field_size}
use Rattle.settings.specs.Settings.{row_length_ok}
use Rattle.settings.specs.Laws.Accepted.{row-length-fits}
use Rattle.matrix.specs.Matrix.{entries_below}
use Rattle.matrix.specs.Laws.Tests.{entries_below_lem, entries-below-true}
use Rattle.linear.specs.Span.{All, rows_of}
use Rattle.linear.specs.Laws.Every.{all_of, all-at}
use Rattle.spaces.specs.Distance.{distance}
use Rattle.reduce.specs.Reduce.{row_settings_refusal, rows_size_refusal, row_list_refusal}
use Rattle.reduce.specs.Laws.RowList.{row-settings-unrefused, rows-size-unrefused, row-list-unrefused}
use Rattle.distance.specs.Distance.{distance_refusal, distance_of, distance_number, distance_value}
use Rattle.distance.specs.Laws.DistanceAccepted.{distance-told}

module _ (q n : ℕ) where
  pub size-wrong : is_field_size q ≡ false → row_settings_refusal q n ≡ 1
  unfolding row_settings_refusal
  size-wrong e = test-refused _ _ _ tt e

  pub row-wrong : is_field_size q ≡ true → ((1 ≤ n) × (n ≤ 16) → ⊥) → row_settings_refusal q n ≡ 2
  unfolding row_settings_refusal
  row-wrong e h = test-passed _ _ _ e ∙ test-refused _ _ _ tt (is_false (row_length_ok n) (λ t. h (row-length-fits n t)))

  pub settings-right : is_field_size q ≡ true → 1 ≤ n → n ≤ 16 → row_settings_refusal q n ≡ 0
  unfolding row_length_ok
  settings-right e low high = row-settings-unrefused q n e (rw (le-leb 1 n low, le-leb n 16 high))

module _ (q n r : ℕ) (input : List ℕ) where
  pub many : 64 < r → row_list_refusal q n r input ≡ 13
  unfolding row_list_refusal rows_size_refusal
  many h = let e = test-refused _ 13 _ tt (lt-leb r 64 h) in first-refused _ _ (λ z. positive 13 tt (sym e ∙ z)) ∙ e

  pub missized : r ≤ 64 → (length input ≡ r * n → ⊥) → row_list_refusal q n r input ≡ 4
  unfolding row_list_refusal rows_size_refusal
  missized h l =
      let e = test-passed _ 13 _ (le-leb r 64 h) ∙ test-refused _ 4 [] tt (ne_eqb (length input) (r * n) l) in
      first-refused _ _ (λ z. positive 4 tt (sym e ∙ z)) ∙ e

  pub oversized : r ≤ 64 → length input ≡ r * n → (All (λ x. x < q) input → ⊥) → row_list_refusal q n r input ≡ 6
  unfolding row_list_refusal
  oversized h l above =
      first-passed _ _ (rows-size-unrefused n r (length input) h l)
      ∙ test-refused _ _ _ tt
      (is_false (entries_below q input) (λ t. above (all_of 0 input (entries_below_lem q input (holds (entries_below q input) t)))))

  pub list_right : r ≤ 64 → length input ≡ r * n → All (λ x. x < q) input → row_list_refusal q n r input ≡ 0
  list_right h l below =
      row-list-unrefused n r q input (rows-size-unrefused n r (length input) h l) (entries-below-true q input (all-at below 0))

module _ (q n r : ℕ) (input : List ℕ) (s : ℕ) (other : List ℕ) where
  pub number_is : distance_number (distance_of q n r input s other) ≡ distance_refusal q n r input s other
  number_is = (distance-told q n r input s other _ refl).0

  pub value-is : distance_number (distance_of q n r input s other) ≡ 0
      → distance_value (distance_of q n r input s other) ≡ distance q n (rows_of n r input) (rows_of n s other)
  value-is z = (distance-told q n r input s other _ refl).1 ∙ sym (done _ _ _ (sym number_is ∙ z))

  pub refused-before : (row_settings_refusal q n ≡ 0 → ⊥) → distance_number (distance_of q n r input s other) ≡ row_settings_refusal q n
  unfolding distance_refusal
  refused-before h = number_is ∙ first-refused _ _ h

  pub refused-first : row_settings_refusal q n ≡ 0 → (row_list_refusal q n r input ≡ 0 → ⊥)
      → distance_number (distance_of q n r input s other) ≡ row_list_refusal q n r input
  unfolding distance_refusal
  refused-first e h = number_is ∙ first-passed _ _ e ∙ first-refused _ _ h

  pub refused-second : row_settings_refusal q n ≡ 0 → row_list_refusal q n r input ≡ 0
      → distance_number (distance_of q n r input s other) ≡ row_list_refusal q n s other
  unfolding distance_refusal
  refused-second e z = number_is ∙ first-passed _ _ e ∙ first-passed _ _ z ∙ first_one _
