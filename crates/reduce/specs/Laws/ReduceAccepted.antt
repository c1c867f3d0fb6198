-- A Reduce that is not refused; no part of the meaning.
--   ReduceAccepted   == what holds where none refuses
--   reduce-accepted, reduce-unrefused == what is not refused is ReduceAccepted; and back
--   reduce-known     == the first refusal of Reduce is one, or none
--   reduce-settings  == it begins with the refusals of q and n
--   reduce-told      == the number, the dimension and the vector that an answer of Reduce tells
-- Assumes nothing.
use Rattle.std.specs.Prelude.{◌≡◌, true, ℕ, ◌*◌, ◌≤◌, T, eqb, length, Result, Ok, Err}
use Rattle.std.proofs.Math.Path.{refl, ap, sym}
use Rattle.std.proofs.Common.{◌∙◌}
use mathlib.Core.List.{List, [], ◌∷◌}
use borrow.Author.Tests.{eq-eqb, eqb-true}
use Rattle.basics.specs.Laws.Choice.{holds}
use Rattle.refusal.specs.Refusal.{field_size_refusal, range_refusal, length_refusal, entry_refusal, refuse_unless, first, unless_refused, named}
use Rattle.refusal.specs.Laws.First.{first-zero, first-passed, test_zero, test-passed, first-none, first_head, told-number, told-value}
use Rattle.refusal.specs.Laws.First.{Known, known-none, known-test, known-first}
use Rattle.refusal.specs.declared.Refusal.{Refusal}
use Rattle.refusal.specs.declared.Refusal.TheVariants.{FieldSize, Range, Length, Entry}
use Rattle.field.specs.Field.{is_field_size}
use Rattle.settings.specs.Settings.{row_length_ok}
use Rattle.settings.specs.Laws.Accepted.{row-length-fits}
use Rattle.matrix.specs.Matrix.{entries_below, identifying}
use Rattle.linear.specs.Span.{rows_of}
use Rattle.linear.specs.Eliminate.{reduced_of, dimension}
use Rattle.reduce.specs.Reduce.{most_rows, row_settings_refusal, rows_size_refusal, space_of, reduce_refusal, reduce_of}
use Rattle.reduce.specs.Reduce.{reduction_number, reduction_dimension, reduction_vector}
use Rattle.reduce.specs.Laws.RowList.{rows-size-accepted, rows-size-unrefused, rows-size-known}
use Rattle.reduce.specs.declared.Space.{Space}

pub record ReduceAccepted (q n r : ℕ) (input : List ℕ) (size : ℕ) : Type 0 where
  pub field : T (is_field_size q)
  pub narrow : n ≤ 16
  pub few : r ≤ most_rows
  pub sized : length input ≡ r * n
  pub room : size ≡ n * n
  pub below : T (entries_below q input)

module _ (q n r : ℕ) (input : List ℕ) (size : ℕ) where
  pub reduce-accepted : reduce_refusal q n r input size ≡ 0 → ReduceAccepted q n r input size
  unfolding reduce_refusal
  reduce-accepted e =
      let entries = refuse_unless (entries_below q input) entry_refusal ∷ [] in
      let output = refuse_unless (eqb size (n * n)) length_refusal ∷ entries in
      let rows = rows_size_refusal n r (length input) ∷ output in
      let f = test_zero (is_field_size q) field_size_refusal (refuse_unless (row_length_ok n) range_refusal ∷ rows) tt e in
      let l = test_zero (row_length_ok n) range_refusal rows tt f.1 in
      let c = first-zero (rows_size_refusal n r (length input)) output l.1 in
      let i = rows-size-accepted n r (length input) c.0 in
      let o = test_zero (eqb size (n * n)) length_refusal entries tt c.1 in
      record {
        field = holds (is_field_size q) f.0;
        narrow = (row-length-fits n l.0).1;
        few = i.0;
        sized = i.1;
        room = eqb-true size (n * n) o.0;
        below = holds (entries_below q input) (test_zero (entries_below q input) entry_refusal [] tt o.1).0;
      }

  pub reduce-unrefused : is_field_size q ≡ true → row_length_ok n ≡ true → r ≤ most_rows → length input ≡ r * n → size ≡ n * n
      → entries_below q input ≡ true → reduce_refusal q n r input size ≡ 0
  unfolding reduce_refusal
  reduce-unrefused s l h i o e =
      test-passed _ _ _ s ∙ test-passed _ _ _ l
      ∙ first-passed _ _ (rows-size-unrefused n r (length input) h i)
      ∙ test-passed _ _ _ (eq-eqb size (n * n) o)
      ∙ test-passed _ _ _ e
      ∙ first-none

  pub reduce-settings : reduce_refusal q n r input size
      ≡ first
      (row_settings_refusal q n
      ∷ rows_size_refusal n r (length input)
      ∷ refuse_unless (eqb size (n * n)) length_refusal
      ∷ refuse_unless (entries_below q input) entry_refusal
      ∷ [])
  unfolding reduce_refusal row_settings_refusal
  reduce-settings = sym (first_head _ _ _)

  pub reduce-known : Known (reduce_refusal q n r input size)
  unfolding reduce_refusal
  reduce-known =
      known-first _ _ (known-test _ FieldSize)
      (known-first _ _ (known-test _ Range)
      (known-first _ _ (rows-size-known n r (length input))
      (known-first _ _ (known-test _ Length) (known-first _ _ (known-test _ Entry) known-none))))

  pub reduce-told : (a : Result Space Refusal) → a ≡ reduce_of q n r input size
      → (reduction_number a ≡ reduce_refusal q n r input size)
      × (reduction_dimension a ≡ unless_refused (reduce_refusal q n r input size) (dimension q n (rows_of n r input)) 0)
      × (reduction_vector a ≡ unless_refused (reduce_refusal q n r input size)
      (identifying n (dimension q n (rows_of n r input)) (reduced_of q n (rows_of n r input))) 0)
  unfolding reduce_of
  reduce-told a e =
      let refusal = reduce_refusal q n r input size in
      let d = dimension q n (rows_of n r input) in
      let m = reduced_of q n (rows_of n r input) in
      let done = Ok (space_of n d m) in
      let other = Err (named refusal) in (
        ap reduction_number e ∙ told-number refusal done other reduction_number refl reduce-known,
        ap reduction_dimension e ∙ told-value refusal done other reduction_dimension d refl refl,
        ap reduction_vector e ∙ told-value refusal done other reduction_vector (identifying n d m) refl refl,
      )
