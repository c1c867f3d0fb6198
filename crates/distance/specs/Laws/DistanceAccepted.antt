-- Two lists of rows whose distance is not refused; no part of the meaning.
--   ListAccepted      == what holds of a list that none refuses
--   list-rows         == its rows are rows
--   DistanceAccepted  == what holds where none refuses
--   distance-passed   == then none of the tests refuses
--   distance-accepted == and what is not refused is DistanceAccepted
--   distance-known    == the first refusal of the call is one, or none
--   distance-told     == the number and the distance that an answer tells
-- Assumes nothing.
use Rattle.std.specs.Prelude.{◌≡◌, ℕ, ◌*◌, ◌≤◌, T, length, Result, Ok, Err}
use Rattle.std.proofs.Math.Path.{refl, ap}
use Rattle.std.proofs.Common.{◌∙◌}
use mathlib.Core.List.{List, [], ◌∷◌}
use Rattle.refusal.specs.Refusal.{unless_refused, named}
use Rattle.refusal.specs.Laws.First.{first-zero, told-number, told-value, Known, known-none, known-first}
use Rattle.field.specs.Field.{is_field_size}
use Rattle.matrix.specs.Matrix.{entries_below}
use Rattle.linear.specs.Span.{All, Row, rows_of}
use Rattle.spaces.specs.Distance.{distance}
use Rattle.reduce.specs.Reduce.{most_rows, row_settings_refusal, row_list_refusal}
use Rattle.reduce.specs.Laws.ReduceRows.{input-rows}
use Rattle.reduce.specs.Laws.RowList.{row-settings-accepted, rows-size-accepted, row-list-accepted}
use Rattle.reduce.specs.Laws.RowList.{row-settings-known, row-list-known}
use Rattle.distance.specs.Distance.{distance_refusal, distance_of, distance_number, distance_value}
use Rattle.refusal.specs.declared.Refusal.{Refusal}

pub record ListAccepted (q n r : ℕ) (input : List ℕ) : Type 0 where
  pub few : r ≤ most_rows
  pub sized : length input ≡ r * n
  pub below : T (entries_below q input)

pub record DistanceAccepted (q n r : ℕ) (input : List ℕ) (s : ℕ) (other : List ℕ) : Type 0 where
  pub field : T (is_field_size q)
  pub narrow : n ≤ 16
  pub first : ListAccepted q n r input
  pub second : ListAccepted q n s other

list-accepted : (q n r : ℕ) (input : List ℕ) → row_list_refusal q n r input ≡ 0 → ListAccepted q n r input
list-accepted q n r input e =
    let l = row-list-accepted n r q input e in
    let s = rows-size-accepted n r (length input) l.0 in
    record { few = s.0; sized = s.1; below = l.1 }

pub list-rows : {q n r : ℕ} {input : List ℕ} → T (is_field_size q) → ListAccepted q n r input → All (Row q n) (rows_of n r input)
list-rows field l = input-rows _ _ _ _ field l.sized l.below

module _ (q n r : ℕ) (input : List ℕ) (s : ℕ) (other : List ℕ) where
  pub distance-passed : distance_refusal q n r input s other ≡ 0
      → (row_settings_refusal q n ≡ 0) × (row_list_refusal q n r input ≡ 0) × (row_list_refusal q n s other ≡ 0)
  unfolding distance_refusal
  distance-passed e =
      let second = row_list_refusal q n s other ∷ [] in
      let begun = first-zero (row_settings_refusal q n) (row_list_refusal q n r input ∷ second) e in
      let lists = first-zero (row_list_refusal q n r input) second begun.1 in
      (begun.0, lists.0, (first-zero (row_list_refusal q n s other) [] lists.1).0)

  pub distance-accepted : distance_refusal q n r input s other ≡ 0 → DistanceAccepted q n r input s other
  distance-accepted e =
      let passed = distance-passed e in
      let settings = row-settings-accepted q n passed.0 in
      record {
        field = settings.0;
        narrow = settings.2;
        first = list-accepted q n r input passed.1;
        second = list-accepted q n s other passed.2;
      }

  pub distance-known : Known (distance_refusal q n r input s other)
  unfolding distance_refusal
  distance-known =
      known-first _ _ (row-settings-known q n)
      (known-first _ _ (row-list-known n r q input) (known-first _ _ (row-list-known n s q other) known-none))

  pub distance-told : (a : Result ℕ Refusal) → a ≡ distance_of q n r input s other
      → (distance_number a ≡ distance_refusal q n r input s other)
      × (distance_value a ≡ unless_refused (distance_refusal q n r input s other) (distance q n (rows_of n r input) (rows_of n s other)) 0)
  unfolding distance_of
  distance-told a e =
      let refusal = distance_refusal q n r input s other in
      let d = distance q n (rows_of n r input) (rows_of n s other) in
      let answer = Ok d in
      let other = Err (named refusal) in (
        ap distance_number e ∙ told-number refusal answer other distance_number refl distance-known,
        ap distance_value e ∙ told-value refusal answer other distance_value d refl refl,
      )
