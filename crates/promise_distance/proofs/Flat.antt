-- Order 10 as one flat statement: quantifiers, implications and pairs, under the order's words, of what the call answers. It follows from
-- the laws of the distance (spaces, laws/Distance and laws/DistanceRow) and from the theorems about receivers, and uses each of them.
--   order-10  == "Add the subspace distance of two row lists over the same q and n: .."
-- Assumes nothing.
use Rattle.std.specs.Prelude.{◌≡◌, refl, true, false, List, ◌∷◌, ◌++◌, ◌↔◌, ℕ, ◌+◌, ◌*◌, ◌≤◌, ◌<◌, length}
use Rattle.std.proofs.Common.{sym, ◌∙◌, subst, subst₂, arith}
use Rattle.refusal.specs.Laws.First.{kept, positive}
use Rattle.field.specs.Field.{is_field_size}
use Rattle.field.specs.FieldLaws.{Laws}
use Rattle.field.specs.Laws.Decide.{laws}
use Rattle.settings.specs.Settings.{settings_refusal}
use Rattle.linear.specs.Span.{All, Row, InSpan, SameSpan, HasDimension, rows_of}
use Rattle.linear.specs.Eliminate.{join}
use Rattle.linear.specs.Laws.FlatMatrix.{rows_join, join-length}
use Rattle.linear.specs.Laws.ReducedRows.{join-below, rows-sized}
use Rattle.spaces.specs.Spaces.{Within, CommonSpace}
use Rattle.spaces.specs.Distance.{distance}
use Rattle.spaces.proofs.Laws.Distance.{distance-zero, distance-symmetric, distance-triangle, distance_most}
use Rattle.reduce.specs.Reduce.{row_list_refusal}
use Rattle.distance.specs.Distance.{distance_of, distance_number, distance_value}
use Rattle.distance.specs.Laws.DistanceAccepted.{DistanceAccepted, distance-passed, distance-accepted, distance-told, list-rows}
use Rattle.receiver.specs.Receiver.{setup, used}
use Rattle.receiver.specs.Laws.Held.{settings-laws}
use Rattle.promise_recovery.specs.Calls.{Call, begun, after, accepted}
use Rattle.promise_recovery.proofs.Laws.After.{accepted-rows}
use Rattle.promise_distance.specs.Apart.{measured}
use Rattle.promise_distance.specs.Theorem.{held-measured, one-call-more, one-call-other}
use Rattle.promise_distance.specs.Laws.Refused.{number_is, value-is, size-wrong, row-wrong, settings-right}
use Rattle.promise_distance.specs.Laws.Refused.{many, missized, oversized, list_right, refused-before, refused-first, refused-second}
use Rattle.promise_distance.specs.Laws.Rows.{row-dropped, row-added, row-replaced}
use Rattle.promise_distance.specs.Laws.Told.{told-dimensions, told-true, told-within, told-common}

-- two lists that are not refused: their rows, and the distance of these
module _ (q n r : ℕ) (input : List ℕ) (s : ℕ) (other : List ℕ) (none : distance_number (distance_of q n r input s other) ≡ 0) where
  ok : DistanceAccepted q n r input s other
  ok = distance-accepted q n r input s other (sym (number_is q n r input s other) ∙ none)

  law : Laws q
  law = laws q ok.field

  first_rows : All (Row q n) (rows_of n r input)
  first_rows = list-rows ok.field ok.first

  second-rows : All (Row q n) (rows_of n s other)
  second-rows = list-rows ok.field ok.second

  value : distance_value (distance_of q n r input s other) ≡ distance q n (rows_of n r input) (rows_of n s other)
  value = value-is q n r input s other none

  -- the same two the other way round
  back_none : distance_number (distance_of q n s other r input) ≡ 0
  back_none =
      let passed = distance-passed q n r input s other (sym (number_is q n r input s other) ∙ none) in
      refused-second q n s other r input passed.0 passed.2 ∙ passed.1

-- a refusal tells no distance
value_none : (q n r : ℕ) (input : List ℕ) (s : ℕ) (other : List ℕ)
    → (distance_number (distance_of q n r input s other) ≡ 0 → ⊥) → distance_value (distance_of q n r input s other) ≡ 0
value_none q n r input s other z =
    (distance-told q n r input s other _ refl).1 ∙ sym (kept _ _ _ (λ e. z (number_is q n r input s other ∙ e)))

-- none to 64 rows, as a list for the call
rows_right : (q n : ℕ) (rows : List (List ℕ)) → length rows ≤ 64 → All (Row q n) rows → row_list_refusal q n (length rows) (join rows) ≡ 0
rows_right q n rows few h = list_right q n (length rows) (join rows) few (join-length n (rows-sized q n h)) (join-below q n h)

-- (The answer to two lists of rows is a refusal number and a distance.)
pub order-10 :
    ((q n r : ℕ) (input : List ℕ) (s : ℕ) (other : List ℕ)
    → let a = distance_of q n r input s other in
    let us = rows_of n r input in
    let vs = rows_of n s other in
    -- "The refusals are Reduce's without the output test: 1 and 2,
    (is_field_size q ≡ false → distance_number a ≡ 1)
    × (is_field_size q ≡ true → ((1 ≤ n) × (n ≤ 16) → ⊥) → distance_number a ≡ 2)
    × (is_field_size q ≡ true → 1 ≤ n → n ≤ 16
    -- then 13, 4, 6 for the first list,
    → (64 < r → distance_number a ≡ 13)
    × (r ≤ 64 → (length input ≡ r * n → ⊥) → distance_number a ≡ 4)
    × (r ≤ 64 → length input ≡ r * n → (All (λ x. x < q) input → ⊥) → distance_number a ≡ 6)
    × (r ≤ 64 → length input ≡ r * n → All (λ x. x < q) input
    -- then 13, 4, 6 for the second."
    → (64 < s → distance_number a ≡ 13)
    × (s ≤ 64 → (length other ≡ s * n → ⊥) → distance_number a ≡ 4)
    × (s ≤ 64 → length other ≡ s * n → (All (λ x. x < q) other → ⊥) → distance_number a ≡ 6)
    -- (None applies otherwise.)
    × (s ≤ 64 → length other ≡ s * n → All (λ x. x < q) other → distance_number a ≡ 0)))
    -- "A refusal gives distance 0."
    × ((distance_number a ≡ 0 → ⊥) → distance_value a ≡ 0)
    -- "Add the subspace distance of two row lists over the same q and n: twice the dimension of their joint span, less the dimension of
    -- each. (Each of the three dimensions is there.)
    × (distance_number a ≡ 0
    → ((d e j : ℕ) × HasDimension q n us d × HasDimension q n vs e × HasDimension q n (us ++ vs) j)
    × ((d e j : ℕ) → HasDimension q n us d → HasDimension q n vs e → HasDimension q n (us ++ vs) j → distance_value a + d + e ≡ 2 * j)
    -- Prove that, for lists not refused, it is 0 exactly for equal spans,
    × ((distance_value a ≡ 0) ↔ SameSpan q n us vs)
    -- the same either way round,
    × (let back = distance_of q n s other r input in (distance_number back ≡ 0) × (distance_value back ≡ distance_value a))
    -- and never more than the sum of the two distances by way of a third list.
    × ((t : ℕ) (third : List ℕ)
    → let there = distance_of q n r input t third in
    let onwards = distance_of q n t third s other in
    distance_number there ≡ 0 → distance_number onwards ≡ 0 → distance_value a ≤ distance_value there + distance_value onwards)
    -- Dropping (the row x, whichever it is and wherever it stands,)
    × ((ws xs : List (List ℕ)) (x : List ℕ) → us ≡ ws ++ (x ∷ xs) → vs ≡ ws ++ xs
    → (distance_value a ≤ 1) × ((distance_value a ≡ 1) ↔ (InSpan q n vs x → ⊥)))
    -- or adding one row moves a list's span by distance at most 1, (and by 1 exactly where it is not in the span of the others,)
    × ((ws xs : List (List ℕ)) (x : List ℕ) → us ≡ ws ++ xs → vs ≡ ws ++ (x ∷ xs)
    → (distance_value a ≤ 1) × ((distance_value a ≡ 1) ↔ (InSpan q n us x → ⊥)))
    -- and replacing one by any other row by at most 2."
    × ((ws xs : List (List ℕ)) (x y : List ℕ) → us ≡ ws ++ (x ∷ xs) → vs ≡ ws ++ (y ∷ xs) → distance_value a ≤ 2)
    -- (Where the first span lies within the second, it is the difference of the dimensions; and so, either way round, where one does so.)
    × (Within q n us vs → (d e : ℕ) → HasDimension q n us d → HasDimension q n vs e → distance_value a + d ≡ e)
    -- (With the dimension of the common space, taken twice, it is both dimensions; and it is at most n.)
    × ((d e c : ℕ) (m : List ℕ) → HasDimension q n us d → HasDimension q n vs e → CommonSpace q n us vs c m
    → d + e ≡ distance_value a + 2 * c)
    × (distance_value a ≤ n)))
    -- (Any two lists of none to 64 rows are measured so, given as their number and their bytes.)
    × ((q n : ℕ) → is_field_size q ≡ true → 1 ≤ n → n ≤ 16 → (us vs : List (List ℕ)) → length us ≤ 64 → length vs ≤ 64
    → All (Row q n) us → All (Row q n) vs
    → (distance_number (distance_of q n (length us) (join us) (length vs) (join vs)) ≡ 0)
    × (rows_of n (length us) (join us) ≡ us)
    × (rows_of n (length vs) (join vs) ≡ vs))
    -- (For radio planning. For accepted settings and any pack, and two lists of calls, each on a receiver of its own from a fresh Start:
    -- what the two hold is measured, and is apart as the rows are that they accepted:
    × ((q n k pack : ℕ) → settings_refusal q n k ≡ 0 → (cs ds : List Call)
    → let st = setup q n k pack in
    let us = accepted (begun st) cs in
    let vs = accepted (begun st) ds in
    let a = after (begun st) cs in
    let b = after (begun st) ds in
    let apart = distance_of q n a.dimension (used a) b.dimension (used b) in
    (distance_number apart ≡ 0)
    × ((d e j : ℕ) → HasDimension q n us d → HasDimension q n vs e → HasDimension q n (us ++ vs) j → distance_value apart + d + e ≡ 2 * j)
    -- by at most 1 where one accepted a row more than the other,
    × ((ws xs : List (List ℕ)) (x : List ℕ) → us ≡ ws ++ (x ∷ xs) → vs ≡ ws ++ xs → distance_value apart ≤ 1)
    × ((ws xs : List (List ℕ)) (x : List ℕ) → us ≡ ws ++ xs → vs ≡ ws ++ (x ∷ xs) → distance_value apart ≤ 1)
    -- by at most 2 where they accepted different rows at one place;
    × ((ws xs : List (List ℕ)) (x y : List ℕ) → us ≡ ws ++ (x ∷ xs) → vs ≡ ws ++ (y ∷ xs) → distance_value apart ≤ 2)
    -- and so where one list has a call more than the other, or another call, accepted or refused.)
    × ((es fs : List Call) (c : Call) → cs ≡ es ++ (c ∷ fs) → ds ≡ es ++ fs → distance_value apart ≤ 1)
    × ((es fs : List Call) (c d : Call) → cs ≡ es ++ (c ∷ fs) → ds ≡ es ++ (d ∷ fs) → distance_value apart ≤ 2))
order-10 = (
  λ q n r input s other.
      let us = rows_of n r input in
      let vs = rows_of n s other in (
        λ e. let w = size-wrong q n e in refused-before q n r input s other (λ z. positive 1 tt (sym w ∙ z)) ∙ w,
        λ e h. let w = row-wrong q n e h in refused-before q n r input s other (λ z. positive 2 tt (sym w ∙ z)) ∙ w,
        λ e low high.
            let right = settings-right q n e low high in (
              λ h. let w = many q n r input h in refused-first q n r input s other right (λ z. positive 13 tt (sym w ∙ z)) ∙ w,
              λ h l. let w = missized q n r input h l in refused-first q n r input s other right (λ z. positive 4 tt (sym w ∙ z)) ∙ w,
              λ h l x. let w = oversized q n r input h l x in refused-first q n r input s other right (λ z. positive 6 tt (sym w ∙ z)) ∙ w,
              λ h l x.
                  let second = refused-second q n r input s other right (list_right q n r input h l x) in (
                    λ g. second ∙ many q n s other g,
                    λ g m. second ∙ missized q n s other g m,
                    λ g m y. second ∙ oversized q n s other g m y,
                    λ g m y. second ∙ list_right q n s other g m y,
                  ),
            ),
        λ z. value_none q n r input s other z,
        λ none.
            let K = law q n r input s other none in
            let hu = first_rows q n r input s other none in
            let hv = second-rows q n r input s other none in
            let is = value q n r input s other none in
            let back = value q n s other r input (back_none q n r input s other none) in (
              told-dimensions q K n us vs hu hv,
              told-true q K n us vs hu hv _ is,
              subst (λ d. (d ≡ 0) ↔ SameSpan q n us vs) (sym is) (distance-zero q K n us vs hu hv),
              (back_none q n r input s other none, back ∙ distance-symmetric q K n vs us hv hu ∙ sym is),
              λ t third there onwards.
                  omega (
                    arith,
                    is,
                    value q n r input t third there,
                    value q n t third s other onwards,
                    distance-triangle q K n us (rows_of n t third) vs hu (second-rows q n r input t third there) hv,
                  ),
              λ ws xs x e f.
                  subst (λ d. (d ≤ 1) × ((d ≡ 1) ↔ (InSpan q n vs x → ⊥))) (sym is) (row-dropped q K n us vs hu hv ws xs x e f),
              λ ws xs x e f.
                  subst (λ d. (d ≤ 1) × ((d ≡ 1) ↔ (InSpan q n us x → ⊥))) (sym is) (row-added q K n us vs hu hv ws xs x e f),
              λ ws xs x y e f. subst (λ d. d ≤ 2) (sym is) (row-replaced q K n us vs hu hv ws xs x y e f),
              told-within q K n us vs hu hv _ is,
              told-common q K n us vs hu hv _ is,
              subst (λ d. d ≤ n) (sym is) (distance_most q K n us vs hu hv),
            ),
      ),
  λ q n e low high us vs few fewer hu hv. (
    refused-second q n _ _ _ _ (settings-right q n e low high) (rows_right q n us few hu) ∙ rows_right q n vs fewer hv,
    rows_join n (rows-sized q n hu),
    rows_join n (rows-sized q n hv),
  ),
  λ q n k pack settings cs ds.
      let st = setup q n k pack in
      let us = accepted (begun st) cs in
      let vs = accepted (begun st) ds in
      let K = settings-laws q n k settings in
      let hu = accepted-rows st settings cs in
      let hv = accepted-rows st settings ds in
      let m = held-measured st settings cs ds in (
        m.0,
        told-true q K n us vs hu hv _ m.1,
        λ ws xs x e f. subst (λ d. d ≤ 1) (sym m.1) (row-dropped q K n us vs hu hv ws xs x e f).0,
        λ ws xs x e f. subst (λ d. d ≤ 1) (sym m.1) (row-added q K n us vs hu hv ws xs x e f).0,
        λ ws xs x y e f. subst (λ d. d ≤ 2) (sym m.1) (row-replaced q K n us vs hu hv ws xs x y e f),
        λ es fs c e f.
            subst₂ (λ x y. distance_value (measured st x y) ≤ 1) (sym e) (sym f) (one-call-more st settings es fs c),
        λ es fs c d e f.
            subst₂ (λ x y. distance_value (measured st x y) ≤ 2) (sym e) (sym f) (one-call-other st settings es fs c d),
      ),
)
