-- Rows written one after the other, each beside itself or beside zeros, and right halves of rows; no part of the meaning.
--   Stacked          == the first i rows of a matrix stand so behind the bytes l, the next place is `to`, and zeros follow
--   stacked-start, stacked-ready, stacked-more == before the first row; what the next row asks; after it
--   Halved           == `count` right halves of the first i rows of a matrix stand in the bytes, and zeros follow
--   halved-start     == before the first row
--   halved-room      == where one more comes in, there is room for it
--   halved-step      == after one more row, whose right half comes in or not
-- Assumes nothing.
use Rattle.std.specs.Prelude.{◌≡◌, refl, Bool, true, false, ℕ, suc, ◌+◌, ◌*◌, ◌-◌, ◌≤◌, ◌<◌, ltb, take, drop}
use Rattle.std.proofs.Math.Path.{ap, ap₂, sym}
use Rattle.std.proofs.Common.{◌∙◌, arith, ltb-true, ltb-false, length-drop, length-take-le}
use mathlib.Core.List.{List, [], ◌∷◌, ◌++◌, append-nil, append_assoc}
use Rattle.std.proofs.Math.Nat.{zero-mul, sub-zero}
use Rattle.std.proofs.Math.ListN.{length, replicate, length-append}
use Rattle.std.proofs.Math.Seq.{paste, take_at}
use Rattle.basics.specs.Choice.{pick}
use Rattle.basics.specs.Laws.Flat.{row_fits}
use Rattle.linear.specs.Span.{All, none, more, rows_of}
use Rattle.linear.specs.Eliminate.{join, lead_of}
use Rattle.linear.specs.Laws.FlatMatrix.{join-length}
use Rattle.linear.specs.Laws.FlatRows.{join-append}
use Rattle.reduction.specs.Padded.{padded}
use Rattle.spaces.specs.Spaces.{wide, wide_rows, right_halves}
use Rattle.double_rows.specs.Laws.Fill.{padded-put, wide-length, wide-more, rows-width, halves, halves_in, halves-out, halves-grow}

pub record Stacked (size n : ℕ) (doubled : Bool) (l m : List ℕ) (i to : ℕ) (out : List ℕ) : Type 0 where
  pub place : to ≡ length l + i * (n + n)
  pub bytes : out ≡ padded size (l ++ join (wide_rows doubled n (rows_of n i m)))

module _ (size n : ℕ) (doubled : Bool) (l m : List ℕ) where
  pub stacked-start : (out : List ℕ) → out ≡ padded size l → Stacked size n doubled l m 0 (length l) out
  unfolding rows_of wide_rows join
  stacked-start out e =
      record { place = omega (arith, zero-mul (n + n)); bytes = e ∙ ap (padded size) (sym (append-nil l)) }

  module _ (i to : ℕ) (out : List ℕ) (s : Stacked size n doubled l m i to out) (within : i * n ≤ length m) where
    front : List ℕ
    front = l ++ join (wide_rows doubled n (rows_of n i m))

    front_length : length front ≡ to
    unfolding front
    front_length = length-append l _ ∙ ap (λ x. length l + x) (wide-length doubled n i m within) ∙ sym s.place

    taken : take to out ≡ front
    unfolding front padded
    taken = ap (take to) s.bytes ∙ take_at front (replicate (size - length front) 0) to front_length

    pub stacked-ready : out ≡ padded size (take to out)
    unfolding front
    stacked-ready = s.bytes ∙ ap (padded size) (sym taken)

    pub stacked-more : (row after : List ℕ) → row ≡ take n (drop (i * n) m) → length row ≡ n
        → after ≡ padded size (take to out ++ wide doubled (length row) row) → Stacked size n doubled l m (suc i) (to + (n + n)) after
    unfolding front
    stacked-more row after is sized e =
        record {
          place = omega (arith, s.place);
          bytes =
              e ∙ ap₂ (λ (x y : List ℕ). padded size (x ++ y)) taken (ap₂ (wide doubled) sized is)
              ∙ ap (padded size)
              (append_assoc l (join (wide_rows doubled n (rows_of n i m))) (wide doubled n (take n (drop (i * n) m)))
              ∙ ap (λ (x : List ℕ). l ++ x) (sym (wide-more doubled n m i)));
        }

pub record Halved (n : ℕ) (m : List ℕ) (i count : ℕ) (out : List ℕ) : Type 0 where
  pub many : count ≡ length (halves n m i)
  pub bytes : out ≡ padded (n * n) (join (halves n m i))

halves-width : (n : ℕ) {rows : List (List ℕ)} → All (λ r. length r ≡ n + n) rows → All (λ r. length r ≡ n) (right_halves n rows)
unfolding right_halves
halves-width n none = none
halves-width n (more {x = r} {xs = rows} h hs) = cases (ltb (lead_of (n + n) r) n) (halves-width n hs)
  where
    cases : (b : Bool) → All (λ r. length r ≡ n) (right_halves n rows)
        → All (λ r. length r ≡ n) (pick b (right_halves n rows) (drop n r ∷ right_halves n rows))
    cases true hs = hs
    cases false hs = more (length-drop n r ∙ omega arith) hs

module _ (n : ℕ) (m : List ℕ) where
  pub halved-start : (out : List ℕ) → out ≡ replicate (n * n) 0 → Halved n m 0 0 out
  unfolding rows_of right_halves join padded
  halved-start out e = record { many = refl; bytes = e ∙ ap (λ x. replicate x 0) (sym (sub-zero (n * n))) }

  module _ (i d count : ℕ) (out : List ℕ) (s : Halved n m i count out) (below : i < d) (within : d * (n + n) ≤ length m) where
    abbrev row : List ℕ
    row = take (n + n) (drop (i * (n + n)) m)

    bytes-here : length (join (halves n m i)) ≡ count * n
    bytes-here =
        let fits : i * (n + n) ≤ length m = omega (arith, row_fits i d (n + n) below) in
        join-length n (halves-width n (rows-width (n + n) i m fits)) ∙ ap (λ x. x * n) (sym s.many)

    half : length (drop n row) ≡ n
    half =
        length-drop n row
        ∙ omega (
          arith,
          row_fits i d (n + n) below,
          length-take-le (n + n) (drop (i * (n + n)) m) (omega (arith, row_fits i d (n + n) below, length-drop (i * (n + n)) m)),
        )

    pub halved-room : n ≤ lead_of (n + n) row → length (halves n m d) ≤ n → count * n + n ≤ n * n
    halved-room h few =
        let more = ap length (halves_in n m i h) ∙ length-append (halves n m i) (drop n row ∷ []) in
        let grown = halves-grow n m (suc i) d below in
        row_fits count n n (omega (arith, s.many, more, grown))

    halved-in : n ≤ lead_of (n + n) row → length (halves n m d) ≤ n
        → Halved n m (suc i) (count + 1) (paste out (count * n) (drop n row) n)
    unfolding join
    halved-in h few =
        let next = halves_in n m i h in
        record {
          many = omega (arith, s.many, ap length next ∙ length-append (halves n m i) (drop n row ∷ []));
          bytes =
              ap₂ (λ x y. paste x y (drop n row) n) s.bytes (sym bytes-here)
              ∙ ap (paste (padded (n * n) (join (halves n m i))) (length (join (halves n m i))) (drop n row)) (sym half)
              ∙ padded-put (n * n) (join (halves n m i)) (drop n row) (omega (arith, bytes-here, half, halved-room h few))
              ∙ ap (padded (n * n))
              (ap (λ (x : List ℕ). join (halves n m i) ++ x) (sym (append-nil (drop n row)))
              ∙ sym (join-append (halves n m i) (drop n row ∷ [])) ∙ ap join (sym next));
        }

    halved-out : lead_of (n + n) row < n → Halved n m (suc i) count out
    halved-out h =
        let same = halves-out n m i h in
        record { many = s.many ∙ ap length (sym same); bytes = s.bytes ∙ ap (λ x. padded (n * n) (join x)) (sym same) }

    pub halved-step : length (halves n m d) ≤ n → (v : List ℕ) → v ≡ row → (lead : ℕ) → lead ≡ lead_of (n + n) row → (r : ℕ) (after : List ℕ)
        → r ≡ pick (ltb lead n) count (count + 1) → after ≡ pick (ltb lead n) out (paste out (count * n) (drop n v) n)
        → Halved n m (suc i) r after
    halved-step few v same lead is r after counted wrote =
        cases (ltb lead n) refl
        (counted) (wrote ∙ ap (λ x. pick (ltb lead n) out (paste out (count * n) (drop n x) n)) same)
      where
        cases : (b : Bool) → ltb lead n ≡ b → r ≡ pick b count (count + 1) → after ≡ pick b out (paste out (count * n) (drop n row) n)
            → Halved n m (suc i) r after
        cases true e c w = rw (c, w) (halved-out (omega (arith, ltb-true lead n e)))
        cases false e c w = rw (c, w) (halved-in (omega (arith, ltb-false lead n e)) few)
