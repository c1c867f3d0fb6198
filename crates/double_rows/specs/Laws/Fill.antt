-- Bytes written after bytes, with zeros up to the end; no part of the meaning.
--   padded-put      == a piece pasted where the zeros begin
--   padded-none     == zeros alone
--   padded-taken, padded-size, padded-again == the bytes before the zeros, and how many there are in all
--   padded-zeros    == zeros after the bytes are the zeros that are there
--   padded-more, padded-front == zeros after padded bytes, and fewer of them
--   paste-whole     == a piece pasted over bytes that are as many
--   row_put, row-beside-zero, row-beside-itself == a row pasted where the zeros begin, once or twice
--   rows-width      == the rows of a matrix have its width
--   wide-count, wide-length, wide-more == rows of width n + n, in bytes: how many, and one more row
--   halves n m i    == the right halves of the first i rows of the matrix m
--   halves_in, halves-out == one more row: its right half comes in, or not
--   halves-grow     == those of fewer rows are no more
-- Assumes nothing.
use Rattle.std.specs.Prelude.{◌≡◌, refl, Bool, true, false, List, [], ◌∷◌, ◌++◌, ℕ, zero, suc, ◌+◌, ◌*◌, ◌-◌, ◌≤◌, ◌<◌, ltb, drop, replicate}
use Rattle.std.proofs.Math.Path.{ap, ap₂}
use Rattle.std.proofs.Common.{sym, ◌∙◌, subst, append-nil, append_assoc, zero-add, arith, lt-ltb, le-ltb, length-drop, take_all, length-take-le}
use Rattle.std.proofs.Math.Nat.{sub-zero}
use Rattle.std.proofs.Math.ListN.{length, take, length-append}
use Rattle.std.proofs.lemmas.List.{length-replicate, replicate-append-replicate}
use Rattle.std.proofs.Math.Seq.{paste, take_at, drop-length, drop-append-add}
use Rattle.basics.specs.Choice.{pick}
use Rattle.basics.specs.Laws.Replicate.{drop-replicate}
use Rattle.linear.specs.Span.{All, none, more, rows_of}
use Rattle.linear.specs.Eliminate.{join, lead_of}
use Rattle.linear.specs.Laws.FlatMatrix.{rows-length, join-length}
use Rattle.linear.specs.Laws.FlatRows.{rows_last}
use Rattle.reduction.specs.Padded.{padded}
use Rattle.reduction.specs.Laws.Insert.{padded-length}
use Rattle.spaces.specs.Spaces.{wide, wide_rows, right_halves}

pub padded-put : (size : ℕ) (l piece : List ℕ) → length l + length piece ≤ size
    → paste (padded size l) (length l) piece (length piece) ≡ padded size (l ++ piece)
unfolding padded
padded-put size l piece h =
    ap₂ (λ (x y : List ℕ). x ++ y ++ drop (length l + length piece) (padded size l))
    (take_at l (replicate (size - length l) 0) (length l) refl)
    (take_all (length piece) piece (omega arith))
    ∙ ap (λ (x : List ℕ). l ++ piece ++ x)
    (drop-append-add l (replicate (size - length l) 0) (length piece) ∙ drop-replicate (length piece) (size - length l) 0
    ∙ ap (λ x. replicate x 0) left)
  where
    left : size - length l - length piece ≡ size - length (l ++ piece)
    left = omega (arith, length-append l piece)

pub padded-none : (size : ℕ) → replicate {A = ℕ} size 0 ≡ padded (length (replicate {A = ℕ} size 0)) (take 0 (replicate size 0))
unfolding padded
padded-none size = ap (λ x. replicate x 0) (sym (length-replicate {A = ℕ} size 0) ∙ sym (sub-zero (length (replicate {A = ℕ} size 0))))

-- the bytes before the zeros, and how many there are in all
module _ (size k : ℕ) (l m : List ℕ) (is : m ≡ padded size l) (count : length l ≡ k) (fits : k ≤ size) where
  pub padded-taken : take k m ≡ l
  unfolding padded
  padded-taken = ap (take k) is ∙ take_at l (replicate (size - length l) 0) k count

  pub padded-size : length m ≡ size
  padded-size = ap length is ∙ padded-length size l (omega arith)

  pub padded-again : m ≡ padded (length m) (take k m)
  padded-again = is ∙ ap₂ padded (sym padded-size) (sym padded-taken)

pub padded-zeros : (size n : ℕ) (l : List ℕ) → length l + n ≤ size → padded size l ≡ padded size (l ++ replicate n 0)
unfolding padded
padded-zeros size n l h =
    ap (λ (x : List ℕ). l ++ x)
    (ap (λ x. replicate x 0) more ∙ sym (replicate-append-replicate n (size - length (l ++ replicate n 0)) 0))
    ∙ sym (append_assoc l (replicate n 0) (replicate (size - length (l ++ replicate n 0)) 0))
  where
    more : size - length l ≡ n + (size - length (l ++ replicate n 0))
    more = omega (arith, length-append l (replicate n 0), length-replicate {A = ℕ} n 0)

pub padded-more : (size room : ℕ) (l : List ℕ) → length l ≤ size → size ≤ room → padded size l ++ replicate (room - size) 0 ≡ padded room l
unfolding padded
padded-more size room l h g =
    append_assoc l (replicate (size - length l) 0) (replicate (room - size) 0)
    ∙ ap (λ (x : List ℕ). l ++ x) (replicate-append-replicate (size - length l) (room - size) 0 ∙ ap (λ x. replicate x 0) left)
  where
    left : size - length l + (room - size) ≡ room - length l
    left = omega arith

pub padded-front : (size room : ℕ) (l : List ℕ) → length l ≤ size → size ≤ room → take size (padded room l) ≡ padded size l
padded-front size room l h g =
    ap (take size) (sym (padded-more size room l h g)) ∙ take_at (padded size l) (replicate (room - size) 0) size (padded-length size l h)

-- a piece pasted over bytes that are as many
pub paste-whole : (old piece : List ℕ) → length piece ≡ length old → paste old 0 piece (length piece) ≡ piece
paste-whole old piece e =
    ap₂ (λ (x y : List ℕ). x ++ y) (take_all (length piece) piece (omega arith))
    (ap (λ k. drop k old) (zero-add (length piece) ∙ e) ∙ drop-length old)
    ∙ append-nil piece

-- what stands before the zeros, where they begin at the place `at`
module _ (out row : List ℕ) (at : ℕ) (zeros : out ≡ padded (length out) (take at out)) (fits : at + length row + length row ≤ length out)
  where
    before : length (take at out) ≡ at
    before = length-take-le at out (omega arith)

    pub row_put : paste out at row (length row) ≡ padded (length out) (take at out ++ row)
    row_put =
        ap₂ (λ x y. paste x y row (length row)) zeros (sym before) ∙ padded-put (length out) (take at out) row (omega (arith, before))

    pub row-beside-zero : paste out at row (length row) ≡ padded (length out) (take at out ++ wide false (length row) row)
    unfolding wide
    row-beside-zero =
        row_put ∙ padded-zeros (length out) (length row) (take at out ++ row) (omega (arith, length-append (take at out) row, before))
        ∙ ap (padded (length out)) (append_assoc (take at out) row (replicate (length row) 0))

    pub row-beside-itself : paste (paste out at row (length row)) (at + length row) row (length row)
        ≡ padded (length out) (take at out ++ wide true (length row) row)
    unfolding wide
    row-beside-itself =
        let l = take at out ++ row in
        let size : length l ≡ at + length row = length-append (take at out) row ∙ ap (λ x. x + length row) before in
        ap₂ (λ x y. paste x y row (length row)) row_put (sym size) ∙ padded-put (length out) l row (omega (arith, size))
        ∙ ap (padded (length out)) (append_assoc (take at out) row row)

-- the rows of a matrix have its width
pub rows-width : (n k : ℕ) (m : List ℕ) → k * n ≤ length m → All (λ r. length r ≡ n) (rows_of n k m)
unfolding rows_of
rows-width n zero m h = none
rows-width n (suc k) m h = more (length-take-le n m (omega arith)) (rows-width n k (drop n m) (simp length-drop (omega arith)))

wide-width : (doubled : Bool) (n : ℕ) {rows : List (List ℕ)} → All (λ r. length r ≡ n) rows
    → All (λ r. length r ≡ n + n) (wide_rows doubled n rows)
unfolding wide_rows wide
wide-width doubled n none = none
wide-width doubled n (more {x = r} h hs) =
    more (length-append r (pick doubled r (replicate n 0)) ∙ omega (arith, h, other doubled)) (wide-width doubled n hs)
  where
    other : (b : Bool) → length (pick b r (replicate n 0)) ≡ n
    other true = h
    other false = length-replicate n 0

pub wide-count : (doubled : Bool) (n : ℕ) (rows : List (List ℕ)) → length (wide_rows doubled n rows) ≡ length rows
unfolding wide_rows
wide-count doubled n [] = refl
wide-count doubled n (r ∷ rows) = ap suc (wide-count doubled n rows)

pub wide-length : (doubled : Bool) (n i : ℕ) (m : List ℕ) → i * n ≤ length m
    → length (join (wide_rows doubled n (rows_of n i m))) ≡ i * (n + n)
wide-length doubled n i m h =
    join-length (n + n) (wide-width doubled n (rows-width n i m h))
    ∙ ap (λ x. x * (n + n)) (wide-count doubled n (rows_of n i m) ∙ rows-length n i m)

wide-append : (doubled : Bool) (n : ℕ) (rows : List (List ℕ)) (row : List ℕ)
    → join (wide_rows doubled n (rows ++ (row ∷ []))) ≡ join (wide_rows doubled n rows) ++ wide doubled n row
unfolding wide_rows join
wide-append doubled n [] row = append-nil (wide doubled n row)
wide-append doubled n (r ∷ rows) row =
    ap (λ (x : List ℕ). wide doubled n r ++ x) (wide-append doubled n rows row)
    ∙ sym (append_assoc (wide doubled n r) (join (wide_rows doubled n rows)) (wide doubled n row))

pub wide-more : (doubled : Bool) (n : ℕ) (m : List ℕ) (i : ℕ)
    → join (wide_rows doubled n (rows_of n (suc i) m)) ≡ join (wide_rows doubled n (rows_of n i m)) ++ wide doubled n (take n (drop (i * n) m))
wide-more doubled n m i =
    ap (λ x. join (wide_rows doubled n x)) (rows_last n m i) ∙ wide-append doubled n (rows_of n i m) (take n (drop (i * n) m))

halves-append : (n : ℕ) (rows : List (List ℕ)) (row : List ℕ)
    → right_halves n (rows ++ (row ∷ [])) ≡ right_halves n rows ++ pick (ltb (lead_of (n + n) row) n) [] (drop n row ∷ [])
unfolding right_halves
halves-append n [] row = refl
halves-append n (r ∷ rows) row = cases (ltb (lead_of (n + n) r) n) (halves-append n rows row)
  where
    last : List (List ℕ)
    last = pick (ltb (lead_of (n + n) row) n) [] (drop n row ∷ [])

    cases : (b : Bool) → right_halves n (rows ++ (row ∷ [])) ≡ right_halves n rows ++ last
        → pick b (right_halves n (rows ++ (row ∷ []))) (drop n r ∷ right_halves n (rows ++ (row ∷ [])))
        ≡ pick b (right_halves n rows) (drop n r ∷ right_halves n rows) ++ last
    cases true e = e
    cases false e = ap (λ x. drop n r ∷ x) e

-- the right halves of the first i rows of a matrix of width n + n
module _ (n : ℕ) (m : List ℕ) where
  abbrev row : ℕ → List ℕ
  row i = take (n + n) (drop (i * (n + n)) m)

  abbrev pub halves : ℕ → List (List ℕ)
  halves i = right_halves n (rows_of (n + n) i m)

  halves-more : (i : ℕ) → halves (suc i) ≡ halves i ++ pick (ltb (lead_of (n + n) (row i)) n) [] (drop n (row i) ∷ [])
  halves-more i = ap (right_halves n) (rows_last (n + n) m i) ∙ halves-append n (rows_of (n + n) i m) (row i)

  pub halves_in : (i : ℕ) → n ≤ lead_of (n + n) (row i) → halves (suc i) ≡ halves i ++ (drop n (row i) ∷ [])
  halves_in i h = halves-more i ∙ ap (λ b. halves i ++ pick b [] (drop n (row i) ∷ [])) (le-ltb (lead_of (n + n) (row i)) n h)

  pub halves-out : (i : ℕ) → lead_of (n + n) (row i) < n → halves (suc i) ≡ halves i
  halves-out i h =
      halves-more i ∙ ap (λ b. halves i ++ pick b [] (drop n (row i) ∷ [])) (lt-ltb (lead_of (n + n) (row i)) n h) ∙ append-nil (halves i)

  grow : (k i : ℕ) → length (halves i) ≤ length (halves (k + i))
  grow zero i = rw (zero-add i) (omega arith)
  grow (suc k) i =
      let e : suc k + i ≡ suc (k + i) = omega arith in
      let l = ap length (halves-more (k + i)) ∙ length-append (halves (k + i)) _ in
      rw e (omega (arith, l, grow k i))

  pub halves-grow : (i d : ℕ) → i ≤ d → length (halves i) ≤ length (halves d)
  halves-grow i d h = subst (λ x. length (halves i) ≤ length (halves x)) (omega arith) (grow (d - i) i)
