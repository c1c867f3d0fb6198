-- A matrix as bytes and as a list of rows.
--   rows-length  == rows_of n k m has k rows
--   join-rows    == the rows of a matrix, joined, are the matrix
--   rows_join    == the rows of joined rows of length n are those rows
--   join-length  == k joined rows of length n have k·n entries
--   join-entry   == the entries of joined rows, by row and column
--   join-pivot   == the pivots of joined rows are the rows' leads
--   join-at-pivot == the entries of joined rows in a pivot's column
-- Assumes nothing.
use Rattle.std.specs.Prelude.{◌≡◌, refl, List, [], ◌∷◌, ◌++◌, ℕ, zero, suc, ◌+◌, ◌*◌, ◌<◌, length, get_or, take, drop}
use Rattle.std.proofs.Common.{ap, ap₂, sym, ◌∙◌, le_of_suc-le-suc, not-suc-le-zero, zero-mul, arith, length-append, length-drop, take-append-drop, take_at, drop_at, get_or-append-add}
use Rattle.std.proofs.Math.ListN.{get_or-append}
use Rattle.matrix.specs.Matrix.{entry, pivot}
use Rattle.linear.specs.Span.{All, none, more, rows_of}
use Rattle.linear.specs.Eliminate.{join, lead_of}
use Rattle.matrix.specs.Laws.Lead.{lead-same}

pub rows-length : (n k : ℕ) (m : List ℕ) → length (rows_of n k m) ≡ k
unfolding rows_of
rows-length n zero m = refl
rows-length n (suc k) m = ap suc (rows-length n k (drop n m))

no-entries : (m : List ℕ) → length m ≡ 0 → [] ≡ m
no-entries [] e = refl
no-entries (x ∷ m) e = absurd (omega arith)

pub join-rows : (n k : ℕ) (m : List ℕ) → length m ≡ k * n → join (rows_of n k m) ≡ m
unfolding rows_of join
join-rows n zero m e = no-entries m (e ∙ zero-mul n)
join-rows n (suc k) m e = ap (λ x. take n m ++ x) (join-rows n k (drop n m) (length-drop n m ∙ omega arith)) ∙ take-append-drop n m

pub rows_join : (n : ℕ) {rows : List (List ℕ)} → All (λ r. length r ≡ n) rows → rows_of n (length rows) (join rows) ≡ rows
unfolding rows_of join
rows_join n none = refl
rows_join n (more {x = r} {xs = rows} h hs) =
    ap₂ (λ x y. x ∷ y) (take_at r (join rows) n h) (ap (rows_of n (length rows)) (drop_at r (join rows) n h) ∙ rows_join n hs)

pub join-length : (n : ℕ) {rows : List (List ℕ)} → All (λ r. length r ≡ n) rows → length (join rows) ≡ length rows * n
unfolding join
join-length n none = sym (zero-mul n)
join-length n (more {x = r} {xs = rows} h hs) = length-append r (join rows) ∙ omega (arith, join-length n hs)

pub join-entry : (n : ℕ) {rows : List (List ℕ)} → All (λ r. length r ≡ n) rows → (i : ℕ) → i < length rows → (j : ℕ) → j < n
    → entry n (join rows) i j ≡ get_or (get_or rows i []) j 0
unfolding join
join-entry n none i h j g = absurd (not-suc-le-zero h)
join-entry n (more {x = r} {xs = rows} l ls) zero h j g =
    ap (λ x. get_or (r ++ join rows) x 0) (omega arith) ∙ get_or-append r (join rows) 0 j (omega arith)
join-entry n (more {x = r} {xs = rows} l ls) (suc i) h j g =
    ap (λ x. get_or (r ++ join rows) x 0) (omega arith) ∙ get_or-append-add r (join rows) (i * n + j) 0
    ∙ join-entry n ls i (le_of_suc-le-suc h) j g

pub join-pivot : (n : ℕ) {rows : List (List ℕ)} → All (λ r. length r ≡ n) rows → (i : ℕ) → i < length rows
    → pivot n (join rows) i ≡ lead_of n (get_or rows i [])
unfolding lead_of
join-pivot n {rows} l i h = lead-same (entry n (join rows) i) (λ j. get_or (get_or rows i []) j 0) n (λ j g. join-entry n l i h j g)

-- the entry of row a in the column of row i's pivot
pub join-at-pivot : (n : ℕ) {rows : List (List ℕ)} → All (λ r. length r ≡ n) rows → (a : ℕ) → a < length rows → (i : ℕ) → i < length rows
    → lead_of n (get_or rows i []) < n → entry n (join rows) a (pivot n (join rows) i) ≡ get_or (get_or rows a []) (lead_of n (get_or rows i [])) 0
join-at-pivot n {rows} l a g i h lt = ap (entry n (join rows) a) (join-pivot n l i h) ∙ join-entry n l a g (lead_of n (get_or rows i [])) lt
