-- A matrix as bytes, and what it is to be reduced. Document 01: "A matrix is k×n bytes, row by row from the top, one entry a byte,
-- each below q. It is reduced when no row is zero, each row's first nonzero entry (its pivot) is 1, each pivot lies to the right of the
-- one above, and a pivot is the only nonzero entry of its column. With k = 0 the matrix is empty."
--   entry n m i j   == the entry of the matrix m with n columns at row i from the top and column j from the left, both from 0
--   lead f n        == the first place below n where f is not 0; n where there is none
--   pivot n m i     == the column, from the left, of row i's pivot; n where the row is zero
--   pivot_at n k m j == the test that column j from the right, 1 to n, has a pivot: document 01's v_j
--   identifying n k m == the identifying vector as a number: column j from the right has the value 2^(j-1)
--   column_value q n k m j == document 01's {X_j}: column j from the right as a base-q number, top row most significant
--   entries_below q m == the test that every entry is below q
--   is_reduced n k m == the test of the four clauses, row by row; `reduced-exactly` of Decided shows that with the length and the entries
--                      in order it is exactly Reduced
--   Reduced q n k m == m is a reduced matrix of k rows and n columns over the field of size q
-- Assumes nothing.
use Rattle.std.specs.Prelude.{◌≡◌, List, Bool, ◌&&◌, ◌||◌, ℕ, zero, suc, ◌+◌, ◌*◌, ◌-◌, ◌^◌, ◌<◌, eqb, ltb, leb, length, get_or}
use Rattle.basics.specs.All.{all_below}
use Rattle.basics.specs.Choice.{pick}
use Rattle.basics.specs.Member.{member}
use Rattle.basics.specs.Sum.{sum, value, bit}
use Rattle.basics.specs.Table.{tabulate}

abbrev pub entry : ℕ → List ℕ → ℕ → ℕ → ℕ
entry n m i j = get_or m (i * n + j) 0

-- the first of the places j, j+1, .. , as many as `left` says, where f is not 0; the place after them where there is none
unfoldable pub lead_from : (ℕ → ℕ) → ℕ → ℕ → ℕ
lead_from f j zero = j
lead_from f j (suc left) = pick (eqb (f j) 0) (lead_from f (suc j) left) j

unfoldable pub lead : (ℕ → ℕ) → ℕ → ℕ
lead f n = lead_from f 0 n

abbrev pub pivot : ℕ → List ℕ → ℕ → ℕ
pivot n m i = lead (entry n m i) n

unfoldable pub pivot_at : ℕ → ℕ → List ℕ → ℕ → Bool
pivot_at n k m j = member (n - j) (tabulate (pivot n m) 0 k)

unfoldable pub identifying : ℕ → ℕ → List ℕ → ℕ
identifying n k m = sum n (λ i. bit (pivot_at n k m (suc i)) * 2 ^ i)

unfoldable pub column_value : ℕ → ℕ → ℕ → List ℕ → ℕ → ℕ
column_value q n k m j = value q (tabulate (λ i. entry n m i (n - j)) 0 k)

pub record Reduced (q n k : ℕ) (m : List ℕ) : Type 0 where
  pub size : length m ≡ k * n
  pub below : (place : ℕ) → place < k * n → get_or m place 0 < q
  pub no-zero-row : (i : ℕ) → i < k → pivot n m i < n
  pub pivot-one : (i : ℕ) → i < k → entry n m i (pivot n m i) ≡ 1
  pub pivots-rise : (i : ℕ) → suc i < k → pivot n m i < pivot n m (suc i)
  pub pivot-alone : (i : ℕ) → i < k → (a : ℕ) → a < k → (a ≡ i → ⊥) → entry n m a (pivot n m i) ≡ 0

unfoldable pub entries_below : ℕ → List ℕ → Bool
entries_below q m = all_below (length m) (λ place. ltb (get_or m place 0) q)

-- column j is zero but for row i
unfoldable pub column_alone : ℕ → ℕ → List ℕ → ℕ → ℕ → Bool
column_alone n k m i j = all_below k (λ a. eqb a i || eqb (entry n m a j) 0)

-- row i, whose pivot is in column p, obeys the four clauses
unfoldable pub row_reduced : ℕ → ℕ → List ℕ → ℕ → ℕ → Bool
row_reduced n k m i p =
    ltb p n && (eqb (entry n m i p) 1 && ((leb k (suc i) || ltb p (pivot n m (suc i))) && column_alone n k m i p))

unfoldable pub is_reduced : ℕ → ℕ → List ℕ → Bool
is_reduced n k m = all_below k (λ i. row_reduced n k m i (pivot n m i))
