-- The bytes of a matrix and its entries.
--   length-flatten   == the bytes of k rows and n columns are k·n
--   entry-flatten    == the entry of the bytes at row i and column j is the matrix's
--   flatten-same     == two matrices that agree on k rows and n columns have the same bytes there
--   flatten-entries  == k·n bytes are the bytes of their entries
--   factor-positive  == a factor of what is above a number is above 0
--   place-row, place-column, place-entry == a place below k·n is in a row below k and a column below n, and holds that entry
-- Assumes nothing.
use Rattle.std.specs.Prelude.{◌≡◌, refl, List, ◌++◌, ℕ, zero, suc, ◌+◌, ◌*◌, ◌/◌, ◌%◌, ◌<◌, length, get_or}
use Rattle.std.proofs.Common.{ap, ap₂, ◌∙◌, sym, zero-add, zero-mul, mul-zero, div-lt_iff_lt-mul, div-add-mod', mod-lt, not-suc-le-zero, le_of_suc-le-suc, arith, length-append, get_or-append-add, ext_get_or}
use Rattle.std.proofs.Math.ListN.{get_or-append}
use Rattle.basics.specs.Table.{tabulate}
use Rattle.basics.specs.Laws.Table.{table_at}
use Rattle.basics.specs.Laws.TableLaws.{tabulate-same}
use Rattle.basics.specs.Laws.TableSize.{tabulate-length}
use Rattle.matrix.specs.Matrix.{entry}
use Rattle.matrix.specs.Shape.{flatten}

pub length-flatten : (k n : ℕ) (A : ℕ → ℕ → ℕ) → length (flatten k n A) ≡ k * n
unfolding flatten
length-flatten zero n A = sym (zero-mul n)
length-flatten (suc k) n A =
    length-append (tabulate (A 0) 0 n) (flatten k n (λ i. A (suc i)))
    ∙ ap₂ (λ a b. a + b) (tabulate-length (A 0) 0 n) (length-flatten k n (λ i. A (suc i)))
    ∙ omega arith

pub entry-flatten : (k n : ℕ) (A : ℕ → ℕ → ℕ) (i j : ℕ) → i < k → j < n → entry n (flatten k n A) i j ≡ A i j
unfolding flatten
entry-flatten zero n A i j h g = absurd (not-suc-le-zero h)
entry-flatten (suc k) n A zero j h g =
    rw (zero-mul, zero-add)
    (get_or-append (tabulate (A 0) 0 n) (flatten k n (λ i. A (suc i))) 0 j (omega (arith, tabulate-length (A 0) 0 n))
    ∙ table_at (A 0) n j g)
entry-flatten (suc k) n A (suc i) j h g =
    let place : suc i * n + j ≡ length (tabulate (A 0) 0 n) + (i * n + j) = omega (arith, tabulate-length (A 0) 0 n) in
    rw place
    (get_or-append-add (tabulate (A 0) 0 n) (flatten k n (λ a. A (suc a))) (i * n + j) 0
    ∙ entry-flatten k n (λ a. A (suc a)) i j (le_of_suc-le-suc h) g)

pub flatten-same : (k n : ℕ) (A B : ℕ → ℕ → ℕ) → ((i j : ℕ) → i < k → j < n → A i j ≡ B i j) → flatten k n A ≡ flatten k n B
unfolding flatten
flatten-same zero n A B h = refl
flatten-same (suc k) n A B h =
    ap₂ (λ (a b : List ℕ). a ++ b) (tabulate-same (A 0) (B 0) 0 n (λ j l b. h 0 j (omega arith) (omega arith)))
    (flatten-same k n (λ i. A (suc i)) (λ i. B (suc i)) (λ i j l b. h (suc i) j (omega arith) b))

-- a factor of what is above a number is above 0
pub factor-positive : (a b i : ℕ) → i < a * b → 0 < b
factor-positive a zero i h = absurd (not-suc-le-zero (rw mul-zero at h))
factor-positive a (suc b) i h = omega arith

module _ (k n place : ℕ) (inside : place < k * n) where
  pub place-row : place / n < k
  place-row = (div-lt_iff_lt-mul (factor-positive k n place inside)).1 inside

  pub place-column : place % n < n
  place-column = mod-lt place (factor-positive k n place inside)

  pub place-entry : (m : List ℕ) → entry n m (place / n) (place % n) ≡ get_or m place 0
  place-entry m = ap (λ p. get_or m p 0) (div-add-mod' place n)

pub flatten-entries : (k n : ℕ) (m : List ℕ) → length m ≡ k * n → flatten k n (entry n m) ≡ m
flatten-entries k n m size =
    ext_get_or 0 (flatten k n (entry n m)) m (length-flatten k n (entry n m) ∙ sym size)
    (λ p b.
    let inside : p < k * n = omega (arith, length-flatten k n (entry n m)) in
    sym (place-entry k n p inside (flatten k n (entry n m)))
    ∙ entry-flatten k n (entry n m) (p / n) (p % n) (place-row k n p inside) (place-column k n p inside)
    ∙ place-entry k n p inside m)
