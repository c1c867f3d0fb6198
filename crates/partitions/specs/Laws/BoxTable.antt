-- The partition counts of all boxes, row by row; no part of the meaning.
--   level n              == for each k of 0 to n the list p(k, n-k, 0), p(k, n-k, 1), .. , p(k, n-k, k(n-k)), from the level before
--   level-at             == its entries are the partition counts
--   box_table             == for each n and k of 0 to 16 such a list, one after the other
-- Assumes nothing.
use Rattle.std.specs.Prelude.{◌≡◌, refl, List, [], ◌∷◌, ◌++◌, ℕ, zero, suc, ◌+◌, ◌*◌, ◌-◌, ◌/◌, ◌%◌, ◌≤◌, ◌<◌, leb, get_or, length, replicate}
use Rattle.std.proofs.Common.{ap, ap₂, ◌∙◌, sym, ⊎_elim, zero-le, add-zero, zero-add, add-suc, suc-add, arith, le-leb, ne_eqb, get_or-append-add}
use Rattle.std.proofs.Math.Nat.{sub-zero}
use Rattle.std.proofs.lemmas.Bool.{lt-leb}
use Rattle.std.proofs.lemmas.List.{length-replicate, get_or-replicate}
use Rattle.std.proofs.Math.ListN.{get_or-append}
use Rattle.basics.specs.Choice.{pick}
use Rattle.basics.specs.Laws.Order.{le-or-lt}
use Rattle.basics.specs.Laws.Ragged.{ragged}
use Rattle.partitions.specs.Partitions.{partitions_less, box_count}
use Rattle.partitions.specs.Laws.Box.{box-no-row}
use Rattle.partitions.specs.Laws.Less.{less_zero}

unfoldable pub add_rows : List ℕ → List ℕ → List ℕ
add_rows [] ys = ys
add_rows (x ∷ xs) [] = x ∷ xs
add_rows (x ∷ xs) (y ∷ ys) = (x + y) ∷ add_rows xs ys

abbrev zeros : ℕ → List ℕ
zeros k = replicate k 0

-- the list with k zeros before it; of no list none
unfoldable pub shifted : ℕ → List ℕ → List ℕ
shifted k [] = []
shifted k (x ∷ xs) = zeros k ++ (x ∷ xs)

-- from the row k of the level before on, with its row k - 1
unfoldable pub next_rows : ℕ → List ℕ → List (List ℕ) → List (List ℕ)
next_rows k before [] = before ∷ []
next_rows k before (row ∷ rows) = add_rows (shifted k row) before ∷ next_rows (suc k) row rows

unfoldable pub level : ℕ → List (List ℕ)
level zero = (1 ∷ []) ∷ []
level (suc n) = next_rows 0 [] (level n)

add_rows-at : (xs ys : List ℕ) (m : ℕ) → get_or (add_rows xs ys) m 0 ≡ get_or xs m 0 + get_or ys m 0
unfolding add_rows
add_rows-at [] ys m = sym (zero-add (get_or ys m 0))
add_rows-at (x ∷ xs) [] m = sym (add-zero (get_or (x ∷ xs) m 0))
add_rows-at (x ∷ xs) (y ∷ ys) zero = refl
add_rows-at (x ∷ xs) (y ∷ ys) (suc m) = add_rows-at xs ys m

zeros-length : (k : ℕ) → length (zeros k) ≡ k
zeros-length k = length-replicate k 0

shifted_at : (k : ℕ) (row : List ℕ) (m : ℕ) → get_or (shifted k row) m 0 ≡ partitions_less (λ x. get_or row x 0) m k
unfolding shifted
shifted_at k [] m = sym (less_zero (λ x. 0) m k (λ _. refl))
shifted_at k (x ∷ xs) m = ⊎_elim later sooner (le-or-lt k m)
  where
    later : k ≤ m → get_or (zeros k ++ (x ∷ xs)) m 0 ≡ partitions_less (λ j. get_or (x ∷ xs) j 0) m k
    later h =
        let e : m ≡ length (zeros k) + (m - k) = rw (zeros-length k) (omega arith) in
        ap (λ j. get_or (zeros k ++ (x ∷ xs)) j 0) e
        ∙ get_or-append-add (zeros k) (x ∷ xs) (m - k) 0
        ∙ rw (le-leb k m h)

    sooner : m < k → get_or (zeros k ++ (x ∷ xs)) m 0 ≡ partitions_less (λ j. get_or (x ∷ xs) j 0) m k
    sooner h =
        get_or-append (zeros k) (x ∷ xs) 0 m (rw (zeros-length k) h)
        ∙ get_or-replicate k m 0 0 h
        ∙ rw (lt-leb k m h)

next_rows-at : (k : ℕ) (before : List ℕ) (rows : List (List ℕ)) (j m : ℕ)
    → get_or (get_or (next_rows k before rows) j []) m 0
    ≡ partitions_less (λ x. get_or (get_or rows j []) x 0) m (k + j) + get_or (get_or (before ∷ rows) j []) m 0
unfolding next_rows
next_rows-at k before [] zero m = rw (less_zero (λ x. 0) m (k + 0) (λ _. refl), zero-add)
next_rows-at k before [] (suc j) m = rw (less_zero (λ x. 0) m (k + suc j) (λ _. refl))
next_rows-at k before (row ∷ rows) zero m =
    add_rows-at (shifted k row) before m
    ∙ ap (λ a. a + get_or before m 0) (shifted_at k row m ∙ ap (partitions_less (λ x. get_or row x 0) m) (sym (add-zero k)))
next_rows-at k before (row ∷ rows) (suc j) m =
    next_rows-at (suc k) row rows j m
    ∙ ap (λ t. partitions_less (λ x. get_or (get_or rows j []) x 0) m t + get_or (get_or (row ∷ rows) j []) m 0) (rw (suc-add, add-suc))

pub level-at : (n k m : ℕ) → get_or (get_or (level n) k []) m 0 ≡ box_count n k m
unfolding level box_count
level-at zero zero zero = refl
level-at zero zero (suc m) = rw (ne_eqb (suc m) 0 (λ e. absurd (omega arith)))
level-at zero (suc k) m = refl
level-at (suc n) zero m =
    next_rows-at 0 [] (level n) 0 m
    ∙ add-zero (partitions_less (λ x. get_or (get_or (level n) 0 []) x 0) m (0 + 0))
    ∙ ap (λ c. pick (leb 0 m) c 0) (level-at n zero (m - 0) ∙ box-no-row n (m - 0))
    ∙ rw (le-leb 0 m zero-le, sub-zero)
level-at (suc n) (suc k) m =
    next_rows-at 0 [] (level n) (suc k) m
    ∙ ap₂ (λ a b. a + b) (ap (partitions_less (λ x. get_or (get_or (level n) (suc k) []) x 0) m) (zero-add (suc k))
    ∙ ap (λ c. pick (leb (suc k) m) c 0) (level-at n (suc k) (m - suc k)))
    (level-at n k m)

abbrev pub box_row : ℕ → List ℕ
box_row t = get_or (level (t / 17)) (t % 17) []

abbrev pub box_size : ℕ → ℕ
box_size t = pick (leb (t % 17) (t / 17)) (suc (t % 17 * (t / 17 - t % 17))) 0

unfoldable pub box_table : List ℕ
box_table = ragged box_row 0 289
