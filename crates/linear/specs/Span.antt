-- Linear combinations and spans. Document 01: "A mixture of a list of rows is their sum, entry by entry, each row first multiplied by a
-- number below q of its own, in the field's arithmetic. Of no rows it is the zero row. All mixtures of a list are its span, the space of
-- the list. The dimension of a list is the number of rows, none to n, of the one reduced matrix with the same span."
--   All P xs              == every element of the list xs has the property P
--   Among x xs            == x is one of xs, once or more often, at whatever place
--   Row q n v             == v is a row: n entries, each below q
--   combination q n cs rs == the linear combination of the rows rs with the coefficients cs; document 01's "mixture"
--   InSpan q n rs v       == v is a linear combination of the rows rs
--   SameSpan q n rs ss    == the two lists of rows have the same span
--   Mixed q n rs v        == v is a row of rs, or a linear combination of rows that are Mixed: what reaches a receiver by way of neighbours
--   rows_of n k m          == the k rows of the matrix m with n columns
--   HasDimension q n rs d == there is a reduced matrix of d rows with the same span
--   HasVector q n rs d v  == there is one whose identifying vector is v; order 2's "true vector" of rows, said by their span
-- Assumes nothing.
use Rattle.std.specs.Prelude.{◌≡◌, List, [], ◌∷◌, ◌↔◌, ℕ, zero, suc, ◌<◌, length, get_or, take, drop}
use Rattle.basics.specs.Table.{tabulate}
use Rattle.field.specs.Field.{add, multiply}
use Rattle.matrix.specs.Matrix.{Reduced, identifying}

pub data All {A : Type 0} (P : A → Type 0) : List A → Type 0 where
  none : All P []
  more : {x : A} {xs : List A} → P x → All P xs → All P (x ∷ xs)

pub data Among {A : Type 0} (x : A) : List A → Type 0 where
  first : {xs : List A} → Among x (x ∷ xs)
  later : {y : A} {xs : List A} → Among x xs → Among x (y ∷ xs)

abbrev pub Row : ℕ → ℕ → List ℕ → Type 0
Row q n v = (length v ≡ n) × All (λ a. a < q) v

-- entry j of the linear combination
unfoldable pub combination_at : ℕ → List ℕ → List (List ℕ) → ℕ → ℕ
combination_at q [] rows j = 0
combination_at q (c ∷ cs) [] j = 0
combination_at q (c ∷ cs) (row ∷ rows) j = add q (multiply q c (get_or row j 0)) (combination_at q cs rows j)

unfoldable pub combination : ℕ → ℕ → List ℕ → List (List ℕ) → List ℕ
combination q n cs rows = tabulate (combination_at q cs rows) 0 n

unfoldable pub InSpan : ℕ → ℕ → List (List ℕ) → List ℕ → Type 0
InSpan q n rows v = (cs : List ℕ) × (length cs ≡ length rows) × All (λ c. c < q) cs × (combination q n cs rows ≡ v)

unfoldable pub SameSpan : ℕ → ℕ → List (List ℕ) → List (List ℕ) → Type 0
SameSpan q n rows others = (v : List ℕ) → InSpan q n rows v ↔ InSpan q n others v

pub data Mixed (q n : ℕ) (rows : List (List ℕ)) : List ℕ → Type 0 where
  given : (i : ℕ) → i < length rows → Mixed q n rows (get_or rows i [])
  mixed : (cs : List ℕ) (vs : List (List ℕ)) → length cs ≡ length vs → All (λ c. c < q) cs
      → ((i : ℕ) → i < length vs → Mixed q n rows (get_or vs i []))
      → Mixed q n rows (combination q n cs vs)

unfoldable pub rows_of : ℕ → ℕ → List ℕ → List (List ℕ)
rows_of n zero m = []
rows_of n (suc k) m = take n m ∷ rows_of n k (drop n m)

unfoldable pub HasDimension : ℕ → ℕ → List (List ℕ) → ℕ → Type 0
HasDimension q n rows d = (m : List ℕ) × Reduced q n d m × SameSpan q n (rows_of n d m) rows

unfoldable pub HasVector : ℕ → ℕ → List (List ℕ) → ℕ → ℕ → Type 0
HasVector q n rows d v = (m : List ℕ) × Reduced q n d m × SameSpan q n (rows_of n d m) rows × (identifying n d m ≡ v)
