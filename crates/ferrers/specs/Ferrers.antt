-- The Ferrers numbering. Document 01: "Each pivot column is taken out. The i-th remaining column from the right has F_i dots: the rows
-- whose pivot is to its left. The entries at the dots are the tableau; its size m is the number of dots."
--   free_columns n k m     == the columns from the right, 1 to n, that have no pivot, in that order
--   dots n k m j          == the number of rows whose pivot is to the left of column j
--   diagram n k m         == F_1, F_2, .. ; size n k m == their sum; total F == the sum of a list
--   tableau n k m         == the entries at the dots, "column by column from the right, each column from top to bottom";
--                            tableau_of n k m js == those of the columns js
--   tableau_value q n k m  == {x}, "the tableau read as a base-q number, first entry most significant"
--   diagram_place k η F m  == formula (12), the place of the diagram among those of its size
--   ferrers_index q n k m  == formula (14): "the sum of p(k, n-k, i) × q^i for i above m, plus q^m times the place of the diagram among
--                            those of size m by formula (12), plus {x}"
--   ferrers_before q n k a b == "larger m first. At equal m, at the least i where F_i differ, more dots first. At equal diagrams, the
--                            smaller {x} first."
-- Assumes nothing.
use Rattle.std.specs.Prelude.{◌≡◌, Bool, List, [], ◌∷◌, ◌++◌, map, ℕ, zero, suc, ◌+◌, ◌*◌, ◌-◌, ◌^◌, ◌<◌, ltb, get_or}
use Rattle.basics.specs.Choice.{pick}
use Rattle.basics.specs.Sum.{sum, sum_range, value, bit, Lex}
use Rattle.matrix.specs.Matrix.{entry, pivot, pivot_at}
use Rattle.partitions.specs.Partitions.{partitions, partitions_less}

-- the columns without a pivot among j, j+1, .. , as many as `left` says
unfoldable pub free_from : ℕ → ℕ → List ℕ → ℕ → ℕ → List ℕ
free_from n k m j zero = []
free_from n k m j (suc left) = pick (pivot_at n k m j) (free_from n k m (suc j) left) (j ∷ free_from n k m (suc j) left)

unfoldable pub free_columns : ℕ → ℕ → List ℕ → List ℕ
free_columns n k m = free_from n k m 1 n

-- the test that row i has a dot in column j: its pivot is to the left
abbrev pub dotted : ℕ → List ℕ → ℕ → ℕ → Bool
dotted n m j i = ltb (pivot n m i) (n - j)

unfoldable pub dots : ℕ → ℕ → List ℕ → ℕ → ℕ
dots n k m j = sum k (λ i. bit (dotted n m j i))

unfoldable pub diagram : ℕ → ℕ → List ℕ → List ℕ
diagram n k m = map (dots n k m) (free_columns n k m)

unfoldable pub total : List ℕ → ℕ
total [] = 0
total (x ∷ xs) = x + total xs

unfoldable pub size : ℕ → ℕ → List ℕ → ℕ
size n k m = total (diagram n k m)

-- the entries of column j at its dots, of the rows i, i+1, .. , as many as `left` says
unfoldable pub dotted_from : ℕ → List ℕ → ℕ → ℕ → ℕ → List ℕ
dotted_from n m j i zero = []
dotted_from n m j i (suc left) =
    pick (dotted n m j i) (entry n m i (n - j) ∷ dotted_from n m j (suc i) left) (dotted_from n m j (suc i) left)

unfoldable pub tableau_of : ℕ → ℕ → List ℕ → List ℕ → List ℕ
tableau_of n k m [] = []
tableau_of n k m (j ∷ js) = dotted_from n m j 0 k ++ tableau_of n k m js

unfoldable pub tableau : ℕ → ℕ → List ℕ → List ℕ
tableau n k m = tableau_of n k m (free_columns n k m)

unfoldable pub tableau_value : ℕ → ℕ → ℕ → List ℕ → ℕ
tableau_value q n k m = value q (tableau n k m)

-- F_j of the diagram F, with F_0 = k
abbrev pub height_at : ℕ → List ℕ → ℕ → ℕ
height_at k F j = get_or (k ∷ F) j 0

-- what column j adds in formula (12): the sum over a from F_j + 1 to F_(j-1) of p(a, η - j, m - (F_1 + .. + F_(j-1)) - a)
unfoldable pub diagram_term : ℕ → ℕ → List ℕ → ℕ → ℕ → ℕ
diagram_term k η F m j =
    sum_range (suc (height_at k F j)) (height_at k F (j - 1))
    (λ a. partitions_less (partitions a (η - j)) m (sum_range 1 (j - 1) (height_at k F) + a))

unfoldable pub diagram_place : ℕ → ℕ → List ℕ → ℕ → ℕ
diagram_place k η F m = sum η (λ i. diagram_term k η F m (suc i))

-- the spaces whose diagrams have more than m dots
unfoldable pub larger_diagrams : ℕ → ℕ → ℕ → ℕ → ℕ
larger_diagrams q k η m = sum_range (suc m) (k * η) (λ i. partitions k η i * q ^ i)

unfoldable pub ferrers_index : ℕ → ℕ → ℕ → List ℕ → ℕ
ferrers_index q n k m =
    larger_diagrams q k (n - k) (size n k m)
    + q ^ size n k m * diagram_place k (n - k) (diagram n k m) (size n k m)
    + tableau_value q n k m

pub data ferrers_before (q n k : ℕ) (a b : List ℕ) : Type 0 where
  larger : size n k b < size n k a → ferrers_before q n k a b
  fuller : size n k a ≡ size n k b
      → Lex (n - k) (λ i. get_or (diagram n k b) i 0) (λ i. get_or (diagram n k a) i 0)
      → ferrers_before q n k a b
  smaller : diagram n k a ≡ diagram n k b → tableau_value q n k a < tableau_value q n k b → ferrers_before q n k a b
