-- Two spaces of rows: "the smallest space containing both", and "their common space", as definitions that compute. What they mean is told
-- by theorems and not by their text: each is the one reduced matrix with these properties (laws/Joint, laws/Common).
--   Within q n us ws      == the span of the rows us lies within that of the rows ws
--   JointSpace q n us vs d m  == m is a reduced matrix of d rows; its span contains that of us and that of vs, and lies within the span of
--                            every list of rows that contains both
--   CommonSpace q n us vs d m == m is a reduced matrix of d rows; v is in its span exactly where v is in that of us and in that of vs
--   joint_of, joint_dimension   == the matrix of the joint space, and its number of rows
--   wide, wide_rows        == a row (u|u) or (u|0) of width n + n, one half beside the other; and the same of each row of a list
--   stacked n us vs       == the rows (u|u) and (v|0)
--   right_halves n rs      == the right halves of those of the rows rs, of width n + n, that lead in the right half
--   common_rows q n us vs  == the rows of the common space's matrix: a combination of the stack's rows that is zero in its left half has
--                            in its right half what stands in both spaces
--   common_of, common_dimension == the matrix of the common space, and its number of rows
-- Assumes nothing.
use Rattle.std.specs.Prelude.{Bool, true, false, ◌↔◌, List, [], ◌∷◌, ◌++◌, ℕ, ◌+◌, ltb, length, drop, replicate}
use Rattle.basics.specs.Choice.{pick}
use Rattle.matrix.specs.Matrix.{Reduced}
use Rattle.linear.specs.Span.{All, Row, InSpan, rows_of}
use Rattle.linear.specs.Eliminate.{join, lead_of, reduced_rows, reduced_of, dimension}

unfoldable pub Within : ℕ → ℕ → List (List ℕ) → List (List ℕ) → Type 0
Within q n us ws = (v : List ℕ) → InSpan q n us v → InSpan q n ws v

pub record JointSpace (q n : ℕ) (us vs : List (List ℕ)) (d : ℕ) (m : List ℕ) : Type 0 where
  pub reduced : Reduced q n d m
  pub first : Within q n us (rows_of n d m)
  pub second : Within q n vs (rows_of n d m)
  pub smallest : (ws : List (List ℕ)) → All (Row q n) ws → Within q n us ws → Within q n vs ws → Within q n (rows_of n d m) ws

pub record CommonSpace (q n : ℕ) (us vs : List (List ℕ)) (d : ℕ) (m : List ℕ) : Type 0 where
  pub reduced : Reduced q n d m
  pub both : (v : List ℕ) → InSpan q n (rows_of n d m) v ↔ (InSpan q n us v × InSpan q n vs v)

unfoldable pub joint_of : ℕ → ℕ → List (List ℕ) → List (List ℕ) → List ℕ
joint_of q n us vs = reduced_of q n (us ++ vs)

unfoldable pub joint_dimension : ℕ → ℕ → List (List ℕ) → List (List ℕ) → ℕ
joint_dimension q n us vs = dimension q n (us ++ vs)

-- a row beside itself, or else beside the zero row
unfoldable pub wide : Bool → ℕ → List ℕ → List ℕ
wide doubled n row = row ++ pick doubled row (replicate n 0)

unfoldable pub wide_rows : Bool → ℕ → List (List ℕ) → List (List ℕ)
wide_rows doubled n [] = []
wide_rows doubled n (row ∷ rows) = wide doubled n row ∷ wide_rows doubled n rows

unfoldable pub stacked : ℕ → List (List ℕ) → List (List ℕ) → List (List ℕ)
stacked n us vs = wide_rows true n us ++ wide_rows false n vs

unfoldable pub right_halves : ℕ → List (List ℕ) → List (List ℕ)
right_halves n [] = []
right_halves n (r ∷ rs) = pick (ltb (lead_of (n + n) r) n) (right_halves n rs) (drop n r ∷ right_halves n rs)

unfoldable pub common_rows : ℕ → ℕ → List (List ℕ) → List (List ℕ) → List (List ℕ)
common_rows q n us vs = right_halves n (reduced_rows q (n + n) (stacked n us vs))

unfoldable pub common_of : ℕ → ℕ → List (List ℕ) → List (List ℕ) → List ℕ
common_of q n us vs = join (common_rows q n us vs)

unfoldable pub common_dimension : ℕ → ℕ → List (List ℕ) → List (List ℕ) → ℕ
common_dimension q n us vs = length (common_rows q n us vs)
