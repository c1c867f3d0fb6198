-- The reduced matrix of a list of rows, as a definition that computes. What it means is told by its theorems and not by its text:
-- it is Reduced, has the rows' span, and is the only matrix that is both (Unique).
--   lead_of n r          == the place of the row r's first nonzero entry; n where r is zero
--   eliminate q n r v   == v less the multiple of r that makes v zero at r's lead
--   residue q n rs v    == v after eliminating with each row of rs
--   in_span q n rs v     == the residue of v is zero; for reduced rows rs, v is in their span exactly there (laws.InSpan, in-span-exactly)
--   monic q n v         == v scaled so that its first nonzero entry is 1
--   put_among q n rs w   == w put among the rows rs in the order of leads, w's lead cleared in the rows above
--   insert_row q n rs v  == the reduced rows rs with v taken in
--   reduced_rows q n rows, reduced_of q n rows == the rows of the reduced matrix, and its bytes
--   dimension q n rows  == its number of rows
--   join rows           == the bytes of the rows, one row after the other
-- Assumes nothing.
use Rattle.std.specs.Prelude.{Bool, List, [], ◌∷◌, ◌++◌, ℕ, eqb, ltb, length, get_or}
use Rattle.basics.specs.Choice.{pick}
use Rattle.basics.specs.Table.{tabulate}
use Rattle.field.specs.Field.{add, multiply, negate, invert}
use Rattle.matrix.specs.Matrix.{lead}

unfoldable pub lead_of : ℕ → List ℕ → ℕ
lead_of n r = lead (λ j. get_or r j 0) n

unfoldable pub eliminate : ℕ → ℕ → List ℕ → List ℕ → List ℕ
eliminate q n r v = tabulate (λ j. add q (get_or v j 0) (multiply q (negate q (get_or v (lead_of n r) 0)) (get_or r j 0))) 0 n

unfoldable pub residue : ℕ → ℕ → List (List ℕ) → List ℕ → List ℕ
residue q n [] v = v
residue q n (r ∷ rs) v = residue q n rs (eliminate q n r v)

unfoldable pub in_span : ℕ → ℕ → List (List ℕ) → List ℕ → Bool
in_span q n rs v = eqb (lead_of n (residue q n rs v)) n

unfoldable pub monic : ℕ → ℕ → List ℕ → List ℕ
monic q n v = tabulate (λ j. multiply q (invert q (get_or v (lead_of n v) 0)) (get_or v j 0)) 0 n

unfoldable pub put_among : ℕ → ℕ → List (List ℕ) → List ℕ → List (List ℕ)
put_among q n [] w = w ∷ []
put_among q n (r ∷ rs) w = pick (ltb (lead_of n r) (lead_of n w)) (eliminate q n w r ∷ put_among q n rs w) (w ∷ r ∷ rs)

-- w is a residue: where it is zero, the row was in the span already
unfoldable pub insert_residue : ℕ → ℕ → List (List ℕ) → List ℕ → List (List ℕ)
insert_residue q n rs w = pick (eqb (lead_of n w) n) rs (put_among q n rs (monic q n w))

unfoldable pub insert_row : ℕ → ℕ → List (List ℕ) → List ℕ → List (List ℕ)
insert_row q n rs v = insert_residue q n rs (residue q n rs v)

-- the rows taken into the reduced rows rs, one after the other
unfoldable pub insert_rows : ℕ → ℕ → List (List ℕ) → List (List ℕ) → List (List ℕ)
insert_rows q n rs [] = rs
insert_rows q n rs (v ∷ vs) = insert_rows q n (insert_row q n rs v) vs

unfoldable pub reduced_rows : ℕ → ℕ → List (List ℕ) → List (List ℕ)
reduced_rows q n rows = insert_rows q n [] rows

unfoldable pub join : List (List ℕ) → List ℕ
join [] = []
join (r ∷ rs) = r ++ join rs

unfoldable pub reduced_of : ℕ → ℕ → List (List ℕ) → List ℕ
reduced_of q n rows = join (reduced_rows q n rows)

unfoldable pub dimension : ℕ → ℕ → List (List ℕ) → ℕ
dimension q n rows = length (reduced_rows q n rows)
