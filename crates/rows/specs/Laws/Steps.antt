-- What the operations on rows leave in the bytes: their contracts.
--   part n at m            == the n bytes of m from `at` on
--   put n at w m           == m with the bytes w in the place of the n bytes from `at` on
--   Apart n a b            == n bytes from a on and n bytes from b on have none in common
--   plus_multiple q n c r v == the row v plus c times the row r
--   multiple q n c v       == c times the row v
--   swapped n at m         == m with its n bytes from `at` on and the next n exchanged
--   raised n from to m     == m with its n bytes at `from` moved up to `to`, and those between n places down
-- Assumes nothing.
use Rattle.std.specs.Prelude.{List, ◌++◌, ◌⊎◌, ℕ, ◌+◌, ◌-◌, ◌≤◌, get_or, take, drop}
use Rattle.basics.specs.Table.{tabulate}
use Rattle.field.specs.Field.{add, multiply}

abbrev pub part : ℕ → ℕ → List ℕ → List ℕ
part n at m = take n (drop at m)

abbrev pub put : ℕ → ℕ → List ℕ → List ℕ → List ℕ
put n at w m = take at m ++ (w ++ drop (at + n) m)

abbrev pub Apart : ℕ → ℕ → ℕ → Type 0
Apart n a b = (a + n ≤ b) ⊎ (b + n ≤ a)

-- entry j of each
abbrev pub plus_multiple_at : ℕ → ℕ → List ℕ → List ℕ → ℕ → ℕ
plus_multiple_at q c r v j = add q (get_or v j 0) (multiply q c (get_or r j 0))

abbrev pub multiple_at : ℕ → ℕ → List ℕ → ℕ → ℕ
multiple_at q c v j = multiply q c (get_or v j 0)

unfoldable pub plus_multiple : ℕ → ℕ → ℕ → List ℕ → List ℕ → List ℕ
plus_multiple q n c r v = tabulate (plus_multiple_at q c r v) 0 n

unfoldable pub multiple : ℕ → ℕ → ℕ → List ℕ → List ℕ
multiple q n c v = tabulate (multiple_at q c v) 0 n

abbrev pub swapped : ℕ → ℕ → List ℕ → List ℕ
swapped n at m = take at m ++ (part n (at + n) m ++ (part n at m ++ drop (at + n + n) m))

abbrev pub raised : ℕ → ℕ → ℕ → List ℕ → List ℕ
raised n from to m = take to m ++ (part n from m ++ (part (from - to) to m ++ drop (from + n) m))
