-- Membership in a list of numbers, as a test and as a place.
--   member a l      == the test that a stands in l
-- Assumes nothing.
use Rattle.std.specs.Prelude.{Bool, true, false, List, [], ◌∷◌, ℕ, eqb}
use Rattle.basics.specs.Choice.{pick}

abbrev pub member : ℕ → List ℕ → Bool
member a [] = false
member a (x ∷ xs) = pick (eqb a x) true (member a xs)
