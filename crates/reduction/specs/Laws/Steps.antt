-- What the steps of row reduction speak of: in the contracts of the functions that `insert` is made of.
--   leads n rs             == the leads of the rows rs
--   above n rs w           == how many rows of rs, from the top, have their lead before w's
--   cleared q n rs w       == these rows, each with w's lead cleared
-- Assumes nothing.
use Rattle.std.specs.Prelude.{List, [], ◌∷◌, ℕ, suc, ltb}
use Rattle.basics.specs.Choice.{pick}
use Rattle.linear.specs.Eliminate.{lead_of, eliminate}

unfoldable pub leads : ℕ → List (List ℕ) → List ℕ
leads n [] = []
leads n (r ∷ rs) = lead_of n r ∷ leads n rs

unfoldable pub above : ℕ → List (List ℕ) → List ℕ → ℕ
above n [] w = 0
above n (r ∷ rs) w = pick (ltb (lead_of n r) (lead_of n w)) (suc (above n rs w)) 0

unfoldable pub cleared : ℕ → ℕ → List (List ℕ) → List ℕ → List (List ℕ)
cleared q n [] w = []
cleared q n (r ∷ rs) w = pick (ltb (lead_of n r) (lead_of n w)) (eliminate q n w r ∷ cleared q n rs w) []
