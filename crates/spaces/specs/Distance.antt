-- The distance of two spaces. Order 10: "Add the subspace distance of two row lists over the same q and n: twice the dimension of their
-- joint span, less the dimension of each."
--   distance q n us vs == the subspace distance of the spans of the rows us and vs. No difference is cut off at 0: laws/Distance,
--                         distance-true
-- Assumes nothing.
use Rattle.std.specs.Prelude.{List, ℕ, ◌*◌, ◌-◌}
use Rattle.linear.specs.Eliminate.{dimension}
use Rattle.spaces.specs.Spaces.{joint_dimension}

unfoldable pub distance : ℕ → ℕ → List (List ℕ) → List (List ℕ) → ℕ
distance q n us vs = 2 * joint_dimension q n us vs - dimension q n us - dimension q n vs
