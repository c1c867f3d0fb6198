-- A test at every place below a bound, and at every element of a list.
--   all_below k f    == the test that f holds at 0, 1, .. , k - 1
-- Assumes nothing.
use Rattle.std.specs.Prelude.{Bool, true, ◌&&◌, ℕ, zero, suc}

unfoldable pub all_below : ℕ → (ℕ → Bool) → Bool
all_below zero f = true
all_below (suc k) f = all_below k f && f k
