-- A table whose entries follow a rule.
--   tabulate f i m  == the list f i, f (i+1), .. of m entries
-- A constant table of the code follows the rule f where the checker computes it to be equal to `tabulate f 0 m`.
-- Assumes nothing.
use Rattle.std.specs.Prelude.{List, [], ◌∷◌, ℕ, zero, suc}

unfoldable pub tabulate : (ℕ → ℕ) → ℕ → ℕ → List ℕ
tabulate f i zero = []
tabulate f i (suc m) = f i ∷ tabulate f (suc i) m
