-- How many entries a table has.
--   tabulate-length == tabulate f i m has m entries
--   tabulate-beyond == past them the default stands
-- Assumes nothing.
use Rattle.std.specs.Prelude.{◌≡◌, refl, ℕ, zero, suc, ◌≤◌, length, get_or}
use Rattle.std.proofs.Common.{ap, arith}
use Rattle.std.proofs.Math.ListN.{get_or-eq_default}
use Rattle.basics.specs.Table.{tabulate}

pub tabulate-length : (f : ℕ → ℕ) (i m : ℕ) → length (tabulate f i m) ≡ m
unfolding tabulate
tabulate-length f i zero = refl
tabulate-length f i (suc m) = ap suc (tabulate-length f (suc i) m)

pub tabulate-beyond : (f : ℕ → ℕ) (i m j d : ℕ) → m ≤ j → get_or (tabulate f i m) j d ≡ d
tabulate-beyond f i m j d h = get_or-eq_default (tabulate f i m) d (omega (arith, tabulate-length f i m))
