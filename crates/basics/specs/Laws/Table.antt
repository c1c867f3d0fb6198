-- A table whose entries follow a rule: laws; no part of the meaning.
--   tabulate-at     == its entry at j is f (i + j)
--   table_at        == counted from 0, it is f j
-- A constant table of the code follows the rule f where the checker computes it to be equal to `tabulate f 0 m`.
-- Assumes nothing.
use Rattle.std.specs.Prelude.{◌≡◌, ℕ, zero, suc, ◌+◌, ◌<◌, get_or}
use Rattle.std.proofs.Common.{ap, ◌∙◌, add-zero, zero-add, add-suc, suc-add, le_of_suc-le-suc, not-suc-le-zero}
use Rattle.basics.specs.Table.{tabulate}

pub tabulate-at : (f : ℕ → ℕ) (i m j : ℕ) → j < m → get_or (tabulate f i m) j 0 ≡ f (i + j)
unfolding tabulate
tabulate-at f i zero j h = absurd (not-suc-le-zero h)
tabulate-at f i (suc m) zero h = rw add-zero
tabulate-at f i (suc m) (suc j) h = tabulate-at f (suc i) m j (le_of_suc-le-suc h) ∙ ap f (rw (suc-add, add-suc))

pub table_at : (f : ℕ → ℕ) (m j : ℕ) → j < m → get_or (tabulate f 0 m) j 0 ≡ f j
table_at f m j h = rw (tabulate-at, zero-add)
