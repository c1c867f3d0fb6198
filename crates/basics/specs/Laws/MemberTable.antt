-- Membership in a table.
--   member-of-table   == what the rule gives at a place of the table is a member
--   member-none-table == what the rule gives at no place is none
-- Assumes nothing.
use Rattle.std.specs.Prelude.{◌≡◌, refl, Bool, true, false, ℕ, zero, suc, ◌+◌, ◌<◌, ◌≤◌, ◌⊎◌, eqb}
use Rattle.std.proofs.Common.{◌∙◌, le_refl, eq-or-lt_of_le, inl, inr, arith, eq-eqb, ne_eqb}
use Rattle.basics.specs.Choice.{pick}
use Rattle.basics.specs.Member.{member}
use Rattle.basics.specs.Table.{tabulate}

pub member-none-table : (a : ℕ) (f : ℕ → ℕ) (i m : ℕ) → ((j : ℕ) → i ≤ j → j < i + m → a ≡ f j → ⊥) → member a (tabulate f i m) ≡ false
unfolding tabulate
member-none-table a f i zero h = refl
member-none-table a f i (suc m) h =
    rw (ne_eqb a (f i) (h i (le_refl i) (omega arith))) (member-none-table a f (suc i) m (λ j l b. h j (omega arith) (omega arith)))

pub member-of-table : (a : ℕ) (f : ℕ → ℕ) (i m j : ℕ) → i ≤ j → j < i + m → a ≡ f j → member a (tabulate f i m) ≡ true
unfolding tabulate
member-of-table a f i zero j l b e = absurd (omega arith)
member-of-table a f i (suc m) j l b e = cases (eq-or-lt_of_le l) (member-of-table a f (suc i) m j)
  where
    skip : (t : Bool) → pick t true true ≡ true
    skip true = refl
    skip false = refl

    cases : (i ≡ j) ⊎ (i < j) → (suc i ≤ j → j < suc i + m → a ≡ f j → member a (tabulate f (suc i) m) ≡ true)
        → pick (eqb a (f i)) true (member a (tabulate f (suc i) m)) ≡ true
    cases (inl s) r = rw (eq-eqb a (f i) (e ∙ rw s))
    cases (inr s) r = rw (r s (omega arith) e) (skip (eqb a (f i)))
