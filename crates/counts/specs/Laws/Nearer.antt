-- The end of 0 to a limit that a number is nearer to.
--   nearer limit m   == the smaller of m and limit - m
--   nearer-twice     == it is at most half of the limit
--   nearer-either    == what holds of m and of limit - m holds of it
-- Assumes nothing.
use Rattle.std.specs.Prelude.{◌⊎◌, ℕ, ◌+◌, ◌-◌, ◌≤◌, ◌<◌, leb}
use Rattle.std.proofs.Common.{subst, sym, inl, inr, arith, le-leb}
use Rattle.std.proofs.lemmas.Bool.{lt-leb}
use Rattle.basics.specs.Choice.{pick}
use Rattle.basics.specs.Laws.Order.{le-or-lt}

abbrev pub nearer : ℕ → ℕ → ℕ
nearer limit m = pick (leb m (limit - m)) m (limit - m)

module _ (limit m : ℕ) where
  pub nearer-either : (P : ℕ → Type 0) → (m ≤ limit - m → P m) → (limit - m < m → P (limit - m)) → P (nearer limit m)
  nearer-either P near far = cases (le-or-lt m (limit - m))
    where
      cases : (m ≤ limit - m) ⊎ (limit - m < m) → P (nearer limit m)
      cases (inl h) = subst (λ b. P (pick b m (limit - m))) (sym (le-leb m (limit - m) h)) (near h)
      cases (inr h) = subst (λ b. P (pick b m (limit - m))) (sym (lt-leb m (limit - m) h)) (far h)

  pub nearer-twice : m ≤ limit → nearer limit m + nearer limit m ≤ limit
  nearer-twice h = nearer-either (λ x. x + x ≤ limit) (λ l. omega arith) (λ l. omega arith)
