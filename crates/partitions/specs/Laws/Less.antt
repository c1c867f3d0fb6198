-- Laws of a count at a true difference; no part of the meaning.
--   less-at     == where t ≤ m, it is the count at m - t
--   less-add    == so at t + m it is the count at m
--   less_none   == where m < t, it is 0
--   less-same, less_zero == it is told by the count, and 0 where that is
--   less-taken  == to take t and then u is to take t + u
-- Assumes nothing.
use Rattle.std.specs.Prelude.{◌≡◌, refl, Bool, true, false, ◌⊎◌, ℕ, ◌+◌, ◌-◌, ◌<◌, ◌≤◌, leb}
use Rattle.std.proofs.Common.{ap, ◌∙◌, sym, inl, inr, le-add_right, arith, le-leb}
use Rattle.std.proofs.Math.Nat.{add-sub_cancel_left}
use Rattle.std.proofs.lemmas.Bool.{lt-leb}
use Rattle.basics.specs.Choice.{pick}
use Rattle.basics.specs.Laws.Order.{le-or-lt}
use Rattle.partitions.specs.Partitions.{partitions_less}

pub less-at : (p : ℕ → ℕ) (m t : ℕ) → t ≤ m → partitions_less p m t ≡ p (m - t)
less-at p m t h = rw (le-leb t m h)

pub less-add : (p : ℕ → ℕ) (m t : ℕ) → partitions_less p (t + m) t ≡ p m
less-add p m t = less-at p (t + m) t (le-add_right t m) ∙ ap p (add-sub_cancel_left t m)

pub less_none : (p : ℕ → ℕ) (m t : ℕ) → m < t → partitions_less p m t ≡ 0
less_none p m t h = rw (lt-leb t m h)

pub less-same : (p r : ℕ → ℕ) (m t : ℕ) → ((i : ℕ) → p i ≡ r i) → partitions_less p m t ≡ partitions_less r m t
less-same p r m t h = ap (λ x. pick (leb t m) x 0) (h (m - t))

pub less_zero : (p : ℕ → ℕ) (m t : ℕ) → ((i : ℕ) → p i ≡ 0) → partitions_less p m t ≡ 0
less_zero p m t h = less-same p (λ _. 0) m t h ∙ constant (leb t m)
  where
    constant : (b : Bool) → ◌≡◌ {A = ℕ} (pick b 0 0) 0
    constant true = refl
    constant false = refl

pub less-taken : (p : ℕ → ℕ) (m t u : ℕ) → t ≤ m → partitions_less p m (t + u) ≡ partitions_less p (m - t) u
less-taken p m t u h = cases (le-or-lt u (m - t))
  where
    cases : (u ≤ m - t) ⊎ (m - t < u) → partitions_less p m (t + u) ≡ partitions_less p (m - t) u
    cases (inl l) =
        let e : m - (t + u) ≡ m - t - u = omega arith in
        less-at p m (t + u) (omega arith) ∙ ap p e ∙ sym (less-at p (m - t) u l)
    cases (inr l) = less_none p m (t + u) (omega arith) ∙ sym (less_none p (m - t) u l)
