-- Counting the places of a value; no part of the meaning.
--   counted-once == f takes the numbers below n to numbers below n, to each of them, and no two to one: among its values each is counted
--                   once
-- Assumes nothing.
use Rattle.std.specs.Prelude.{◌≡◌, ℕ, zero, suc, ◌+◌, ◌≤◌, ◌<◌, eqb, ltb}
use Rattle.std.proofs.Common.{ap, ap₂, ◌∙◌, sym, ⊎_elim, le_refl, add-zero, zero-add, arith, eq-eqb, ne_eqb, lt-ltb, le-ltb}
use Rattle.std.proofs.Math.Decide.{ℕ_discrete}
use Rattle.basics.specs.Sum.{sum, bit}
use Rattle.basics.specs.Laws.Order.{le-or-lt}
use Rattle.basics.specs.Laws.SumLaws.{sum_zeros}

-- a sum of which one term alone may be other than 0 is that term
sum-only : (n at : ℕ) (f : ℕ → ℕ) → at < n → ((i : ℕ) → i < n → (i ≡ at → ⊥) → f i ≡ 0) → sum n f ≡ f at
unfolding sum
sum-only zero at f h z = absurd (omega arith)
sum-only (suc n) at f h z = cases (ℕ_discrete n at) (λ l. sum-only n at f l (λ i g. z i (omega arith)))
  where
    cases : Dec (n ≡ at) → (at < n → sum n f ≡ f at) → sum n f + f n ≡ f at
    cases (yes e) before =
        ap₂ (λ a b. a + f b) (sum_zeros n f (λ i l. z i (omega arith) (λ o. absurd (omega arith)))) e ∙ zero-add (f at)
    cases (no e) before = ap₂ (λ a b. a + b) (before (omega arith)) (z n (le_refl (suc n)) e) ∙ add-zero (f at)

-- a value of one place is counted once, and one of none is not counted
one_place : (n at j : ℕ) (f : ℕ → ℕ) → at < n → f at ≡ j → ((i : ℕ) → i < n → f i ≡ j → i ≡ at) → sum n (λ i. bit (eqb (f i) j)) ≡ 1
one_place n at j f h e only =
    sum-only n at (λ i. bit (eqb (f i) j)) h (λ i l o. rw (ne_eqb (f i) j (λ x. o (only i l x)))) ∙ rw (eq-eqb (f at) j e)

no_place : (n j : ℕ) (f : ℕ → ℕ) → ((i : ℕ) → i < n → f i ≡ j → ⊥) → sum n (λ i. bit (eqb (f i) j)) ≡ 0
no_place n j f none = sum_zeros n (λ i. bit (eqb (f i) j)) (λ i l. rw (ne_eqb (f i) j (none i l)))

pub counted-once : (n : ℕ) (f : ℕ → ℕ) → ((i : ℕ) → i < n → f i < n) → ((j : ℕ) → j < n → (i : ℕ) × (i < n) × (f i ≡ j))
    → ((i j : ℕ) → i < n → j < n → f i ≡ f j → i ≡ j)
    → (j : ℕ) → sum n (λ i. bit (eqb (f i) j)) ≡ bit (ltb j n)
counted-once n f below every once j = ⊎_elim beyond within (le-or-lt n j)
  where
    beyond : n ≤ j → sum n (λ i. bit (eqb (f i) j)) ≡ bit (ltb j n)
    beyond h = no_place n j f (λ i l e. absurd (omega (arith, below i l))) ∙ ap bit (sym (le-ltb j n h))

    within : j < n → sum n (λ i. bit (eqb (f i) j)) ≡ bit (ltb j n)
    within h =
        let at = every j h in
        one_place n at.0 j f at.1 at.2 (λ i l e. once i at.0 l at.1 (e ∙ sym at.2)) ∙ ap bit (sym (lt-ltb j n h))
