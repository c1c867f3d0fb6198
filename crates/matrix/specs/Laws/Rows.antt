-- The rows of a reduced matrix, one after the other; no part of the meaning. Of a pivot's column the rows above are named: the rows below
-- have their pivots farther to the right, so that they begin with zeros up to there and past it.
--   Rows n m k      == the first k rows obey the four clauses
--   rising-far      == where each pivot lies to the right of the one above, any lower row's does
--   reduced-rows, rows-reduced == is_reduced holds exactly where they do
--   rows-less, rows_more == one row less, and one more
--   rows_same       == rows with the same entries
-- Assumes nothing.
use Rattle.std.specs.Prelude.{◌≡◌, true, List, ◌⊎◌, ℕ, zero, suc, ◌<◌}
use Rattle.std.proofs.Common.{ap, ◌∙◌, sym, subst, inl, inr, ⊎_elim, eq-or-lt_of_le, le_of_suc-le-suc, not-suc-le-zero, lt_trans, arith}
use Rattle.basics.specs.Laws.Choice.{holds}
use Rattle.basics.specs.Laws.Order.{trichotomy}
use Rattle.basics.specs.Laws.All.{all_below-at, all_below-true}
use Rattle.matrix.specs.Matrix.{entry, pivot, row_reduced, is_reduced}
use Rattle.matrix.specs.Laws.Lead.{lead-before, lead-same}
use Rattle.matrix.specs.Laws.Tests.{Clauses, clauses-of, clauses-true}

pub record Rows (n : ℕ) (m : List ℕ) (k : ℕ) : Type 0 where
  pub no-zero-row : (i : ℕ) → i < k → pivot n m i < n
  pub pivot-one : (i : ℕ) → i < k → entry n m i (pivot n m i) ≡ 1
  pub rising : (a i : ℕ) → a < i → i < k → pivot n m a < pivot n m i
  pub zero-above : (a i : ℕ) → a < i → i < k → entry n m a (pivot n m i) ≡ 0

module _ (n k : ℕ) (m : List ℕ) where
  pub rising-far : ((i : ℕ) → suc i < k → pivot n m i < pivot n m (suc i)) → (i a : ℕ) → i < a → a < k → pivot n m i < pivot n m a
  rising-far rise i zero h g = absurd (not-suc-le-zero h)
  rising-far rise i (suc a) h g = cases (eq-or-lt_of_le (le_of_suc-le-suc h)) (rising-far rise i a)
    where
      cases : (i ≡ a) ⊎ (i < a) → (i < a → a < k → pivot n m i < pivot n m a) → pivot n m i < pivot n m (suc a)
      cases (inl e) s = rw e (rise a g)
      cases (inr l) s = lt_trans (s l (omega arith)) (rise a g)

  clauses-at : is_reduced n k m ≡ true → (i : ℕ) → i < k → Clauses n k m i (pivot n m i)
  unfolding is_reduced
  clauses-at t i h = clauses-of n k m i (pivot n m i) (all_below-at k (λ i. row_reduced n k m i (pivot n m i)) (holds _ t) i h)

  pub reduced-rows : is_reduced n k m ≡ true → Rows n m k
  reduced-rows t =
      record {
        no-zero-row = λ i h. (clauses-at t i h).no-zero-row;
        pivot-one = λ i h. (clauses-at t i h).pivot-one;
        rising = rising-far (λ i h. (clauses-at t i (omega arith)).pivots-rise h);
        zero-above = λ a i l h. (clauses-at t i h).pivot-alone a (omega arith) (λ e. omega arith);
      }

  module _ (r : Rows n m k) where
    whole-column : (i : ℕ) → i < k → (a : ℕ) → a < k → (a ≡ i → ⊥) → entry n m a (pivot n m i) ≡ 0
    whole-column i h a g ne = cases (trichotomy a i)
      where
        cases : (a < i) ⊎ ((a ≡ i) ⊎ (i < a)) → entry n m a (pivot n m i) ≡ 0
        cases (inl l) = r.zero-above a i l h
        cases (inr (inl e)) = absurd (ne e)
        cases (inr (inr l)) = lead-before (entry n m a) n (pivot n m i) (r.rising i a l g)

    pub rows-reduced : is_reduced n k m ≡ true
    unfolding is_reduced
    rows-reduced =
        all_below-true k (λ i. row_reduced n k m i (pivot n m i))
        (λ i h.
        clauses-true n k m i (pivot n m i)
        (record {
          no-zero-row = r.no-zero-row i h;
          pivot-one = r.pivot-one i h;
          pivots-rise = λ g. r.rising i (suc i) (omega arith) g;
          pivot-alone = whole-column i h;
        }))

pub rows-less : {n k : ℕ} {m : List ℕ} → Rows n m (suc k) → Rows n m k
rows-less r =
    record {
      no-zero-row = λ i h. r.no-zero-row i (omega arith);
      pivot-one = λ i h. r.pivot-one i (omega arith);
      rising = λ a i l h. r.rising a i l (omega arith);
      zero-above = λ a i l h. r.zero-above a i l (omega arith);
    }

-- what holds of the last row and of those before it holds of all
with-last : (P : ℕ → Type 0) (k i : ℕ) → i < suc k → P k → (i < k → P i) → P i
with-last P k i h last before = ⊎_elim (λ e. subst P (sym e) last) before (eq-or-lt_of_le (le_of_suc-le-suc h))

pub rows_more : {n k : ℕ} {m : List ℕ} → Rows n m k → pivot n m k < n → entry n m k (pivot n m k) ≡ 1
    → ((a : ℕ) → a < k → pivot n m a < pivot n m k) → ((a : ℕ) → a < k → entry n m a (pivot n m k) ≡ 0) → Rows n m (suc k)
rows_more {n} {k} {m} r inside one rises clear =
    record {
      no-zero-row = λ i h. with-last (λ i. pivot n m i < n) k i h inside (r.no-zero-row i);
      pivot-one = λ i h. with-last (λ i. entry n m i (pivot n m i) ≡ 1) k i h one (r.pivot-one i);
      rising = λ a i l h. with-last (λ i. a < i → pivot n m a < pivot n m i) k i h (rises a) (λ g s. r.rising a i s g) l;
      zero-above = λ a i l h. with-last (λ i. a < i → entry n m a (pivot n m i) ≡ 0) k i h (clear a) (λ g s. r.zero-above a i s g) l;
    }

pub rows_same : {n k : ℕ} {m l : List ℕ} → ((a : ℕ) → a < k → (j : ℕ) → j < n → entry n l a j ≡ entry n m a j) → Rows n m k → Rows n l k
rows_same {n} {k} {m} {l} same r =
    record {
      no-zero-row = inside;
      pivot-one = λ i h. ap (entry n l i) (moved i h) ∙ same i h (pivot n m i) (r.no-zero-row i h) ∙ r.pivot-one i h;
      rising = λ a i s h. omega (arith, moved a (omega arith), moved i h, r.rising a i s h);
      zero-above =
          λ a i s h.
          ap (entry n l a) (moved i h) ∙ same a (omega arith) (pivot n m i) (r.no-zero-row i h) ∙ r.zero-above a i s h;
    }
  where
    moved : (i : ℕ) → i < k → pivot n l i ≡ pivot n m i
    moved i h = lead-same (entry n l i) (entry n m i) n (same i h)

    inside : (i : ℕ) → i < k → pivot n l i < n
    inside i h = omega (arith, moved i h, r.no-zero-row i h)
