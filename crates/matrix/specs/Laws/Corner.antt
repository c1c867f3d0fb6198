-- The first k rows and c columns of a matrix with N columns, being reduced; no part of the meaning. The pivots are found over all N
-- columns, so that a corner grows and shrinks within one matrix.
--   Corner q N A k c    == the first k rows and c columns of A are reduced, and the rows' pivots among N columns are theirs
--   corner-of-reduced, reduced-of-corner == a whole matrix is reduced exactly where it is its own corner
--   pivots-rise-far     == of any two rows of a corner the lower one's pivot is to the right
-- Assumes nothing.
use Rattle.std.specs.Prelude.{◌≡◌, List, ◌⊎◌, ℕ, zero, suc, ◌+◌, ◌*◌, ◌/◌, ◌%◌, ◌<◌, length}
use Rattle.std.proofs.Common.{inl, inr, lt_trans, not-suc-le-zero, eq-or-lt_of_le, le_of_suc-le-suc, arith}
use Rattle.std.proofs.Math.Arith.{digits_lt}
use Rattle.matrix.specs.Matrix.{entry, lead, Reduced}
use Rattle.matrix.specs.Laws.Flatten.{place-row, place-column, place-entry}

pub record Corner (q N : ℕ) (A : ℕ → ℕ → ℕ) (k c : ℕ) : Type 0 where
  pub below : (i j : ℕ) → i < k → j < c → A i j < q
  pub inside : (i : ℕ) → i < k → lead (A i) N < c
  pub one : (i : ℕ) → i < k → A i (lead (A i) N) ≡ 1
  pub rise : (i : ℕ) → suc i < k → lead (A i) N < lead (A (suc i)) N
  pub alone : (i : ℕ) → i < k → (a : ℕ) → a < k → (a ≡ i → ⊥) → A a (lead (A i) N) ≡ 0

pub corner-of-reduced : {q n k : ℕ} {m : List ℕ} → Reduced q n k m → Corner q n (entry n m) k n
corner-of-reduced {n} r =
    record {
      below = λ i j h g. r.below (i * n + j) (digits_lt h g);
      inside = r.no-zero-row;
      one = r.pivot-one;
      rise = r.pivots-rise;
      alone = r.pivot-alone;
    }

pub reduced-of-corner : (q n k : ℕ) (m : List ℕ) → length m ≡ k * n → Corner q n (entry n m) k n → Reduced q n k m
reduced-of-corner q n k m size r =
    record {
      size = size;
      below =
          λ place h.
          rw (← (place-entry k n place h m)) (r.below (place / n) (place % n) (place-row k n place h) (place-column k n place h));
      no-zero-row = r.inside;
      pivot-one = r.one;
      pivots-rise = r.rise;
      pivot-alone = r.alone;
    }

pub pivots-rise-far : {q N k c : ℕ} {A : ℕ → ℕ → ℕ} → Corner q N A k c → (i j : ℕ) → i < j → j < k → lead (A i) N < lead (A j) N
pivots-rise-far r i zero h g = absurd (not-suc-le-zero h)
pivots-rise-far {N} {k} {A} r i (suc j) h g = cases (eq-or-lt_of_le (le_of_suc-le-suc h)) (pivots-rise-far r i j)
  where
    cases : (i ≡ j) ⊎ (i < j) → (i < j → j < k → lead (A i) N < lead (A j) N) → lead (A i) N < lead (A (suc j)) N
    cases (inl e) s = rw e (r.rise j g)
    cases (inr l) s = lt_trans (s l (omega arith)) (r.rise j g)
