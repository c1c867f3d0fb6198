-- A matrix is reduced exactly where it can be peeled; no part of the meaning. By columns from the right: the last one is the last row's
-- pivot's, and then nothing else stands in it nor in that row, or all pivots are to its left.
--   peeled-of-corner, corner-of-peeled == a corner is reduced exactly where it can be peeled
--   peeled-lead  == where a row that is peeled with its column begins
--   peeled-of    == a reduced matrix has a shape
--   reduced-of   == what has a shape is reduced
-- Assumes nothing.
use Rattle.std.specs.Prelude.{◌≡◌, List, ◌⊎◌, ℕ, zero, suc, ◌*◌, ◌<◌, ◌≤◌, length}
use Rattle.std.proofs.Common.{◌∙◌, sym, inl, inr, le_refl, not-suc-le-zero, eq-or-lt_of_le, le_of_suc-le-suc, arith}
use Rattle.matrix.specs.Matrix.{entry, lead, Reduced}
use Rattle.matrix.specs.Shape.{Shape, empty, free, pivot}
use Rattle.matrix.specs.Laws.Shape.{top_value, Peeled, peeled-empty, peeled-free, peeled-pivot}
use Rattle.matrix.specs.Laws.Lead.{lead-unique, lead-before}
use Rattle.matrix.specs.Laws.Corner.{Corner, corner-of-reduced, reduced-of-corner, pivots-rise-far}

-- the corner with one row, or one column, less
corner-shorter : {q N k c : ℕ} {A : ℕ → ℕ → ℕ} → Corner q N A (suc k) (suc c) → lead (A k) N ≡ c → Corner q N A k c
corner-shorter {k} r e =
    record {
      below = λ i j h g. r.below i j (omega arith) (omega arith);
      inside = λ i h. rw e at (pivots-rise-far r i k h (le_refl (suc k)));
      one = λ i h. r.one i (omega arith);
      rise = λ i h. r.rise i (omega arith);
      alone = λ i h a g n. r.alone i (omega arith) a (omega arith) n;
    }

corner-narrower : {q N k c : ℕ} {A : ℕ → ℕ → ℕ} → Corner q N A k (suc c) → ((i : ℕ) → i < k → lead (A i) N < c) → Corner q N A k c
corner-narrower r h =
    record { below = λ i j g b. r.below i j g (omega arith); inside = h; one = r.one; rise = r.rise; alone = r.alone }

pub peeled-of-corner : {q N : ℕ} {A : ℕ → ℕ → ℕ} (k c : ℕ) → Corner q N A k c → (s : Shape) × Peeled q A k c s
peeled-of-corner zero zero r = (empty, peeled-empty)
peeled-of-corner (suc k) zero r = absurd (not-suc-le-zero (r.inside 0 (omega arith)))
peeled-of-corner {q} {A} zero (suc c) r =
    let (s, p) = peeled-of-corner zero c (corner-narrower r (λ i h. absurd (not-suc-le-zero h))) in
    (free (top_value q A 0 c) s, peeled-free (λ i h. absurd (not-suc-le-zero h)) p)
peeled-of-corner {q} {N} {A} (suc k) (suc c) r =
    cases (eq-or-lt_of_le (le_of_suc-le-suc (r.inside k (le_refl (suc k))))) (peeled-of-corner k c) (peeled-of-corner (suc k) c)
  where
    narrow : lead (A k) N < c → (i : ℕ) → i < suc k → (i ≡ k) ⊎ (i < k) → lead (A i) N < c
    narrow l i h (inl e) = rw e l
    narrow l i h (inr g) = omega (arith, pivots-rise-far r i k g (le_refl (suc k)))

    cases : (lead (A k) N ≡ c) ⊎ (lead (A k) N < c) → (Corner q N A k c → (s : Shape) × Peeled q A k c s)
        → (Corner q N A (suc k) c → (s : Shape) × Peeled q A (suc k) c s) → (s : Shape) × Peeled q A (suc k) (suc c) s
    cases (inl e) f g =
        let (s, p) = f (corner-shorter r e) in (
          pivot s,
          peeled-pivot (rw e at (r.one k (le_refl (suc k)))) (λ i h. rw e at (r.alone k (le_refl (suc k)) i (omega arith) (omega arith)))
              (λ j h. lead-before (A k) N j (rw e h)) p,
        )
    cases (inr l) f g =
        let (s, p) = g (corner-narrower r (λ i h. narrow l i h (eq-or-lt_of_le (le_of_suc-le-suc h)))) in
        (free (top_value q A (suc k) c) s, peeled-free (λ i h. r.below i c h (le_refl (suc c))) p)

-- the corner with one column more, or one row and its pivot's column
corner-wider : {q N k c : ℕ} {A : ℕ → ℕ → ℕ} → ((i : ℕ) → i < k → A i c < q) → Corner q N A k c → Corner q N A k (suc c)
corner-wider {q} {N} {k} {c} {A} h r =
    record {
      below = λ i j g b. entries i j g (eq-or-lt_of_le (le_of_suc-le-suc b));
      inside = λ i g. omega (arith, r.inside i g);
      one = r.one;
      rise = r.rise;
      alone = r.alone;
    }
  where
    entries : (i j : ℕ) → i < k → (j ≡ c) ⊎ (j < c) → A i j < q
    entries i j g (inl e) = rw e (h i g)
    entries i j g (inr b) = r.below i j g b

module _ (q N k c : ℕ) (A : ℕ → ℕ → ℕ) (size : 1 < q) (e : lead (A k) N ≡ c) (o : A k c ≡ 1) (above : (i : ℕ) → i < k → A i c ≡ 0)
    (left : (j : ℕ) → j < c → A k j ≡ 0) (r : Corner q N A k c) where
  entries : (i j : ℕ) → (i ≡ k) ⊎ (i < k) → (j ≡ c) ⊎ (j < c) → A i j < q
  entries i j (inl g) (inl b) = rw (g, b, o) size
  entries i j (inl g) (inr b) = rw (g, left j b) (omega arith)
  entries i j (inr g) (inl b) = rw (b, above i g) (omega arith)
  entries i j (inr g) (inr b) = r.below i j g b

  within : (i : ℕ) → (i ≡ k) ⊎ (i < k) → lead (A i) N < suc c
  within i (inl g) = rw (g, e) (le_refl (suc c))
  within i (inr g) = omega (arith, r.inside i g)

  ones : (i : ℕ) → (i ≡ k) ⊎ (i < k) → A i (lead (A i) N) ≡ 1
  ones i (inl g) = rw (g, e) o
  ones i (inr g) = r.one i g

  rising : (i : ℕ) → (suc i ≡ k) ⊎ (suc i < k) → lead (A i) N < lead (A (suc i)) N
  rising i (inl g) = rw (g, e) (r.inside i (omega arith))
  rising i (inr g) = r.rise i g

  single : (i a : ℕ) → (i ≡ k) ⊎ (i < k) → (a ≡ k) ⊎ (a < k) → (a ≡ i → ⊥) → A a (lead (A i) N) ≡ 0
  single i a (inl g) (inl h) n = absurd (n (h ∙ sym g))
  single i a (inl g) (inr h) n = rw (g, e) (above a h)
  single i a (inr g) (inl h) n = rw h (left (lead (A i) N) (r.inside i g))
  single i a (inr g) (inr h) n = r.alone i g a h n

  corner-taller : Corner q N A (suc k) (suc c)
  corner-taller =
      record {
        below = λ i j g b. entries i j (eq-or-lt_of_le (le_of_suc-le-suc g)) (eq-or-lt_of_le (le_of_suc-le-suc b));
        inside = λ i g. within i (eq-or-lt_of_le (le_of_suc-le-suc g));
        one = λ i g. ones i (eq-or-lt_of_le (le_of_suc-le-suc g));
        rise = λ i g. rising i (eq-or-lt_of_le (le_of_suc-le-suc g));
        alone = λ i g a h n. single i a (eq-or-lt_of_le (le_of_suc-le-suc g)) (eq-or-lt_of_le (le_of_suc-le-suc h)) n;
      }

-- the pivot's column, peeled, is where the row begins
pub peeled-lead : (N k c : ℕ) (A : ℕ → ℕ → ℕ) → c < N → A k c ≡ 1 → ((j : ℕ) → j < c → A k j ≡ 0) → lead (A k) N ≡ c
peeled-lead N k c A b o left = lead-unique (A k) N c (omega arith) left (λ h z. omega arith)

pub corner-of-peeled : {q N : ℕ} {A : ℕ → ℕ → ℕ} {k c : ℕ} {s : Shape} → 1 < q → c ≤ N → Peeled q A k c s → Corner q N A k c
corner-of-peeled h b peeled-empty =
    record {
      below = λ i j g _. absurd (not-suc-le-zero g);
      inside = λ i g. absurd (not-suc-le-zero g);
      one = λ i g. absurd (not-suc-le-zero g);
      rise = λ i g. absurd (not-suc-le-zero g);
      alone = λ i g. absurd (not-suc-le-zero g);
    }
corner-of-peeled h b (peeled-free g p) = corner-wider g (corner-of-peeled h (omega arith) p)
corner-of-peeled {q} {N} {A} h b (peeled-pivot {k} {n} o above left p) =
    corner-taller q N k n A h (peeled-lead N k n A b o left) o above left (corner-of-peeled h (omega arith) p)

pub peeled-of : {q n k : ℕ} {m : List ℕ} → Reduced q n k m → (s : Shape) × Peeled q (entry n m) k n s
peeled-of {n} {k} r = peeled-of-corner k n (corner-of-reduced r)

pub reduced-of : {q n k : ℕ} {m : List ℕ} {s : Shape} → 1 < q → length m ≡ k * n → Peeled q (entry n m) k n s → Reduced q n k m
reduced-of {q} {n} {k} {m} h size p = reduced-of-corner q n k m size (corner-of-peeled h (le_refl n) p)
