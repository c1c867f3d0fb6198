-- A matrix that is written column by column from the right, from its shape; no part of the meaning.
--   Drawing q n k S m c rows s == the columns of m from c on are those of the matrix with the shape S, and its first c columns are
--                                 are 0 and to become those of the shape s with `rows` rows
--   drawing-blank == the next column is 0
--   drawing-start, -free, -pivot, -end == nothing is written yet; one more column is; all are, and m is that matrix
-- Assumes nothing.
use Rattle.std.specs.Prelude.{◌≡◌, refl, List, ℕ, suc, ◌+◌, ◌*◌, ◌<◌, ◌≤◌, length, get_or, replicate}
use Rattle.std.proofs.Common.{ap, ◌∙◌, sym, ⊎_elim, eq-or-lt_of_le, le_refl, arith, eq-eqb, ne_eqb}
use Rattle.std.proofs.lemmas.List.{length-replicate, get_or-replicate}
use Rattle.std.proofs.Math.ListN.{get_or-eq_default}
use Rattle.basics.specs.Laws.Order.{le-or-lt}
use Rattle.matrix.specs.Matrix.{entry}
use Rattle.matrix.specs.Shape.{Shape, free, pivot, digit_at, cell, flatten}
use Rattle.matrix.specs.Laws.Flatten.{flatten-same, flatten-entries}
use Rattle.matrix.specs.Laws.WriteColumn.{unit_at, Blank, Written}

pub record Drawing (q n k : ℕ) (S : Shape) (m : List ℕ) (c rows : ℕ) (s : Shape) : Type 0 where
  pub sized : length m ≡ k * n
  pub done : (i j : ℕ) → i < k → c ≤ j → j < n → entry n m i j ≡ cell q S k n i j
  pub left : (i j : ℕ) → j < c → cell q S k n i j ≡ cell q s rows c i j
  pub blank : (i j : ℕ) → i < k → j < c → entry n m i j ≡ 0

zero-at : (size place : ℕ) → ◌≡◌ {A = ℕ} (get_or (replicate size 0) place 0) 0
zero-at size place =
    ⊎_elim (λ h. get_or-eq_default (replicate size 0) 0 (rw length-replicate h)) (λ h. get_or-replicate size place 0 0 h)
    (le-or-lt size place)

pub drawing-start : (q n k : ℕ) (S : Shape) (m : List ℕ) → m ≡ replicate (k * n) 0 → Drawing q n k S m n k S
drawing-start q n k S m e =
    record {
      sized = ap length e ∙ length-replicate (k * n) 0;
      done = λ i j hi hj l. absurd (omega arith);
      left = λ i j l. refl;
      blank = λ i j hi l. ap (λ z. entry n z i j) e ∙ zero-at (k * n) (i * n + j);
    }

pub drawing-blank : {q n k c rows : ℕ} {S s : Shape} {m : List ℕ} (from : ℕ) → Drawing q n k S m (suc c) rows s → Blank n k c from m
drawing-blank {c} from d i h l = d.blank i c l (le_refl (suc c))

pub drawing-end : (q n k rows : ℕ) (S s : Shape) (m : List ℕ) → Drawing q n k S m 0 rows s → m ≡ flatten k n (cell q S k n)
drawing-end q n k rows S s m d =
    sym (flatten-entries k n m d.sized) ∙ flatten-same k n (entry n m) (cell q S k n) (λ i j hi hj. d.done i j hi (omega arith) hj)

module _ (q n k c : ℕ) (S : Shape) (m m' : List ℕ) (inside : c < n) where
  -- a column is written that the shape's first column tells
  stepped : (rows rows' : ℕ) (s s' : Shape) (f : ℕ → ℕ) → Drawing q n k S m (suc c) rows s → Written n k c f m m'
      → ((i : ℕ) → cell q s rows (suc c) i c ≡ f i)
      → ((i j : ℕ) → (j ≡ c → ⊥) → cell q s rows (suc c) i j ≡ cell q s' rows' c i j)
      → Drawing q n k S m' c rows' s'
  stepped rows rows' s s' f d w here before =
      record {
        sized = w.sized ∙ d.sized;
        done =
            λ i j hi hj l.
            ⊎_elim
            (λ (e : c ≡ j). ap (entry n m' i) (sym e) ∙ w.column i hi ∙ sym (here i) ∙ sym (d.left i c (omega arith))
            ∙ ap (cell q S k n i) e)
            (λ (g : c < j). w.others i j hi l (λ e. absurd (omega arith)) ∙ d.done i j hi g l)
            (eq-or-lt_of_le hj);
        left = λ i j l. d.left i j (omega arith) ∙ before i j (λ e. absurd (omega arith));
        blank = λ i j hi l. w.others i j hi (omega arith) (λ e. absurd (omega arith)) ∙ d.blank i j hi (omega arith);
      }

  pub drawing-free : (rows x : ℕ) (s : Shape) → Drawing q n k S m (suc c) rows (free x s) → Written n k c (digit_at q rows x) m m'
      → Drawing q n k S m' c rows s
  unfolding cell
  drawing-free rows x s d w =
      stepped rows rows (free x s) s (digit_at q rows x) d w (λ i. rw (eq-eqb c c refl)) (λ i j ne. rw (ne_eqb j c ne))

  pub drawing-pivot : (rows : ℕ) (s : Shape) → Drawing q n k S m (suc c) (suc rows) (pivot s) → Written n k c (unit_at rows) m m'
      → Drawing q n k S m' c rows s
  unfolding cell
  drawing-pivot rows s d w =
      stepped (suc rows) rows (pivot s) s (unit_at rows) d w (λ i. rw (eq-eqb c c refl)) (λ i j ne. rw (ne_eqb j c ne))
