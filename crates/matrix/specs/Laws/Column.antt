-- The columns of a reduced matrix as peeling finds them; no part of the meaning. The column c from the left is the column N - c from the
-- right.
--   free-column, pivot-column == document 01's {X_j} of a free column and of a pivot's
--   LocatedColumn q N K m c   == peeling finds the column c free, or a pivot's
--   located-at                == a reduced matrix can be peeled down to any number of columns
--   located-column            == so each of its columns is found
-- Assumes nothing.
use Rattle.std.specs.Prelude.{◌≡◌, List, ◌⊎◌}
use Rattle.std.proofs.Math.Path.{ap}
use Rattle.std.proofs.Common.{◌∙◌, sym, inl, inr, le_refl, le_of_lt, eq-or-lt_of_le, le_of_suc-le-suc}
use Prim.Native.Nat.{ℕ, suc, ◌*◌, ◌-◌, ◌^◌, ◌<◌, ◌≤◌}
use Rattle.std.proofs.Math.Nat.{one-mul}
use Rattle.std.proofs.Math.Arith.{sub-sub_self, le-zero}
use Rattle.basics.specs.Laws.TableValue.{table-value-top, table-value-one}
use Rattle.matrix.specs.Matrix.{entry, column_value, Reduced}
use Rattle.matrix.specs.Shape.{Shape, empty, free, pivot}
use Rattle.matrix.specs.Laws.Shape.{top_value, Peeled, peeled-empty, peeled-free, peeled-pivot}
use Rattle.matrix.specs.Laws.Peel.{peeled-of}
use Rattle.matrix.specs.Laws.ShapeLaws.{free-value, pivot-one, pivot-above}
use Rattle.matrix.specs.Laws.PeelPlace.{Located, located-start, located-free, located-pivot, located-zero}

module _ {q N K : ℕ} {m : List ℕ} where
  pub free-column : {k c x : ℕ} {s : Shape} → Located q N K m k (suc c) (free x s) → column_value q N K m (N - c) ≡ x * q ^ (K - k)
  unfolding column_value top_value
  free-column {k} {c} l =
      rw (sub-sub_self (le_of_lt l.columns))
      (table-value-top q (λ i. entry N m i c) k K l.rows (λ i h g. located-zero l i c h g (le_refl (suc c)))
      ∙ ap (λ x. x * q ^ (K - k)) (sym (free-value l.part)))

  pub pivot-column : {k c : ℕ} {s : Shape} → Located q N K m (suc k) (suc c) (pivot s) → column_value q N K m (N - c) ≡ q ^ (K - suc k)
  unfolding column_value
  pivot-column {k} {c} l =
      rw (sub-sub_self (le_of_lt l.columns))
      (table-value-top q (λ i. entry N m i c) (suc k) K l.rows (λ i h g. located-zero l i c h g (le_refl (suc c)))
      ∙ ap (λ v. v * q ^ (K - suc k)) (table-value-one q (λ i. entry N m i c) k (pivot-above l.part) (pivot-one l.part))
      ∙ one-mul (q ^ (K - suc k)))

pub data LocatedColumn (q N K : ℕ) (m : List ℕ) (c : ℕ) : Type 0 where
  at-free : {k x : ℕ} {s : Shape} → Located q N K m k (suc c) (free x s) → LocatedColumn q N K m c
  at-pivot : {k : ℕ} {s : Shape} → Located q N K m (suc k) (suc c) (pivot s) → LocatedColumn q N K m c

-- the columns that are left are these, or fewer
stop-or-go : {q N K k b c : ℕ} {m : List ℕ} {s : Shape} → Located q N K m k (suc b) s → (c ≡ suc b) ⊎ (c < suc b)
    → (c ≤ b → (j : ℕ) × (t : Shape) × Located q N K m j c t) → (j : ℕ) × (t : Shape) × Located q N K m j c t
stop-or-go {k} {s} l (inl e) r = (k, s, rw e l)
stop-or-go l (inr h) r = r (le_of_suc-le-suc h)

located-below : {q N K : ℕ} {m : List ℕ} {k b : ℕ} {s : Shape} → Peeled q (entry N m) k b s → Located q N K m k b s
    → (c : ℕ) → c ≤ b → (j : ℕ) × (t : Shape) × Located q N K m j c t
located-below peeled-empty l c h = (0, empty, rw (le-zero h) l)
located-below (peeled-free g p) l c h = stop-or-go l (eq-or-lt_of_le h) (λ b. located-below p (located-free l) c b)
located-below (peeled-pivot o above left p) l c h = stop-or-go l (eq-or-lt_of_le h) (λ b. located-below p (located-pivot l) c b)

pub located-at : {q N K : ℕ} {m : List ℕ} → Reduced q N K m → (c : ℕ) → c ≤ N → (k : ℕ) × (s : Shape) × Located q N K m k c s
located-at r c h = let (s, p) = peeled-of r in located-below p (located-start r p) c h

column-found : {q N K k c : ℕ} {m : List ℕ} {s : Shape} → Peeled q (entry N m) k (suc c) s → Located q N K m k (suc c) s
    → LocatedColumn q N K m c
column-found (peeled-free g p) l = at-free l
column-found (peeled-pivot o above left p) l = at-pivot l

pub located-column : {q N K : ℕ} {m : List ℕ} → Reduced q N K m → (c : ℕ) → c < N → LocatedColumn q N K m c
located-column r c h = let (k, s, l) = located-at r (suc c) h in column-found l.part l
