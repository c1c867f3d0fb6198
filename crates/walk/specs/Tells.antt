-- What the walk tells after each whole row. Order 3: "after each whole row this state tells whether an entry so far was q or more and, if
-- none was, whether the rows so far are reduced."
--   Oversized q m c  == one of the first c entries of m is q or more
--   Tells q n m i w  == w tells this of the first i rows of n entries; and their identifying vector where they are reduced, else 0
-- Assumes nothing.
use Rattle.std.specs.Prelude.{◌≡◌, List, ◌↔◌, ℕ, ◌*◌, ◌<◌, ◌≤◌, T, get_or, take}
use Rattle.matrix.specs.Matrix.{Reduced, identifying}
use Rattle.walk.specs.Walk.{oversized}
use Rattle.walk.specs.declared.Walk.{Walk}

abbrev pub Oversized : ℕ → List ℕ → ℕ → Type 0
Oversized q m c = (place : ℕ) × ((place < c) × (q ≤ get_or m place 0))

pub record Tells (q n : ℕ) (m : List ℕ) (i : ℕ) (w : Walk) : Type 0 where
  pub entries : T (oversized q w) ↔ Oversized q m (i * n)
  pub rows : (Oversized q m (i * n) → ⊥) → T w.reduced ↔ Reduced q n i (take (i * n) m)
  pub vector : Reduced q n i (take (i * n) m) → w.vector ≡ identifying n i (take (i * n) m)
  pub no-vector : (T w.reduced → ⊥) → w.vector ≡ 0
