-- The diagram of a peeled shape; no part of the meaning.
--   heights s k      == the rows that are left at each free column, from the right: F_1, F_2, ..
--   heights-total    == their sum is the size
--   heights-length   == there are n - k of them
--   heights-first    == the first is at most k
-- Assumes nothing.
use Rattle.std.specs.Prelude.{◌≡◌, refl, List, [], ◌∷◌, ℕ, pred, ◌+◌, ◌-◌, ◌<◌, ◌≤◌, length}
use Rattle.std.proofs.Common.{ap, le_refl, arith}
use Rattle.std.proofs.Math.Nat.{le_step}
use Rattle.matrix.specs.Shape.{Shape, empty, free, pivot}
use Rattle.matrix.specs.Laws.Shape.{Valid, valid-empty, valid-free, valid-pivot}
use Rattle.ferrers.specs.Ferrers.{total}
use Rattle.ferrers.specs.Laws.ShapeRank.{shape_size}

unfoldable pub heights : Shape → ℕ → List ℕ
heights empty k = []
heights (free x s) k = k ∷ heights s k
heights (pivot s) k = heights s (pred k)

pub heights-total : (s : Shape) (k : ℕ) → total (heights s k) ≡ shape_size s k
unfolding heights total shape_size
heights-total empty k = refl
heights-total (free x s) k = ap (λ t. k + t) (heights-total s k)
heights-total (pivot s) k = heights-total s (pred k)

counted : {q k n : ℕ} {s : Shape} → Valid q k n s → length (heights s k) + k ≡ n
unfolding heights
counted valid-empty = refl
counted (valid-free {k} {s} b v) = omega (arith, counted v)
counted (valid-pivot {k} {s} v) = omega (arith, counted v)

pub heights-length : {q k n : ℕ} {s : Shape} → Valid q k n s → length (heights s k) ≡ n - k
heights-length v = omega (arith, counted v)

pub heights-first : {q k n : ℕ} {s : Shape} → Valid q k n s → k < n → (f : ℕ) × (F : List ℕ) × (heights s k ≡ f ∷ F) × (f ≤ k)
unfolding heights
heights-first valid-empty h = absurd (omega arith)
heights-first (valid-free {k} {s} b v) h = (k, heights s k, refl, le_refl k)
heights-first (valid-pivot v) h = let (f, F, e, l) = heights-first v (omega arith) in (f, F, e, le_step l)
