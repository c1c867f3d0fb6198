-- The pivots from row i on are written, and `rest` is what the rows above add to the vector.
use Rattle.std.proofs.Common.{◌≡◌, List, ℕ}
use Rattle.matrix.specs.Matrix.{Reduced, identifying}
use Rattle.matrix.proofs.Laws.Pivots.{Left}
use Rattle.matrix.proofs.pivot_columns.Given as goal

abbrev pub invariant-loop-i : goal.invariant-loop-i
invariant-loop-i l = (q : ℕ) (m : List ℕ) → Reduced q l.n l.k m → l.v ≡ identifying l.n l.k m → Left l.n l.k m l.rest l.i l.pivots
