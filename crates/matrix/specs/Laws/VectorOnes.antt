-- The ones of an identifying vector; no part of the meaning.
--   identifying-ones == a reduced matrix of k rows has k of them
-- Assumes nothing.
use Rattle.std.specs.Prelude.{◌≡◌, List, ℕ, suc}
use Rattle.std.proofs.Common.{◌∙◌, zero-le}
use Rattle.std.proofs.Math.Nat.{sub-zero}
use Rattle.std.specs.Int.Count.{ones}
use Rattle.basics.specs.Sum.{sum, bit}
use Rattle.matrix.specs.Matrix.{entry, pivot_at, identifying, Reduced}
use Rattle.matrix.specs.Shape.{Shape}
use Rattle.matrix.specs.Laws.Shape.{Peeled, peeled-empty}
use Rattle.matrix.specs.Laws.PeelPlace.{Located}
use Rattle.matrix.specs.Laws.Column.{located-at}
use Rattle.matrix.specs.Laws.BitSum.{bits-ones}

-- peeled down to no column, the matrix has no row left: every row's pivot was counted
counted-all : {q n k j : ℕ} {m : List ℕ} {s : Shape} → Peeled q (entry n m) j 0 s → Located q n k m j 0 s
    → sum n (λ i. bit (pivot_at n k m (suc i))) ≡ k
counted-all peeled-empty l = simp sub-zero at l.counted

pub identifying-ones : {q n k : ℕ} {m : List ℕ} → Reduced q n k m → ones (identifying n k m) ≡ k
unfolding identifying
identifying-ones {n} {k} {m} r =
    let (j, s, l) = located-at r 0 zero-le in bits-ones n (λ i. pivot_at n k m (suc i)) ∙ counted-all l.part l
