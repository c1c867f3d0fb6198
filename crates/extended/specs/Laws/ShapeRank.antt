-- The extended numbering on peeled shapes, as a recursion that computes; its theorems tie it to formula (5): laws; no part of the meaning.
--   extended_rank q s k n   == the index of the matrix with the shape s
-- Assumes nothing.
use Rattle.std.specs.Prelude.{ℕ, pred, ◌+◌, ◌*◌, ◌^◌}
use Rattle.matrix.specs.Shape.{Shape, empty, free, pivot}
use Rattle.counts.specs.Gaussian.{gaussian}

unfoldable pub extended_rank : ℕ → Shape → ℕ → ℕ → ℕ
extended_rank q empty k n = 0
extended_rank q (free x s) k n = x * gaussian q (pred n) k + extended_rank q s k (pred n)
extended_rank q (pivot s) k n = q ^ k * gaussian q (pred n) k + extended_rank q s (pred k) (pred n)
