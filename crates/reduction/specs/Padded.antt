-- What `insert_rows` leaves in the bytes. They hold the reduced rows, then zeros.
--   padded size l == l, then zeros up to the size
-- Assumes nothing.
use Rattle.std.specs.Prelude.{List, ◌++◌, ℕ, ◌-◌, length, replicate}

unfoldable pub padded : ℕ → List ℕ → List ℕ
padded size l = l ++ replicate (size - length l) 0
