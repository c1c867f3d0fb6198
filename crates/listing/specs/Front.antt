-- What stands at the front of a buffer.
--   written piece buffer == the buffer with the piece at its front, and the rest as it was
-- Assumes nothing.
use Rattle.std.specs.Prelude.{List, ◌++◌, ℕ, length, drop}

abbrev pub written : List ℕ → List ℕ → List ℕ
written piece buffer = piece ++ drop (length piece) buffer
