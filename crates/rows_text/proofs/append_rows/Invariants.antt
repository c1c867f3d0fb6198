-- The bytes passed are in their places.
use Rattle.std.proofs.Common.{◌≡◌}
use Rattle.std.proofs.Math.Seq.{paste}
use Rattle.rows_text.specs.Rows.{rows_text}
use Rattle.rows_text.proofs.append_rows.Given as goal

abbrev pub invariant-loop-place : goal.invariant-loop-place
invariant-loop-place l = l.buffer ≡ paste l.initial.buffer l.at (rows_text l.rows.n l.rows.k l.rows.entries.now) l.place
