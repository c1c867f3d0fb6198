-- The quotient by n + 1 is the row, and the remainder the column, or n at the slash.
use Rattle.std.proofs.Common.{◌+◌, ◌%◌, ◌<◌, arith}
use Rattle.rows_text.specs.Laws.Rows.{place-slash, place-digit}
use Rattle.rows_text.proofs.Rows.byte.Goals as goal

pub returns-then-column-self : goal.returns-then-column-self
returns-then-column-self c =
    let s = c.args.self in
    place-slash s.n s.k s.entries.now c.args.place c.requires.1 c.if-column-self.true

pub returns : goal.returns
returns c =
    let s = c.args.self in
    let column : c.args.place % (s.n + 1) < s.n = omega arith in
    place-digit s.n s.k s.entries.now c.args.place c.requires.1 column
