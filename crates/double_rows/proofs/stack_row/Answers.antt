-- The row is pasted where the zeros begin, and once more behind itself.
use Rattle.std.proofs.Common.{Bool, List, ℕ, ◌++◌, ◌+◌, length, take, ap, sym, ◌∙◌}
use Rattle.std.proofs.Math.Seq.{paste}
use Rattle.reduction.specs.Padded.{padded}
use Rattle.spaces.specs.Spaces.{wide}
use Rattle.double_rows.specs.Laws.Fill.{row-beside-zero, row-beside-itself}
use Rattle.double_rows.proofs.stack_row.Goals as goal

-- what is left in the bytes
left : (out row : List ℕ) (at : ℕ) → Bool → List ℕ
left out row at doubled = padded (length out) (take at out ++ wide doubled (length row) row)

pub returns-then-doubled : goal.returns-then-doubled
unfolding left
returns-then-doubled c =
    let a = c.args in
    c.copy-then-doubled.ensures
    ∙ ap (λ x. paste x (a.at + length a.row.now) a.row.now (length a.row.now)) c.copy.ensures
    ∙ row-beside-itself a.out.now a.row.now a.at c.requires.out_value c.requires.row_in_bounds
    ∙ ap (left a.out.now a.row.now a.at) (sym c.if-doubled.true)

pub returns-else-doubled : goal.returns-else-doubled
unfolding left
returns-else-doubled c =
    let a = c.args in
    c.copy.ensures ∙ row-beside-zero a.out.now a.row.now a.at c.requires.out_value c.requires.row_in_bounds
    ∙ ap (left a.out.now a.row.now a.at) (sym c.if-doubled.false)
