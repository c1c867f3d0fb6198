-- Field by field.
use Rattle.std.proofs.Common.{◌∙◌, ap, ℕ, ◌+◌, ◌*◌, ◌^◌, ◌%◌, add-one, arith}
use Rattle.walk.proofs.Laws.RowRead.{entered_by, shifted-digit, digit-fits}
use Rattle.walk.proofs.Row.enter.Goals as goal

pub overflow_add-result-2 : goal.overflow_add-result-2
overflow_add-result-2 c =
    let a = c.args in
    let placed = ap (λ (d : ℕ). d * 2 ^ (2 * a.self.column) % 4294967296) c.digit.ensures ∙ shifted-digit a.x a.self.column c.requires.0 in
    omega (arith, placed, digit-fits a.x a.self.column c.requires.0 a.self.code c.requires.1)

pub returns : goal.returns
returns c =
    let a = c.args in
    let placed = ap (λ (d : ℕ). d * 2 ^ (2 * a.self.column) % 4294967296) c.digit.ensures ∙ shifted-digit a.x a.self.column c.requires.0 in
    entered_by a.self a.x (add-one _) c.max.ensures (ap (λ d. a.self.code + d) placed)
