-- The tests of the digits that were read, by their number and the first of them.
use Rattle.std.proofs.Common.{◌∙◌, sym}
use Rattle.settings_line.specs.Laws.Decimal.{decimal-unread, decimal-inside, decimal-empty, decimal-long, decimal-single}
use Rattle.settings_line.specs.Laws.Decimal.{decimal-zero-led, decimal-led}
use Rattle.settings_line.proofs.decimal.read_decimal.Goals as goal

pub returns-in_err-numeral : goal.returns-in_err-numeral
returns-in_err-numeral c = c.from_residual.ensures ∙ sym (decimal-unread _ _ _ (sym c.in_err-numeral.ensures))

pub returns-then-end-at : goal.returns-then-end-at
returns-then-end-at c = sym (decimal-empty _ _ _ _ (sym c.in_ok-numeral.ensures) c.if-end-at.true)

pub returns-then-most-end : goal.returns-then-most-end
returns-then-most-end c = sym (decimal-long _ _ _ _ (sym c.in_ok-numeral.ensures) c.if-end-at.false c.if-most-end.true)

pub returns-then-end-at-eq1 : goal.returns-then-end-at-eq1
returns-then-end-at-eq1 c = sym (decimal-single _ _ _ _ (sym c.in_ok-numeral.ensures) c.if-end-at-eq1.true c.if-most-end.false)

pub bounds-text-at : goal.bounds-text-at
bounds-text-at c = decimal-inside _ _ 0 _ (sym c.in_ok-numeral.ensures) c.if-end-at.false

pub returns-then-text-at-eq48 : goal.returns-then-text-at-eq48
returns-then-text-at-eq48 c =
    sym (decimal-zero-led _ _ _ _ (sym c.in_ok-numeral.ensures) c.if-end-at.false c.if-end-at-eq1.false c.if-most-end.false
    c.if-text-at-eq48.true)

pub returns : goal.returns
returns c = sym (decimal-led _ _ _ _ (sym c.in_ok-numeral.ensures) c.if-end-at.false c.if-most-end.false c.if-text-at-eq48.false)
