-- A digit put before those made so far.
use Rattle.std.proofs.Common.{rules, ◌≡◌, [], ◌++◌, ◌≤◌, ◌/◌, ◌%◌, ap, ◌∙◌, sym, arith, drop, length}
use Rattle.text.specs.Text.{glyph, numeral}
use Rattle.text.specs.Laws.Numeral.{numeral-digit, numeral-step, two_digits, below-before, digit-put}
use Rattle.text.proofs.append.write_digits.Goals as goal

pub loop-rest-preserved : goal.loop-rest-preserved
loop-rest-preserved c =
    let l = c.loop-rest in
    let i = l.invariant in
    let two : 2 ≤ l.start = two_digits l.rest l.start c.loop-rest-test.true i.small in
    let size : length l.digits ≡ 20 = search rules in
    record {
      some = omega arith;
      most = omega arith;
      small = below-before l.rest l.start i.some i.small;
      whole =
          digit-put l.digits (numeral (l.rest / 10)) l.start (glyph (l.rest % 10)) i.some (omega arith)
          ∙ ap (λ ds. ds ++ drop l.start l.digits) (sym (numeral-step l.rest c.loop-rest-test.true))
          ∙ i.whole;
    }

pub returns : goal.returns
returns c =
    let l = c.loop-rest in
    let i = l.invariant in
    let size : length l.digits ≡ 20 = search rules in (
      omega arith,
      digit-put l.digits [] l.start (glyph l.rest) i.some (omega arith)
          ∙ ap (λ ds. ds ++ drop l.start l.digits) (sym (numeral-digit l.rest c.loop-rest-test.false))
          ∙ i.whole,
    )
