-- The checked steps stop exactly where the next value is above 2^64 - 1.
use Rattle.std.proofs.Common.{◌≡◌, ℕ, ◌+◌, ◌-◌, ◌*◌, true, Some, ap, subst, sym, ◌∙◌, arith, get_or}
use Rattle.settings_line.specs.Decimal.{is_digit}
use Rattle.settings_line.specs.Laws.ReadDigits.{digit-tested, run_end, run-stop, Running, running-start, running_more, running-done, running-over}
use Rattle.settings_line.proofs.decimal.read_digits.Goals as goal

pub loop-i-init : goal.loop-i-init
loop-i-init c = record { running = running-start _ _; within = omega arith }

pub returns-then-not-is_ascii_digit : goal.returns-then-not-is_ascii_digit
returns-then-not-is_ascii_digit c =
    let none = sym (digit-tested _) ∙ sym c.is_ascii_digit.ensures.value ∙ c.if-not-is_ascii_digit.true in
    sym (running-done _ _ _ _ c.loop-i.invariant.running (run-stop _ _ c.loop-i-test.true none))

pub returns-in_err-checked_mul : goal.returns-in_err-checked_mul
returns-in_err-checked_mul c =
    let digit : is_digit (get_or c.args.text.now c.loop-i.i 0) ≡ true =
    sym (digit-tested _) ∙ sym c.is_ascii_digit.ensures.value ∙ c.if-not-is_ascii_digit.false in
    let over = c.in_err-checked_mul.ensures in
    c.from_residual.ensures ∙ sym (running-over _ _ _ _ c.loop-i.invariant.running c.loop-i-test.true digit (omega arith))

pub returns-in_err-value : goal.returns-in_err-value
returns-in_err-value c =
    let digit : is_digit (get_or c.args.text.now c.loop-i.i 0) ≡ true =
    sym (digit-tested _) ∙ sym c.is_ascii_digit.ensures.value ∙ c.if-not-is_ascii_digit.false in
    let over = c.in_err-value.ensures in
    let times = c.in_ok-checked_mul.ensures in
    c.from_residual-in_err-value.ensures ∙ sym (running-over _ _ _ _ c.loop-i.invariant.running c.loop-i-test.true digit (omega arith))

pub loop-i-preserved : goal.loop-i-preserved
loop-i-preserved c =
    let digit : is_digit (get_or c.args.text.now c.loop-i.i 0) ≡ true =
    sym (digit-tested _) ∙ sym c.is_ascii_digit.ensures.value ∙ c.if-not-is_ascii_digit.false in
    let times = c.in_ok-checked_mul.ensures in
    let plus = c.in_ok-value.ensures in
    let value : c.in_ok-value.value ≡ c.loop-i.value * 10 + (get_or c.args.text.now c.loop-i.i 0 - 48) = omega arith in
    let P : ℕ → Type 0 = λ v. Running c.args.text.now c.args.at v (c.loop-i.i + 1) in
    record {
      running = subst P (sym value) (running_more _ _ _ _ c.loop-i.invariant.running c.loop-i-test.true digit (omega arith));
      within = omega arith;
    }

pub returns : goal.returns
returns c =
    let end : c.loop-i.i ≡ c.max.result = omega (arith, c.loop-i.invariant.within) in
    ap (λ i. Some (record { value = c.loop-i.value; end = i })) (sym end)
    ∙ sym (running-done _ _ _ _ c.loop-i.invariant.running (run_end _ _ c.loop-i-test.false))
