-- The row ends within the rows, and is written within the bytes.
use Rattle.std.proofs.Common.{◌≡◌, ◌++◌, ◌+◌, ◌*◌, ◌-◌, ◌≤◌, length, take, drop, ap, ◌∙◌, subst, add-one, arith, length-drop, length-take-le}
use Rattle.basics.specs.Laws.Flat.{row_fits}
use Rattle.reduction.specs.Padded.{padded}
use Rattle.spaces.specs.Spaces.{wide}
use Rattle.double_rows.specs.Laws.Stack.{Stacked, stacked-start, stacked-ready, stacked-more}
use Rattle.double_rows.proofs.stack.Goals as goal

pub loop-i-init : goal.loop-i-init
loop-i-init c =
    let a = c.args in
    let e : length (take a.start a.out.now) ≡ a.start = length-take-le a.start a.out.now (omega (arith, c.requires.rows_len.1)) in
    subst (λ x. Stacked (length a.out.now) a.n a.doubled (take a.start a.out.now) a.rows.now 0 x a.out.now) e
    (stacked-start _ _ _ _ _ _ c.requires.out_value)

pub stack_row-requires-clause-out_value : goal.stack_row-requires-clause-out_value
stack_row-requires-clause-out_value c =
    let a = c.args in
    let fits = row_fits c.loop-i.i a.count a.n c.loop-i-test.true in
    rw c.loop-i.auto.out (stacked-ready _ _ _ _ _ _ _ _ c.loop-i.invariant (omega (arith, fits, c.requires.rows_len.0)))

pub loop-i-preserved : goal.loop-i-preserved
loop-i-preserved c =
    let a = c.args in
    let at = c.loop-i.i * a.n in
    let fits = row_fits c.loop-i.i a.count a.n c.loop-i-test.true in
    let inside : at + a.n ≤ length a.rows.now = omega (arith, fits, c.requires.rows_len.0) in
    let size : at + a.n - at ≡ a.n = omega arith in
    let is = ap (λ x. take x (drop at a.rows.now)) size in
    let sized = ap length is ∙ length-take-le a.n (drop at a.rows.now) (omega (arith, inside, length-drop at a.rows.now)) in
    let row = take (at + a.n - at) (drop at a.rows.now) in
    let wrote =
    c.stack_row.ensures ∙ ap (λ x. padded x (take c.loop-i.to c.loop-i.out ++ wide a.doubled (length row) row)) c.loop-i.auto.out in
    rw add-one (stacked-more _ _ _ _ _ _ _ _ c.loop-i.invariant (omega arith) row _ is sized wrote)
