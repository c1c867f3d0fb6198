-- `draw::draw` meets its contract: the tests in their order, each passed or answered by a refusal that touches nothing.
use Rattle.std.proofs.Common.{sym, ap, ◌∙◌, length, arith}
use Rattle.std.proofs.lemmas.Result.{err_from_is_err_and}
use Rattle.refusal.specs.Refusal.{length_refusal}
use Rattle.refusal.specs.Laws.First.{number-positive, first-refused, positive}
use Rattle.settings.specs.Laws.Accepted.{entry-of-accepted}
use Rattle.numbering.specs.Laws.Chosen.{chosen, accepted-bytes}
use Rattle.draw.specs.Draw.{draw_refusal}
use Rattle.draw.specs.Laws.DrawAccepted.{draw-choice, draw-sized, draw-kept}
use Rattle.draw.proofs.draw.Goals as goal

pub returns-in_err-check-clause-value : goal.returns-in_err-check-clause-value
unfolding draw_refusal
returns-in_err-check-clause-value c =
    let p = err_from_is_err_and c.from_residual.result c.from_residual.ensures.1 in
    let told = c.in_err-check.ensures.refusal in
    rw (p.1, p.2) (told ∙ sym (first-refused _ _ (λ z. number-positive _ (told ∙ z))))

pub returns-in_err-check-clause-matrix_after : goal.returns-in_err-check-clause-matrix_after
returns-in_err-check-clause-matrix_after c =
    let told = c.in_err-check.ensures.refusal in
    let refused = draw-choice _ _ _ _ c.args.index (length c.args.matrix.now) (λ z. number-positive _ (told ∙ z)) in
    draw-kept _ _ _ _ _ _ (λ z. number-positive _ (told ∙ sym refused ∙ z))

pub overflow_mul-k : goal.overflow_mul-k
overflow_mul-k c = omega (arith, accepted-bytes _ _ _ (chosen _ _ _ _ (sym c.in_ok-check.ensures.refusal)).settings)

pub returns-then-matrix-k-clause-value : goal.returns-then-matrix-k-clause-value
unfolding draw_refusal
returns-then-matrix-k-clause-value c =
    sym (draw-sized _ _ _ _ _ _ (sym c.in_ok-check.ensures.refusal) c.if-matrix-k.true)

pub returns-then-matrix-k-clause-matrix_after : goal.returns-then-matrix-k-clause-matrix_after
returns-then-matrix-k-clause-matrix_after c =
    let refused = draw-sized _ _ _ _ c.args.index _ (sym c.in_ok-check.ensures.refusal) c.if-matrix-k.true in
    draw-kept _ _ _ _ _ _ (λ z. positive length_refusal tt (sym refused ∙ z))

pub coefficient-total-requires : goal.coefficient-total-requires
coefficient-total-requires c =
    let a = (chosen _ _ _ _ (sym c.in_ok-check.ensures.refusal)).settings in
    (a.size, a.narrow, omega (arith, a.dimension, a.narrow))

pub draw_index-requires : goal.draw_index-requires
draw_index-requires c =
    let chose = sym c.in_ok-check.ensures.refusal in
    (chose, c.coefficient-total.ensures ∙ entry-of-accepted _ _ _ (chosen _ _ _ _ chose).settings, c.if-matrix-k.false)

pub returns-clause-value : goal.returns-clause-value
unfolding draw_refusal
returns-clause-value c =
    let a = c.args in
    c.draw_index.ensures.value ∙ ap (draw_refusal a.q a.n a.k a.t a.index) (sym c.if-matrix-k.false)
