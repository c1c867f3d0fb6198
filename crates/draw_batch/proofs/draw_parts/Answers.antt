-- `draw_batch::draw_parts` meets its contract: the indexes passed are drawn, each to its part, and the next part lies after theirs.
use Rattle.std.proofs.Common.{◌≡◌, refl, ◌∙◌, ◌+◌, ◌*◌, ◌-◌, rules, arith}
use Rattle.settings.specs.Laws.Accepted.{entry-of-accepted}
use Rattle.numbering.specs.Laws.Chosen.{chosen, accepted-bytes}
use Rattle.draw_batch.proofs.Drawing.{drawing-start, drawing-size, drawing-end, drawing-room, drawing-part, drawing-more}
use Rattle.draw_batch.proofs.draw_parts.Goals as goal

pub coefficient-total-requires : goal.coefficient-total-requires
coefficient-total-requires c =
    let a = (chosen _ _ _ _ c.requires.0).settings in
    (a.size, a.narrow, omega (arith, a.dimension, a.narrow))

pub overflow_mul-size : goal.overflow_mul-size
overflow_mul-size c = omega (arith, accepted-bytes _ _ _ (chosen _ _ _ _ c.requires.0).settings)

pub loop-place-init : goal.loop-place-init
loop-place-init c = drawing-start _ _ _ _ _ _ _

pub overflow_add-end : goal.overflow_add-end
overflow_add-end c =
    let size = drawing-size _ _ _ _ _ _ _ c.requires.1 c.requires.2 _ _ _ _ c.loop-place.invariant in
    let inside = drawing-room _ _ _ _ _ _ _ c.requires.1 c.requires.2 _ _ _ _ c.loop-place.invariant _ refl c.loop-place-test.true in
    search rules

pub slice_bounds-draw_index-end : goal.slice_bounds-draw_index-end
slice_bounds-draw_index-end c =
    drawing-room _ _ _ _ _ _ _ c.requires.1 c.requires.2 _ _ _ _ c.loop-place.invariant _ refl c.loop-place-test.true

pub draw_index-drawn-requires : goal.draw_index-drawn-requires
draw_index-drawn-requires c =
    let w : c.loop-place.at + c.args.k * c.args.n - c.loop-place.at ≡ c.args.k * c.args.n = omega arith in (
      c.requires.0,
      c.coefficient-total.ensures ∙ entry-of-accepted _ _ _ (chosen _ _ _ _ c.requires.0).settings,
      drawing-part _ _ _ _ _ _ _ c.requires.1 c.requires.2 _ _ _ _ c.loop-place.invariant _ w c.loop-place-test.true,
    )

pub loop-place-preserved : goal.loop-place-preserved
loop-place-preserved c =
    let w : c.loop-place.at + c.args.k * c.args.n - c.loop-place.at ≡ c.args.k * c.args.n = omega arith in
    drawing-more _ _ _ _ _ _ _ c.requires.1 c.requires.2 _ _ _ _ c.loop-place.invariant _ w c.loop-place-test.true _ _
    c.draw_index-drawn.ensures.matrix_after (c.answer_of.ensures ∙ c.draw_index-drawn.ensures.value)

pub returns-clause-matrices_after : goal.returns-clause-matrices_after
returns-clause-matrices_after c =
    (drawing-end _ _ _ _ _ _ _ c.requires.1 c.requires.2 _ _ _ _ c.loop-place.invariant (omega (arith, c.loop-place-test.false))).0

pub returns-clause-answers_after : goal.returns-clause-answers_after
returns-clause-answers_after c =
    (drawing-end _ _ _ _ _ _ _ c.requires.1 c.requires.2 _ _ _ _ c.loop-place.invariant (omega (arith, c.loop-place-test.false))).1
