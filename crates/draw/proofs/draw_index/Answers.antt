-- `draw::draw_index` meets its contract: past the other tests Draw's only refusal is that of the index.
use Rattle.std.proofs.Common.{refl, sym, ◌∙◌, arith}
use Rattle.refusal.specs.Refusal.{index_refusal}
use Rattle.refusal.specs.Laws.First.{positive}
use Rattle.numbering.specs.Laws.Chosen.{chosen}
use Rattle.draw.specs.Laws.DrawAccepted.{draw-unrefused, draw-beyond, draw-leaves, draw-kept}
use Rattle.draw.proofs.draw_index.Goals as goal

pub returns-then-total-index-clause-value : goal.returns-then-total-index-clause-value
returns-then-total-index-clause-value c =
    sym (draw-beyond _ _ _ _ _ _ c.requires.0 refl (omega (arith, c.requires.1, c.if-total-index.true)))

pub returns-then-total-index-clause-matrix_after : goal.returns-then-total-index-clause-matrix_after
returns-then-total-index-clause-matrix_after c =
    let refused = draw-beyond _ _ _ _ _ _ c.requires.0 c.requires.2 (omega (arith, c.requires.1, c.if-total-index.true)) in
    draw-kept _ _ _ _ _ _ (λ z. positive index_refusal tt (sym refused ∙ z))

pub unrank-requires : goal.unrank-requires
unrank-requires c =
    ((chosen _ _ _ _ c.requires.0).settings, omega (arith, c.requires.1, c.if-total-index.false), c.requires.2)

pub returns-clause-value : goal.returns-clause-value
returns-clause-value c =
    sym (draw-unrefused _ _ _ _ _ _ c.requires.0 refl (omega (arith, c.requires.1, c.if-total-index.false)))

pub returns-clause-matrix_after : goal.returns-clause-matrix_after
returns-clause-matrix_after c =
    c.unrank.ensures.m_after
    ∙ draw-leaves _ _ _ _ _ _
    (draw-unrefused _ _ _ _ _ _ c.requires.0 c.requires.2 (omega (arith, c.requires.1, c.if-total-index.false)))
