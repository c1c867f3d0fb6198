-- `Numbering::unrank` meets its contract: the numbering's own drawing.
use Rattle.std.proofs.Common.{ap, ◌∙◌}
use Rattle.matrix.specs.Matrix.{identifying}
use Rattle.numbering.specs.Laws.Either.{chose-extended, chose-ferrers}
use Rattle.numbering.proofs.Numbering.unrank.Goals as goal

pub returns-in-Extended-clause-m_after : goal.returns-in-Extended-clause-m_after
returns-in-Extended-clause-m_after c =
    let a = c.args in
    c.unrank.ensures.m_after ∙ ap (λ N. N.matrix a.q a.n a.k a.index) (chose-extended _ c.in-Extended.is)

pub returns-in-Extended-clause-value : goal.returns-in-Extended-clause-value
returns-in-Extended-clause-value c =
    let a = c.args in
    c.unrank.ensures.value
    ∙ ap (λ N. identifying a.n a.k (N.matrix a.q a.n a.k a.index)) (chose-extended _ c.in-Extended.is)

pub returns-in-Ferrers-clause-m_after : goal.returns-in-Ferrers-clause-m_after
returns-in-Ferrers-clause-m_after c =
    let a = c.args in
    c.unrank-in-Ferrers.ensures.m_after ∙ ap (λ N. N.matrix a.q a.n a.k a.index) (chose-ferrers _ c.in-Ferrers.is)

pub returns-in-Ferrers-clause-value : goal.returns-in-Ferrers-clause-value
returns-in-Ferrers-clause-value c =
    let a = c.args in
    c.unrank-in-Ferrers.ensures.value
    ∙ ap (λ N. identifying a.n a.k (N.matrix a.q a.n a.k a.index)) (chose-ferrers _ c.in-Ferrers.is)
