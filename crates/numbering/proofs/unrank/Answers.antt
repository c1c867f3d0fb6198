-- `numbering::unrank` meets its contract: the numbering that t is read as draws.
use Rattle.std.proofs.Common.{ap, ◌∙◌}
use Rattle.matrix.specs.Matrix.{identifying}
use Rattle.numbering.specs.Laws.Either.{read-alike}
use Rattle.numbering.proofs.unrank.Goals as goal

pub returns-clause-m_after : goal.returns-clause-m_after
returns-clause-m_after c =
    let a = c.args in
    c.unrank.ensures.m_after ∙ ap (λ N. N.matrix a.q a.n a.k a.index) (read-alike _ _ c.read_as.ensures)

pub returns-clause-value : goal.returns-clause-value
returns-clause-value c =
    let a = c.args in
    c.unrank.ensures.value
    ∙ ap (λ N. identifying a.n a.k (N.matrix a.q a.n a.k a.index)) (read-alike _ _ c.read_as.ensures)
