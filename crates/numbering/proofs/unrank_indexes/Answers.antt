-- `numbering::unrank_indexes` meets its contract: the numbering that t is read as draws.
use Rattle.std.proofs.Common.{ap, ◌∙◌}
use Rattle.extended.specs.Extended.{extended_index}
use Rattle.ferrers.specs.Ferrers.{ferrers_index}
use Rattle.numbering.specs.Laws.Either.{read-alike}
use Rattle.numbering.proofs.unrank_indexes.Goals as goal

pub returns-clause-m_after : goal.returns-clause-m_after
returns-clause-m_after c =
    let a = c.args in
    c.unrank_indexes.ensures.m_after ∙ ap (λ N. N.matrix a.q a.n a.k a.index) (read-alike _ _ c.read_as.ensures)

pub returns-clause-extended_value : goal.returns-clause-extended_value
returns-clause-extended_value c =
    let a = c.args in
    let same = read-alike _ _ c.read_as.ensures in
    let told = c.unrank_indexes.ensures.extended_value in (
      told.0 ∙ ap (λ N. extended_index a.q a.n a.k (N.matrix a.q a.n a.k a.index)) same,
      told.1 ∙ ap (λ N. ferrers_index a.q a.n a.k (N.matrix a.q a.n a.k a.index)) same,
    )
