-- `Numbering::rank_in` meets its contract: the numbering's own index.
use Rattle.std.proofs.Common.{ap, ◌∙◌}
use Rattle.numbering.specs.Laws.Either.{chose-extended, chose-ferrers}
use Rattle.numbering.specs.declared.Index.TheVariants.{Extended, Ferrers}
use Rattle.numbering.proofs.Numbering.rank_in.Goals as goal

pub returns-in-Extended : goal.returns-in-Extended
returns-in-Extended c =
    let a = c.args in
    ap (λ i. Extended (record { 0 = i })) c.rank.ensures
    ∙ ap (λ N. N.typed (N.index a.q a.n a.k a.m.now)) (chose-extended _ c.in-Extended.is)

pub returns-in-Ferrers : goal.returns-in-Ferrers
returns-in-Ferrers c =
    let a = c.args in
    ap (λ i. Ferrers (record { 0 = i })) c.rank-in-Ferrers.ensures
    ∙ ap (λ N. N.typed (N.index a.q a.n a.k a.m.now)) (chose-ferrers _ c.in-Ferrers.is)
