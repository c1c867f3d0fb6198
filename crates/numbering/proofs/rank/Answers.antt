-- `numbering::rank` meets its contract: the numbering that t is read as gives the index.
use Rattle.std.proofs.Common.{ap, ◌∙◌}
use Rattle.numbering.specs.Laws.Either.{read-alike}
use Rattle.numbering.proofs.rank.Goals as goal

pub returns : goal.returns
returns c =
    let a = c.args in
    c.rank.ensures ∙ ap (λ N. N.typed (N.index a.q a.n a.k a.m.now)) (read-alike _ _ c.read_as.ensures)
