-- `numbering::counterpart` meets its contract: the numberings that the numbers are read as give the index.
use Rattle.std.proofs.Common.{ap, ◌∙◌}
use Rattle.numbering.specs.Numbering.{code, numbering_of}
use Rattle.numbering.specs.Laws.Either.{read-alike}
use Rattle.numbering.proofs.counterpart.Goals as goal

pub returns : goal.returns
returns c =
    let a = c.args in
    let T = numbering_of (code c.read_as-2.result) in
    c.counterpart.ensures
    ∙ ap (λ F. T.typed (T.index a.q a.n a.k (F.matrix a.q a.n a.k a.index))) (read-alike _ _ c.read_as.ensures)
    ∙ ap (λ N. N.typed (N.index a.q a.n a.k ((numbering_of a.from).matrix a.q a.n a.k a.index))) (read-alike _ _ c.read_as-2.ensures)
