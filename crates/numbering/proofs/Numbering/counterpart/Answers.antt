-- `Numbering::counterpart` meets its contract: its indexes are those of the drawn matrix.
use Rattle.std.proofs.Common.{ap, ◌∙◌}
use Rattle.numbering.specs.Numbering.{code, drawn}
use Rattle.numbering.specs.declared.Index.TheVariants.{Extended, Ferrers}
use Rattle.numbering.specs.Laws.Either.{chose-extended, chose-ferrers}
use Rattle.numbering.proofs.Numbering.counterpart.Goals as goal

pub returns-in-Extended : goal.returns-in-Extended
returns-in-Extended c =
    let a = c.args in
    let m = drawn a.q a.n a.k (code a.self) a.index in
    ap (λ i. Extended (record { 0 = i })) c.unrank_indexes-found.ensures.extended_value.0
    ∙ ap (λ N. N.typed (N.index a.q a.n a.k m)) (chose-extended _ c.in-Extended.is)

pub returns-in-Ferrers : goal.returns-in-Ferrers
returns-in-Ferrers c =
    let a = c.args in
    let m = drawn a.q a.n a.k (code a.self) a.index in
    ap (λ i. Ferrers (record { 0 = i })) c.unrank_indexes-found.ensures.extended_value.1
    ∙ ap (λ N. N.typed (N.index a.q a.n a.k m)) (chose-ferrers _ c.in-Ferrers.is)
