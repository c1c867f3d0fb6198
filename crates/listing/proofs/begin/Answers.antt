-- What the input is found to be, and the refusal of its settings.
use Rattle.std.proofs.Common.{◌∙◌, ap, sym}
use Rattle.refusal.specs.Laws.First.{number-positive}
use Rattle.listing.specs.Laws.Steps.{begun-malformed, begun-refused, begun-header}
use Rattle.listing.specs.declared.State.TheVariants.{Refused}
use Rattle.listing.proofs.begin.Goals as goal

pub returns-in_default : goal.returns-in_default
returns-in_default c = ap Refused c.into.ensures ∙ sym (begun-malformed _ (sym c.in_default.ensures))

pub returns-in-Ok : goal.returns-in-Ok
returns-in-Ok c = sym (begun-header _ _ (sym c.in-Some.ensures) (sym c.in-Ok.ensures))

pub returns-in-Err : goal.returns-in-Err
returns-in-Err c =
    ap Refused (c.into-in-Err.ensures ∙ c.in-Err.ensures)
    ∙ sym (begun-refused _ _ (sym c.in-Some.ensures) (λ z. number-positive _ (c.in-Err.ensures ∙ z)))
