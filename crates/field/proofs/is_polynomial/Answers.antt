-- By a computed test over the sizes.
use Rattle.field.specs.Laws.Kinds.{by-four}
use Rattle.field.proofs.is_polynomial.Goals as goal

pub returns : goal.returns
returns c = by-four _ c.requires
