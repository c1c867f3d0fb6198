-- A member's place is below the list's length.
use Rattle.std.proofs.Common.{ap, ◌∙◌}
use Rattle.std.specs.Prelude.{ltb}
use Rattle.basics.specs.Laws.Member.{position-member}
use Rattle.field.specs.Field.{field_sizes, is_field_size}
use Rattle.field.proofs.is_size.Goals as goal

pub returns : goal.returns
unfolding is_field_size
returns c = ap (λ p. ltb p 6) c.position.ensures ∙ position-member c.args.q field_sizes
