-- The list's rule, at the place made of q's part and a.
use Rattle.std.proofs.Common.{◌+◌, ◌*◌, get_or, ap, ◌∙◌}
use Rattle.field.specs.Laws.Inverses.{inverses, inverse-at}
use Rattle.field.proofs.invert.Goals as goal

pub returns : goal.returns
returns c =
    c.inverse_at.ensures
    ∙ ap (λ x. get_or inverses (x * 8 + c.args.a) 0) c.position.ensures
    ∙ inverse-at _ _ c.requires.0 c.requires.1
