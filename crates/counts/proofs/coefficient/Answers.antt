-- `counts::coefficient`: where k ≤ n the count stands among the halves, at the place that is looked up.
use Rattle.std.proofs.Common.{◌+◌, ◌*◌, get_or, ap, ap₂, ◌∙◌, sym}
use Rattle.counts.specs.Gaussian.{capped}
use Rattle.counts.specs.Laws.GaussianLaws.{gaussian-none}
use Rattle.counts.specs.Laws.Halves.{halves, half_at}
use Rattle.counts.proofs.coefficient.Goals as goal

pub returns-then-n-k : goal.returns-then-n-k
returns-then-n-k c = sym (ap capped (gaussian-none c.args.q c.args.n c.args.k c.if-n-k.true))

pub returns : goal.returns
returns c =
    c.count.ensures
    ∙ ap₂ (λ p h. get_or halves (p * 81 + h) 0) c.position-part.ensures c.half_place.ensures
    ∙ half_at c.args.q c.args.n c.args.k c.requires.0 c.requires.1 c.if-n-k.false
