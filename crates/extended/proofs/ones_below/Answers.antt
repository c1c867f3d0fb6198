-- `extended::ones_below`: the mask leaves the remainder by 2^j, which has at most j ones.
use Rattle.matrix.specs.Laws.Bits.{masked-ones}
use Rattle.extended.proofs.ones_below.Goals as goal

pub returns : goal.returns
returns c = masked-ones c.args.j c.requires c.args.v
