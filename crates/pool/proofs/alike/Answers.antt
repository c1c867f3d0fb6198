-- `pool::alike` meets its contract: the four comparisons, one after the other.
use Rattle.std.proofs.Common.{rules}
use Rattle.pool.specs.Pool.{alike}
use Rattle.pool.proofs.alike.Goals as goal

pub returns : goal.returns
unfolding alike
returns c = search rules
