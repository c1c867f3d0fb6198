-- `counts::all_counts`: formula (4) and the too-large case, by one computed test over the table.
use Rattle.basics.specs.Table.{tabulate}
use Rattle.basics.specs.Laws.Test.{equal_lists}
use Rattle.counts.specs.Gaussian.{gaussian, entry, counts}
use Rattle.counts.proofs.all_counts.Goals as goal

pub returns : goal.returns
unfolding counts entry tabulate gaussian
returns c = (equal_lists _ counts).shows tt
