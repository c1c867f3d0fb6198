-- `settings::row_length_ok` meets its contract.
use Rattle.std.proofs.Common.{rules}
use Rattle.settings.specs.Settings.{row_length_ok}
use Rattle.settings.proofs.row_length_ok.Goals as goal

pub returns : goal.returns
unfolding row_length_ok
returns c = search rules
