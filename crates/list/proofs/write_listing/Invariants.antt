-- The state is the one after so many steps.
use Rattle.std.proofs.Common.{◌≡◌}
use Rattle.listing.specs.Steps.{state_after}
use Rattle.list.proofs.write_listing.Given as goal

abbrev pub invariant-loop-steps : goal.invariant-loop-steps
invariant-loop-steps g l = l.state ≡ state_after l.steps l.initial.state
