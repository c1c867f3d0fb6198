-- Where the steps from the state that the input begins reach Done, their chunks are the output.
use Rattle.std.proofs.Common.{◌≡◌, Result, Ok, Err, MatchResult, List, ℕ, ◌∙◌, ap, sym}
use Rattle.listing.specs.Listing.{listing_output}
use Rattle.listing.specs.Steps.{begun, state_after, chunks}
use Rattle.listing.specs.Theorems.{output-written}
use Rattle.listing.specs.declared.State.{State}
use Rattle.listing.specs.declared.State.TheVariants.{Done}
use Rattle.list.specs.declared.Ended.{Ended}
use Rattle.list.proofs.list.Goals as goal

abbrev Reached : State → Ended → Type 0
Reached begin e = e.state ≡ state_after e.steps begin

written : (r : Result Ended Ended) (begin : State) (input : List ℕ) → begin ≡ begun input
    → MatchResult r (λ e. (Reached begin e) × (e.state ≡ Done)) (Reached begin)
    → MatchResult r (λ e. (Reached (begun input) e) × (chunks e.steps (begun input) ≡ listing_output input)) (Reached (begun input))
written (Ok e) begin input b m =
    let reached = m.0 ∙ ap (state_after e.steps) b in
    (reached, output-written e.steps input (sym reached ∙ m.1))
written (Err e) begin input b m = m ∙ ap (state_after e.steps) b

pub returns : goal.returns
returns g c = written _ _ c.args.input.now c.begin.ensures c.write_listing.ensures
