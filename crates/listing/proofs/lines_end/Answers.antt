-- A chunk's lines further, or all.
use Rattle.std.proofs.Common.{◌-◌, ⊎_elim, ◌∙◌, sym, arith}
use Rattle.basics.specs.Laws.Order.{le-or-lt}
use Rattle.listing.specs.Steps.{chunk_lines}
use Rattle.listing.specs.Laws.Steps.{end_short, end-long}
use Rattle.listing.proofs.lines_end.Goals as goal

pub returns : goal.returns
returns c =
    let count = c.args.count in
    let i = c.args.index.0 in
    ⊎_elim (λ long. omega arith ∙ sym (end-long count i long)) (λ short. omega arith ∙ sym (end_short count i short))
    (le-or-lt chunk_lines (count - i))
