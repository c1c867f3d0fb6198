-- The lines passed stand at the buffer's front.
use Rattle.listing.specs.Laws.WriteLines.{Filling}
use Rattle.listing.proofs.write.write_lines.Given as goal

abbrev pub invariant-loop-index : goal.invariant-loop-index
invariant-loop-index l =
    Filling l.settings.q l.settings.n l.settings.k l.fn.from.0 l.fn.to.0 l.initial.buffer l.buffer l.at l.index
