-- `ferrers::find_size`: the rest is the index among the matrices of at most m dots, and their shapes are found by size.
use Rattle.ferrers.specs.Laws.FindSize.{Searching}
use Rattle.ferrers.proofs.find_size.Given as goal

abbrev pub invariant-loop-m : goal.invariant-loop-m
invariant-loop-m l = Searching l.q l.n l.k l.index l.m l.rest
