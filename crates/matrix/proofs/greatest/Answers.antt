use Rattle.std.proofs.Common.{◌∙◌, sym, ap, inl, inr, ⊎_elim, get_or, add-one, arith}
use Rattle.basics.specs.Laws.Order.{le-or-lt}
use Rattle.matrix.specs.Matrix.{entries_below}
use Rattle.matrix.specs.Laws.Tests.{below_to, below-start, below_more}
use Rattle.matrix.proofs.greatest.Goals as goal

pub loop-place-init : goal.loop-place-init
loop-place-init c q above = below-start q c.args.m.now above

pub loop-place-preserved : goal.loop-place-preserved
loop-place-preserved c q above =
    let l = c.loop-place in
    rw add-one
    (below_more q _ _ _ _ (l.invariant q above) (omega arith) (omega arith)
    (⊎_elim (λ less. inr (omega arith)) (λ more. inl (omega arith)) (le-or-lt l.greatest (get_or c.args.m.now l.place 0))))

pub returns : goal.returns
unfolding entries_below
returns c q above = sym (c.loop-place.invariant q above) ∙ ap (below_to q c.args.m.now) (omega arith)
