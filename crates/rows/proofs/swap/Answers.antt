-- `rows::swap` meets its contract: the first j bytes of the two rows are exchanged.
use Rattle.std.proofs.Common.{◌≡◌, ap, ◌∙◌, ◌+◌, add-one, arith, get_or, set}
use Rattle.rows.specs.Laws.Raise.{exchanged, exchanged-none, exchanged-more, exchanged-all}
use Rattle.rows.proofs.swap.Goals as goal

pub loop-j-init : goal.loop-j-init
loop-j-init c = exchanged-none c.args.n c.args.at c.args.m.now

pub loop-j-preserved : goal.loop-j-preserved
loop-j-preserved c =
    let a = c.args in
    let j = c.loop-j.j in
    rw add-one
    (ap (λ x. set (set x (a.at + j) (get_or x (a.at + a.n + j) 0)) (a.at + a.n + j) (get_or x (a.at + j) 0)) c.loop-j.invariant
    ∙ exchanged-more a.n a.at a.m.now c.requires j (omega arith))

pub returns : goal.returns
returns c =
    let a = c.args in
    let e : c.loop-j.j ≡ a.n = omega arith in
    c.loop-j.invariant ∙ ap (λ x. exchanged a.n a.at a.m.now x x) e ∙ exchanged-all a.n a.at a.m.now c.requires
