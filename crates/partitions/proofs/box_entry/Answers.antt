-- `partitions::box_entry`: the rule of the packed partition counts at the place of the box and the number of dots.
use Rattle.std.proofs.Common.{◌+◌, ◌≤◌, ap, ap₂, ◌∙◌, subst, arith}
use Rattle.counts.specs.Laws.Nearer.{nearer, nearer-twice}
use Rattle.partitions.specs.Laws.PackedCounts.{packed}
use Rattle.partitions.specs.Laws.Box.{box-short}
use Rattle.partitions.proofs.Tables.{begin-below, box-at}
use Rattle.partitions.proofs.box_entry.Goals as goal

-- the box has room for at most 64 dots
pub overflow_add-begin : goal.overflow_add-begin
overflow_add-begin c =
    let a = c.args in
    let room : a.limit ≤ 64 = omega (arith, c.requires.3, box-short a.n (omega arith) a.k (omega arith)) in
    omega (arith, c.requires.2, begin-below a.n a.k c.requires.0 c.requires.1, nearer-twice a.limit a.m c.requires.4, c.nearer.ensures)

pub returns : goal.returns
returns c =
    let a = c.args in
    c.packed.ensures
    ∙ ap₂ (λ x y. packed (x + y)) c.requires.2 (c.nearer.ensures ∙ ap (λ l. nearer l a.m) c.requires.3)
    ∙ box-at a.n a.k a.m c.requires.0 c.requires.1 (subst (λ l. a.m ≤ l) c.requires.3 c.requires.4)
