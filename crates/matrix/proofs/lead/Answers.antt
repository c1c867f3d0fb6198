-- The first place of the row that is not 0.
use Rattle.std.proofs.Common.{sym, arith}
use Rattle.matrix.specs.Laws.Lead.{lead-unique}
use Rattle.matrix.proofs.lead.Goals as goal

pub returns-then-m-start-ne0 : goal.returns-then-m-start-ne0
returns-then-m-start-ne0 c =
    sym (lead-unique _ c.args.n c.loop-j.j (omega arith) c.loop-j.invariant (λ h. c.if-m-start-ne0.true))

pub returns : goal.returns
returns c =
    sym (lead-unique _ c.args.n c.args.n (omega arith) (λ j h. c.loop-j.invariant j (omega arith)) (λ h. absurd (omega arith)))
