-- `basics::copy` meets its contract: each step pastes one byte more.
use Rattle.std.proofs.Common.{◌≡◌, ◌∙◌, ap, ◌+◌, length, slice_index_or, slice_set, add-one, arith}
use Rattle.std.proofs.Math.Seq.{paste, paste-zero, paste-suc}
use Rattle.basics.proofs.copy.Goals as goal

pub loop-j-init : goal.loop-j-init
loop-j-init c = paste-zero _ c.args.start c.args.source.now

pub loop-j-preserved : goal.loop-j-preserved
loop-j-preserved c =
    let a = c.args in
    let j = c.loop-j.j in
    rw add-one
    (ap (λ x. slice_set x (a.start + j) (slice_index_or a.source.now j 0)) c.loop-j.invariant
    ∙ paste-suc a.target.now a.start a.source.now j 0 (omega arith) (omega arith))

pub returns : goal.returns
returns c =
    let a = c.args in
    let e : c.loop-j.j ≡ length a.source.now = omega arith in
    c.loop-j.invariant ∙ ap (paste a.target.now a.start a.source.now) e
