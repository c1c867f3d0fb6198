-- `pool::pool` meets its contract: what is not refused meets what the two functions require, and the pooled receiver's entries are copied.
use Rattle.std.proofs.Common.{rules, ◌≡◌, ap, ap₂, sym, ◌∙◌, ℕ, arith, length, Ok, Err}
use Rattle.std.specs.Prelude.{Result}
use Rattle.refusal.specs.Laws.First.{number-positive, named-number, kept, done}
use Rattle.refusal.specs.Refusal.{named}
use Rattle.refusal.specs.declared.Refusal.{Refusal}
use Rattle.spaces.specs.Spaces.{joint_dimension}
use Rattle.receiver.specs.Receiver.{holding}
use Rattle.receiver.specs.declared.Receiver.{Receiver}
use Rattle.pool.specs.Pool.{pooled, pool_of, joint_buffer, common_buffer}
use Rattle.pool.specs.Laws.PoolAccepted.{pool-accepted, pool-told}
use Rattle.pool.specs.Laws.Pooling.{square-fits, joint-front}
use Rattle.pool.specs.declared.Dimensions.{Dimensions}
use Rattle.pool.specs.declared.Pooled.{Pooled}
use Rattle.pool.proofs.pool.Goals as goal

-- what is handed back, by its two fields, and what a pooling hands back
handed : Receiver → Result Dimensions Refusal → Pooled
handed r a = record { receiver = r; answer = a }

both : Receiver → ℕ → Pooled
both r common = record { receiver = r; answer = Ok (record { joint = r.dimension; common = common }) }

pub returns-in-Err-clause-value : goal.returns-in-Err-clause-value
unfolding pool_of handed
returns-in-Err-clause-value c =
    let told = c.in-Err.ensures in
    ap₂ handed c.empty.ensures (ap Err (sym (named-number _) ∙ ap named told)) ∙ kept _ _ _ (λ z. number-positive _ (told ∙ z))

pub returns-in-Err-clause-joint_after : goal.returns-in-Err-clause-joint_after
unfolding joint_buffer
returns-in-Err-clause-joint_after c = kept _ _ _ (λ z. number-positive _ (c.in-Err.ensures ∙ z))

pub returns-in-Err-clause-common_after : goal.returns-in-Err-clause-common_after
unfolding common_buffer
returns-in-Err-clause-common_after c = kept _ _ _ (λ z. number-positive _ (c.in-Err.ensures ∙ z))

pub returns-in-Err-clause-answer_value : goal.returns-in-Err-clause-answer_value
returns-in-Err-clause-answer_value c = pool-told _ _ _ _ _ (returns-in-Err-clause-value c)

pub common_rows-shared-requires : goal.common_rows-shared-requires
common_rows-shared-requires c =
    let p = pool-accepted _ _ _ _ (sym c.in_default.ensures) in
    (p.first, p.second, p.same, p.common-room)

pub joined-receiver-requires : goal.joined-receiver-requires
joined-receiver-requires c =
    let p = pool-accepted _ _ _ _ (sym c.in_default.ensures) in
    (p.first, p.second, p.same)

pub shared_ref_as_front-copy_from_slice : goal.shared_ref_as_front-copy_from_slice
shared_ref_as_front-copy_from_slice c =
    let wa : length c.args.a.entries ≡ 256 = search rules in
    let wb : length c.args.b.entries ≡ 256 = search rules in
    let z = sym c.in_default.ensures in
    let p = pool-accepted _ _ _ _ z in
    omega (arith, p.joint-room, square-fits _ _ wa wb p.first p.second p.same)

pub returns-clause-value : goal.returns-clause-value
unfolding pool_of pooled both holding joint_dimension
returns-clause-value c =
    ap₂ both c.joined-receiver.ensures c.common_rows-shared.ensures.value ∙ done _ _ _ (sym c.in_default.ensures)

pub returns-clause-joint_after : goal.returns-clause-joint_after
unfolding joint_buffer
returns-clause-joint_after c =
    let wa : length c.args.a.entries ≡ 256 = search rules in
    let wb : length c.args.b.entries ≡ 256 = search rules in
    let z = sym c.in_default.ensures in
    let p = pool-accepted _ _ _ _ z in
    c.copy_from_slice.ensures.after
    ∙ joint-front _ _ wa wb p.first p.second p.same _ _ p.joint-room (ap (λ r. r.entries) c.joined-receiver.ensures)
    ∙ done _ _ _ z

pub returns-clause-common_after : goal.returns-clause-common_after
unfolding common_buffer
returns-clause-common_after c = c.common_rows-shared.ensures.out_after ∙ done _ _ _ (sym c.in_default.ensures)

pub returns-clause-answer_value : goal.returns-clause-answer_value
returns-clause-answer_value c = pool-told _ _ _ _ _ (returns-clause-value c)
