-- `receiver::Receiver::take` meets its contract: a refusal hands the receiver back, and what is not refused is taken in.
use Rattle.std.proofs.Common.{rules, ◌≡◌, ap, sym, subst, ◌∙◌, length, Err}
use Rattle.refusal.specs.Refusal.{named}
use Rattle.refusal.specs.Laws.First.{number-positive, named-number, kept, done}
use Rattle.receiver.specs.Receiver.{offer, taken_in, take_of, taken_as}
use Rattle.receiver.specs.Laws.TakeAccepted.{TakeAccepted, take-accepted}
use Rattle.receiver.proofs.Laws.TakeTold.{zero-idle, take-told}
use Rattle.receiver.proofs.Receiver.take.Goals as goal

pub returns-in-Err : goal.returns-in-Err
unfolding take_of
returns-in-Err c =
    let whole : length c.args.self.entries ≡ 256 = search rules in
    let told = c.in-Err.ensures.refusal in
    let e =
    ap (λ x. taken_as c.args.self (Err x)) (sym (named-number _) ∙ ap named told)
    ∙ kept _ _ _ (λ z. number-positive _ (told ∙ z))
    in
    (e, take-told _ _ whole _ e)

pub returns-in-Ok : goal.returns-in-Ok
unfolding take_of
returns-in-Ok c =
    let whole : length c.args.self.entries ≡ 256 = search rules in
    let z = sym c.in-Ok.ensures.refusal in
    let e = zero-idle _ _ whole z (sym c.in-Ok.ensures.tested.1 ∙ c.if-tested.true) ∙ done _ _ _ z in
    (e, take-told _ _ whole _ e)

pub taken_in-requires : goal.taken_in-requires
taken_in-requires c =
    let granted = take-accepted _ _ (sym c.in-Ok.ensures.refusal) in
    let found = c.in-Ok.ensures.tested in (
      subst (λ pack. TakeAccepted c.args.self (offer pack c.args.row.now)) granted.own granted,
      sym found.1 ∙ c.if-tested.false,
      found.0,
    )

pub returns-in-Ok-2 : goal.returns-in-Ok-2
unfolding take_of taken_in
returns-in-Ok-2 c =
    let whole : length c.args.self.entries ≡ 256 = search rules in
    let e = c.taken_in.ensures ∙ done _ _ _ (sym c.in-Ok.ensures.refusal) in
    (e, take-told _ _ whole _ e)
