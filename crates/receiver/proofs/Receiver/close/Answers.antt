-- `receiver::Receiver::close` meets its contract: a receiver that is not refused is Sound, so what it uses is a reduced matrix.
use Rattle.std.proofs.Common.{rules, ◌≡◌, ap, sym, ◌∙◌, arith, length}
use Rattle.std.proofs.lemmas.Result.{err_from_is_err_and}
use Rattle.refusal.specs.Refusal.{number}
use Rattle.refusal.specs.Laws.First.{test-refused, test-passed, done}
use Rattle.settings.specs.Laws.Accepted.{accepted}
use Rattle.receive.proofs.Laws.Space.{received-refused}
use Rattle.receiver.specs.Receiver.{close_refusal, close_of}
use Rattle.receiver.specs.Laws.Sound.{sound, used-fit}
use Rattle.receiver.specs.Laws.TakeAccepted.{close-unrefused, close-told}
use Rattle.receiver.proofs.Laws.Formed.{found, missing}
use Rattle.receiver.proofs.Receiver.close.Goals as goal

pub returns-in_err-vector-clause-value : goal.returns-in_err-vector-clause-value
unfolding close_of close_refusal
returns-in_err-vector-clause-value c =
    let p = err_from_is_err_and c.from_residual.result c.from_residual.ensures.1 in
    let f = missing _ _ c.formed.ensures _ _ c.in_err-vector.ensures.value in
    rw (p.1, p.2) (received-refused _ _ _ (ap number f.1 ∙ sym (test-refused _ _ _ tt f.0)))

pub returns-then-not-is_numbering-clause-value : goal.returns-then-not-is_numbering-clause-value
unfolding close_of close_refusal
returns-then-not-is_numbering-clause-value c =
    let f = found _ _ c.formed.ensures _ _ c.in_ok-vector.ensures.value in
    received-refused _ _ _ (sym (test-passed _ _ _ f.0 ∙ test-refused _ _ _ tt (sym c.if-not-is_numbering.ensures)))

pub overflow_mul-size : goal.overflow_mul-size
overflow_mul-size c =
    let whole : length c.args.self.entries ≡ 256 = search rules in
    let s = sound _ whole (found _ _ c.formed.ensures _ _ c.in_ok-vector.ensures.value).0 in
    omega (arith, used-fit _ _ _ _ s.settings s.fits)

pub shared_ref_as_front-space_answer : goal.shared_ref_as_front-space_answer
shared_ref_as_front-space_answer c =
    let whole : length c.args.self.entries ≡ 256 = search rules in
    let s = sound _ whole (found _ _ c.formed.ensures _ _ c.in_ok-vector.ensures.value).0 in
    used-fit _ _ _ _ s.settings s.fits

pub space_answer-requires : goal.space_answer-requires
space_answer-requires c =
    let whole : length c.args.self.entries ≡ 256 = search rules in
    let f = found _ _ c.formed.ensures _ _ c.in_ok-vector.ensures.value in
    let s = sound _ whole f.0 in
    (accepted _ _ _ s.settings, s.reduced, ap (λ v. record { dimension = c.args.self.dimension; vector = v }) f.1)

pub returns-clause-value : goal.returns-clause-value
unfolding close_of close_refusal
returns-clause-value c =
    let f = found _ _ c.formed.ensures _ _ c.in_ok-vector.ensures.value in
    c.space_answer.ensures ∙ done _ _ _ (close-unrefused _ _ f.0 (sym c.if-not-is_numbering.ensures))

pub returns-in_err-vector-clause-told : goal.returns-in_err-vector-clause-told
unfolding close_of close_refusal
returns-in_err-vector-clause-told c = close-told _ _ _ (returns-in_err-vector-clause-value c)

pub returns-then-not-is_numbering-clause-told : goal.returns-then-not-is_numbering-clause-told
unfolding close_of close_refusal
returns-then-not-is_numbering-clause-told c = close-told _ _ _ (returns-then-not-is_numbering-clause-value c)

pub returns-clause-told : goal.returns-clause-told
unfolding close_of close_refusal
returns-clause-told c = close-told _ _ _ (returns-clause-value c)
