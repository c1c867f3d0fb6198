-- By the theorem `round_trip`.
use Rattle.std.proofs.Common.{◌∙◌, ap, sym, length, take, rules}
use Rattle.matrix.specs.Matrix.{identifying}
use Rattle.receive.specs.Answer.{received_number}
use Rattle.pandrwyg.specs.Exported.{answer_bytes, exported_of, exported_bytes}
use Rattle.promise_recovery.specs.Demand.{little_endian}
use Rattle.clients.specs.RoundTrip.{round_trip}
use Rattle.clients.proofs.round_trip.Goals as goal

pub returns : goal.returns
returns c = λ drawn size.
    let a = c.args in
    let d = c.pandrwyg_draw_raw-refusal.ensures.matrix_after in
    let e = c.pandrwyg_receive_raw.ensures in
    let r = round_trip a.q a.n a.k a.t a.index a.matrix.now drawn a.answer.now size (search rules) in
    let bytes = e.answer_after ∙ ap (λ m. exported_bytes a.q a.n a.k a.t a.k m a.answer.now) d in (
      e.value ∙ ap (λ m. received_number (exported_of a.q a.n a.k a.t a.k m (length a.answer.now))) d ∙ r.0,
      bytes ∙ r.1 ∙ ap (λ m. answer_bytes a.index a.k (identifying a.n a.k m)) (sym d),
      ap (λ x. little_endian (take 8 x)) bytes ∙ r.2,
    )
