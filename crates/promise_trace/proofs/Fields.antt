-- When two receivers are equal; no part of the meaning.
--   fields-equal == two receivers are equal exactly when they are equal in every field
-- Assumes nothing.
use Rattle.std.specs.Prelude.{◌≡◌, ◌↔◌}
use Rattle.std.proofs.Common.{ap, ◌∙◌}
use Rattle.receiver.specs.Receiver.{setup_of, made}
use Rattle.receiver.specs.declared.Receiver.{Receiver}
use Rattle.promise_trace.specs.Trace.{SameFields}
use Rattle.promise_trace.proofs.Theorem.{setups-equal}

pub fields-equal : (a b : Receiver) → (a ≡ b) ↔ SameFields a b
fields-equal a b = (
  λ e. (
    ap (λ r. r.entries) e,
    ap (λ r. r.q) e,
    ap (λ r. r.n) e,
    ap (λ r. r.k) e,
    ap (λ r. r.dimension) e,
    ap (λ r. r.pack) e,
  ),
  λ x.
      ap (λ s. made s a.dimension a.entries) (setups-equal (setup_of a) (setup_of b) x.1 x.2 x.3 x.5)
      ∙ ap (λ d. made (setup_of b) d a.entries) x.4
      ∙ ap (made (setup_of b) b.dimension) x.0,
)
