-- Order 9: when two lists of calls from a fresh Start with accepted settings, as demand 3 reads them, leave equal receivers.
--   equal-exactly  == two lists, from the same Start, leave equal receivers exactly when the rows that they accept have the same span
-- Assumes nothing.
use Rattle.std.specs.Prelude.{◌≡◌, List, ◌↔◌}
use Rattle.std.proofs.Common.{sym, subst₂}
use Rattle.linear.specs.Span.{SameSpan}
use Rattle.receiver.specs.Receiver.{Setup, setup_refusal}
use Rattle.receiver.specs.Laws.Held.{holding-exactly}
use Rattle.promise_recovery.specs.Calls.{Call, begun, after, accepted}
use Rattle.promise_recovery.proofs.Laws.After.{after_holds, accepted-rows}

pub equal-exactly : (s : Setup) → setup_refusal s ≡ 0 → (cs ds : List Call)
    → (after (begun s) cs ≡ after (begun s) ds) ↔ SameSpan s.q s.n (accepted (begun s) cs) (accepted (begun s) ds)
equal-exactly s settings cs ds =
    subst₂ (λ a b. (a ≡ b) ↔ SameSpan s.q s.n (accepted (begun s) cs) (accepted (begun s) ds)) (sym (after_holds s settings cs))
    (sym (after_holds s settings ds))
    (holding-exactly s settings (accepted (begun s) cs) (accepted (begun s) ds) (accepted-rows s settings cs) (accepted-rows s settings ds))
