-- What two receivers are apart, as the distance answers it for what they hold.
--   held s a b       == what the distance answers for the rows that the receivers a and b hold; s is the setup that both were started with
--   measured s cs ds == the same of the receivers that the calls cs and ds leave, each from a fresh Start with s
-- Assumes nothing.
use Rattle.std.specs.Prelude.{List, ℕ, Result}
use Rattle.refusal.specs.declared.Refusal.{Refusal}
use Rattle.distance.specs.Distance.{distance_of}
use Rattle.receiver.specs.Receiver.{Setup, used}
use Rattle.receiver.specs.declared.Receiver.{Receiver}
use Rattle.promise_recovery.specs.Calls.{Call, begun, after}

abbrev pub held : Setup → Receiver → Receiver → Result ℕ Refusal
held s a b = distance_of s.q s.n a.dimension (used a) b.dimension (used b)

abbrev pub measured : Setup → List Call → List Call → Result ℕ Refusal
measured s cs ds = held s (after (begun s) cs) (after (begun s) ds)
