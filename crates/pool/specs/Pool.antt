-- What pooling two receivers answers for every input, and what it leaves in the two lent buffers. Order 1: "Pooling takes two receivers
-- with equal q, n and k and writes two reduced matrices into lent n×n buffers: that of the smallest space containing both, and that of
-- their common space, each with zeros after its rows. It answers both dimensions .. Pooling also hands back a receiver with the same
-- settings that holds the smallest space. A refusal gives a receiver of all zeros and dimensions 0. It refuses with 14 for the first
-- receiver, then the second, then with 16 if q, n or k differ, then with 4 for a wrong buffer." Order 8: "Pooling's 16 now also covers
-- differing packs, and the pooled receiver has the packs' common number."
--   alike a b     == the test that two receivers have the same q, n and k, and belong to the same pack
--   pool_refusal   == the refusals in their order, by the lengths of the two buffers; 0 where none applies
--   pool_of        == what pooling hands back; joint_buffer, common_buffer == the buffers afterwards
--   pool_number, pool_joint, pool_common == the refusal number and the two dimensions of each case of the answer
-- Assumes nothing.
use Rattle.std.specs.Prelude.{Bool, ◌&&◌, List, [], ◌∷◌, ◌++◌, ℕ, ◌*◌, eqb, length, Result, Ok, Err}
use Rattle.refusal.specs.Refusal.{length_refusal, receiver_refusal, mismatch_refusal, refuse_unless, first, unless_refused}
use Rattle.refusal.specs.Refusal.{number, named}
use Rattle.refusal.specs.declared.Refusal.{Refusal}
use Rattle.reduction.specs.Padded.{padded}
use Rattle.spaces.specs.Spaces.{joint_of, joint_dimension, common_of, common_dimension}
use Rattle.receiver.specs.Receiver.{setup_of, no_setup, empty, well_formed, held_rows, holding}
use Rattle.receiver.specs.declared.Receiver.{Receiver}
use Rattle.pool.specs.declared.Pooled.{Pooled}
use Rattle.pool.specs.declared.Dimensions.{Dimensions}

unfoldable pub alike : Receiver → Receiver → Bool
alike a b = eqb a.q b.q && (eqb a.n b.n && (eqb a.k b.k && eqb a.pack b.pack))

unfoldable pub pool_refusal : Receiver → Receiver → ℕ → ℕ → ℕ
pool_refusal a b joint common =
    first
    (refuse_unless (well_formed a) receiver_refusal
    ∷ refuse_unless (well_formed b) receiver_refusal
    ∷ refuse_unless (alike a b) mismatch_refusal
    ∷ refuse_unless (eqb joint (a.n * a.n)) length_refusal
    ∷ refuse_unless (eqb common (a.n * a.n)) length_refusal
    ∷ [])

-- the pooled receiver and both dimensions
unfoldable pub pooled : Receiver → Receiver → Pooled
pooled a b =
    record {
      receiver = holding (setup_of a) (held_rows a ++ held_rows b);
      answer =
          Ok
          (record {
            joint = joint_dimension a.q a.n (held_rows a) (held_rows b);
            common = common_dimension a.q a.n (held_rows a) (held_rows b);
          });
    }

unfoldable pub pool_of : Receiver → Receiver → ℕ → ℕ → Pooled
pool_of a b joint common =
    unless_refused (pool_refusal a b joint common) (pooled a b)
    (record { receiver = empty no_setup; answer = Err (named (pool_refusal a b joint common)) })

unfoldable pub joint_buffer : Receiver → Receiver → List ℕ → ℕ → List ℕ
joint_buffer a b joint common =
    unless_refused (pool_refusal a b (length joint) common)
    (padded (a.n * a.n) (joint_of a.q a.n (held_rows a) (held_rows b))) joint

unfoldable pub common_buffer : Receiver → Receiver → ℕ → List ℕ → List ℕ
common_buffer a b joint common =
    unless_refused (pool_refusal a b joint (length common))
    (padded (a.n * a.n) (common_of a.q a.n (held_rows a) (held_rows b))) common

abbrev pub pool_number : Result Dimensions Refusal → ℕ
pool_number (Ok s) = 0
pool_number (Err r) = number r

abbrev pub pool_joint : Result Dimensions Refusal → ℕ
pool_joint (Ok s) = s.joint
pool_joint (Err r) = 0

abbrev pub pool_common : Result Dimensions Refusal → ℕ
pool_common (Ok s) = s.common
pool_common (Err r) = 0
