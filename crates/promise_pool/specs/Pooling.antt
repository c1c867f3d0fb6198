-- Order 1's promise about a record whose rows reached two receivers. "Where both receivers since their start accepted only mixtures of the
-- rows of one matrix drawn with their settings, closing the pooled receiver in the draw's numbering must give the drawn index exactly when
-- k dimensions are reached. In this promise and later ones, a receiver is written since its start only as demand 3's lists allow."
--   SameSetup a b       == two receivers have the same q, n and k, and belong to the same pack
--   rows_of_both s cs ds  == the rows that the lists of calls cs and ds accept, each from a fresh Start with the setup s
--   pooled_after s cs ds == what pooling the two receivers after these lists hands back, with buffers of the right length
--   Pooling s t i cs ds == closing the pooled receiver in the numbering t answers, as demand 3 says it of Close, for the rows of both:
--                          with their true dimension and identifying vector too
-- Assumes nothing.
use Rattle.std.specs.Prelude.{◌≡◌, List, ◌++◌, ℕ, ◌*◌, Ok}
use Rattle.linear.specs.Span.{HasVector}
use Rattle.numbering.specs.Numbering.{index_in}
use Rattle.receiver.specs.Receiver.{Setup, close_of}
use Rattle.receiver.specs.declared.Receiver.{Receiver}
use Rattle.promise_recovery.specs.Calls.{Call, begun, after, accepted}
use Rattle.promise_recovery.specs.Demand.{Answers, told}
use Rattle.pool.specs.Pool.{pool_of}
use Rattle.pool.specs.declared.Pooled.{Pooled}

abbrev pub SameSetup : Receiver → Receiver → Type 0
SameSetup a b = (a.q ≡ b.q) × (a.n ≡ b.n) × (a.k ≡ b.k) × (a.pack ≡ b.pack)

abbrev pub rows_of_both : Setup → List Call → List Call → List (List ℕ)
rows_of_both s cs ds = accepted (begun s) cs ++ accepted (begun s) ds

abbrev pub pooled_after : Setup → List Call → List Call → Pooled
pooled_after s cs ds = pool_of (after (begun s) cs) (after (begun s) ds) (s.n * s.n) (s.n * s.n)

pub record Pooling (s : Setup) (t i : ℕ) (cs ds : List Call) : Type 0 where
  pub answers : Answers s.q s.n s.k i (rows_of_both s cs ds) (told (close_of (pooled_after s cs ds).receiver t))
  pub typed : (v : ℕ) → HasVector s.q s.n (rows_of_both s cs ds) s.k v
      → close_of (pooled_after s cs ds).receiver t ≡ Ok (index_in t i, record { dimension = s.k; vector = v })
