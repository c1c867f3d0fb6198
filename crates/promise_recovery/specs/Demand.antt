-- Demand 3, as one statement for settings and a numbering that are accepted. The user: "Suppose settings are accepted and have N spaces.
-- Then, in either numbering, drawing 0 to N-1 lists every reduced k-by-n matrix exactly once, strictly rising in that numbering's order,
-- the order told by comparing matrices alone. Draw any one of them, and let rows be mixed from its rows over the field, in whatever way and
-- sequence. Then for every list of Take and Close calls on one receiver, refused ones included, from a fresh Start with these settings, in
-- which every row accepted is such a mixture: closing after it, in the draw's numbering, gives back the drawn index, unrefused, exactly
-- when the accepted rows span k dimensions; if fewer, it refuses with 8 and their true dimension. Receive, given none to 64 such rows in
-- one call, in that numbering, answers alike for them." `Flat` says it once more, without a record, under the user's words.
--   Listing q n k D      == drawing 0 to N-1. Document 01: "A listing by Draw is told by separate draws: every index below N gives a
--                           reduced k×n matrix, unrefused; each such matrix comes from exactly one of these indexes; and of any two of
--                           these indexes the smaller gives the matrix that comes first in the numbering's order."
--   Answer               == what an answer tells in document 01's numbers: the refusal number, the index and the dimension; and order 2's
--                           identifying vector
--   told a               == what an answer of Receive or Close tells
--   little_endian bytes   == the number that bytes tell, the first byte least: the sum of each times a power of 256
--   read number bytes    == what C reads: the returned number, and of the bytes the first eight as a number, the ninth, and the rest as a
--                           number
--   Answers q n k i rows answer == the rows have a dimension and an identifying vector. The answer is the index i, unrefused, exactly when
--                           the dimension is k, and 8 if it is fewer; it is never more. The dimension and the vector that are told are the
--                           true ones
--   Recovery s t i cs    == closing after the list cs answers so for the rows that were accepted
--   Reception q n k t i rows == Receive of the rows answers so, by value and for C
--   Demand s t D         == all of it, of what D draws; and of every list of calls, mixtures or not: "No call of the list is refused 14. A row is accepted
--                           when Take names no refusal for it, so here when it is n bytes, each below q." Order 8: "In the promise about
--                           mixed rows, a row offered for another pack is one of the refused."
-- Assumes nothing.
use Rattle.std.specs.Prelude.{◌≡◌, ◌↔◌, List, [], ◌∷◌, ℕ, ◌+◌, ◌*◌, ◌<◌, ◌≤◌, length, get_or, take, drop, Ok}
use Rattle.matrix.specs.Matrix.{Reduced}
use Rattle.linear.specs.Span.{All, Mixed, rows_of, HasDimension, HasVector}
use Rattle.linear.specs.Eliminate.{join}
use Rattle.numbering.specs.Numbering.{index_in}
use Rattle.drawing.specs.Drawing.{Drawing}
use Rattle.reduce.specs.Reduce.{most_rows}
use Rattle.receive.specs.Answer.{Received, received_number, received_index, received_dimension, received_vector}
use Rattle.receive.specs.Receive.{receive_of}
use Rattle.receiver.specs.Receiver.{Setup, close_of}
use Rattle.pandrwyg.specs.Exported.{answer_size, answer_bytes, exported_number, exported_bytes}
use Rattle.promise_recovery.specs.Calls.{Call, begun, after, accepted, offered, fitting, Unforged}

-- a buffer of the right length, whatever it holds
abbrev pub Buffer : ℕ → ℕ → List ℕ → Type 0
Buffer n k b = length b ≡ k * n

pub record Listing (q n k : ℕ) (D : Drawing) : Type 0 where
  pub unrefused : (i : ℕ) → i < D.count → (b : List ℕ) → Buffer n k b → D.refusal i (length b) ≡ 0
  pub reduced : (i : ℕ) → i < D.count → (b : List ℕ) → Buffer n k b → Reduced q n k (D.leaves i b)
  pub every : (m : List ℕ) → Reduced q n k m → (i : ℕ) × (i < D.count) × ((b : List ℕ) → Buffer n k b → D.leaves i b ≡ m)
  pub once : (i j : ℕ) → i < D.count → j < D.count → (a b : List ℕ) → Buffer n k a → Buffer n k b → D.leaves i a ≡ D.leaves j b → i ≡ j
  pub rising : (i j : ℕ) → i < j → j < D.count → (a b : List ℕ) → Buffer n k a → Buffer n k b
      → D.order (D.leaves i a) (D.leaves j b)

pub record Answer : Type 0 where
  pub number : ℕ
  pub index : ℕ
  pub dimension : ℕ
  pub vector : ℕ

abbrev pub told : Received → Answer
told a =
    record { number = received_number a; index = received_index a; dimension = received_dimension a; vector = received_vector a }

unfoldable pub little_endian : List ℕ → ℕ
little_endian [] = 0
little_endian (byte ∷ bytes) = byte + 256 * little_endian bytes

abbrev pub read : ℕ → List ℕ → Answer
read number bytes =
    record { number = number; index = little_endian (take 8 bytes); dimension = get_or bytes 8 0; vector = little_endian (drop 9 bytes) }

pub record Answers (q n k i : ℕ) (rows : List (List ℕ)) (answer : Answer) : Type 0 where
  pub some : (d v : ℕ) × HasVector q n rows d v
  pub whole : ((answer.number ≡ 0) × (answer.index ≡ i)) ↔ HasDimension q n rows k
  pub fewer : (d : ℕ) → HasDimension q n rows d → d < k → (answer.number ≡ 8) × (answer.index ≡ 0)
  pub never-more : (d : ℕ) → HasDimension q n rows d → d ≤ k
  pub space : (d v : ℕ) → HasVector q n rows d v → (answer.dimension ≡ d) × (answer.vector ≡ v)

pub record Recovery (s : Setup) (t i : ℕ) (cs : List Call) : Type 0 where
  pub answers : Answers s.q s.n s.k i (accepted (begun s) cs) (told (close_of (after (begun s) cs) t))
  pub typed : (v : ℕ) → HasVector s.q s.n (accepted (begun s) cs) s.k v
      → close_of (after (begun s) cs) t ≡ Ok (index_in t i, record { dimension = s.k; vector = v })

pub record Reception (q n k t i : ℕ) (rows : List (List ℕ)) : Type 0 where
  pub answers : Answers q n k i rows (told (receive_of q n k t (length rows) (join rows)))
  pub typed : (v : ℕ) → HasVector q n rows k v
      → receive_of q n k t (length rows) (join rows) ≡ Ok (index_in t i, record { dimension = k; vector = v })
  pub exported : (b : List ℕ) → length b ≡ answer_size
      → Answers q n k i rows
      (read (exported_number q n k t (length rows) (join rows) answer_size) (exported_bytes q n k t (length rows) (join rows) b))
  pub whole-bytes : (b : List ℕ) → length b ≡ answer_size → (v : ℕ) → HasVector q n rows k v
      → exported_bytes q n k t (length rows) (join rows) b ≡ answer_bytes i k v
  pub fewer_bytes : (b : List ℕ) → length b ≡ answer_size → (d v : ℕ) → HasVector q n rows d v → d < k
      → exported_bytes q n k t (length rows) (join rows) b ≡ answer_bytes 0 d v

pub record Demand (s : Setup) (t : ℕ) (D : Drawing) : Type 0 where
  pub listing : Listing s.q s.n s.k D
  pub unforged : (cs : List Call) → Unforged (begun s) cs
  pub fits : (cs : List Call) → accepted (begun s) cs ≡ fitting s (offered cs)
  pub recovery : (i : ℕ) → i < D.count → (b : List ℕ) → Buffer s.n s.k b → (cs : List Call)
      → All (Mixed s.q s.n (rows_of s.n s.k (D.leaves i b))) (accepted (begun s) cs)
      → Recovery s t i cs
  pub reception : (i : ℕ) → i < D.count → (b : List ℕ) → Buffer s.n s.k b → (rows : List (List ℕ)) → length rows ≤ most_rows
      → All (Mixed s.q s.n (rows_of s.n s.k (D.leaves i b))) rows
      → Reception s.q s.n s.k t i rows
