-- Calls with what each must answer, for the tables of examples.
--   Call        == a call with its arguments; matrices and rows are flat, row by row; t is the numbering; a lent buffer is given as it is
--                  before the call
--   answer      == document 01's numbers for the call, by the definitions that the contracts cite: the refusal number (0 for none), then
--                  what the call answers (count; index; dimension, of Pool two; distance; identifying vector; 1 for "raised"; 1 for
--                  "idle"), then the receiver and the lent buffers afterwards; of a list of calls from a Start, the rows that are accepted,
--                  and the receiver that it leaves; of the list program, all that it writes, and by settings alone the refusal that it
--                  writes; of an index, its summands; of the line writer, 1 where the piece fits, how far the buffer is then filled, and
--                  the buffer
--   Example     == a call and what it must answer
--   lent size   == a buffer painted with 165s
--   receiver, image == a receiver by its fields, entries of 0 after the given ones; and back
-- Assumes nothing.
use Rattle.std.specs.Prelude.{List, [], ◌∷◌, ◌++◌, ℕ, ◌*◌, ◌-◌, ◌^◌, length, replicate, Result}
use Rattle.basics.specs.Sum.{bit}
use Rattle.refusal.specs.declared.Refusal.{Refusal}
use Rattle.settings.specs.Settings.{list_refusal, count_of, count_number, count_value}
use Rattle.linear.specs.Eliminate.{join}
use Rattle.ferrers.specs.Ferrers.{size, diagram, diagram_place, larger_diagrams, tableau_value}
use Rattle.listing.specs.Listing.{listing_output}
use Rattle.text.specs.Piece.{fits, place_after, buffer_after}
use Rattle.draw.specs.Draw.{draw_refusal, draw_buffer}
use Rattle.draw_batch.specs.Batch.{batch_refusal, batch_matrices, batch_answers}
use Rattle.number.specs.Number.{number_of, answer_number, answer_index}
use Rattle.convert.specs.Convert.{convert_of}
use Rattle.reduce.specs.Reduce.{reduce_of, reduce_buffer, reduction_number, reduction_dimension, reduction_vector}
use Rattle.distance.specs.Distance.{distance_of, distance_number, distance_value}
use Rattle.receive.specs.Answer.{Received, received_number, received_index, received_dimension, received_vector}
use Rattle.receive.specs.Receive.{receive_of}
use Rattle.receiver.specs.Receiver.{setup, offer, made, start_of, start_number, take_of, take_number, take_raised, take_idle}
use Rattle.receiver.specs.Receiver.{lent_receiver, lent_answer, close_of}
use Rattle.receiver.specs.declared.Receiver.{Receiver}
use Rattle.receiver.specs.declared.Effect.{Effect}
use Rattle.promise_recovery.specs.Calls.{Call as ReceiverCall, begun, after, accepted}
use Rattle.pool.specs.Pool.{pool_of, joint_buffer, common_buffer, pool_number, pool_joint, pool_common}
use Rattle.pandrwyg.specs.Exported.{exported_number, exported_bytes}

pub data Call : Type 0 where
  count : (q n k : ℕ) → Call
  draw : (q n k t i : ℕ) (buffer : List ℕ) → Call
  draw_batch : (q n k t : ℕ) (indexes matrices answers : List ℕ) → Call
  number : (q n k t : ℕ) (m : List ℕ) → Call
  convert : (q n k from to i : ℕ) → Call
  reduce : (q n r : ℕ) (rows output : List ℕ) → Call
  distance : (q n r : ℕ) (rows : List ℕ) (s : ℕ) (others : List ℕ) → Call
  receive : (q n k t r : ℕ) (rows : List ℕ) → Call
  receive_c : (q n k t r : ℕ) (rows bytes : List ℕ) → Call
  start : (q n k pack : ℕ) → Call
  take_value : (r : Receiver) (pack : ℕ) (row : List ℕ) → Call
  take_lent : (r : Receiver) (pack : ℕ) (row : List ℕ) → Call
  close : (r : Receiver) (t : ℕ) → Call
  calls : (q n k pack : ℕ) (cs : List ReceiverCall) → Call
  pool : (a b : Receiver) (joint common : List ℕ) → Call
  list : (input : List ℕ) → Call
  listable : (q n k : ℕ) → Call
  summands : (q n k : ℕ) (m : List ℕ) → Call
  write : (buffer : List ℕ) (filled : ℕ) (piece : List ℕ) → Call

abbrev pub lent : ℕ → List ℕ
lent size = replicate size 165

abbrev pub receiver : ℕ → ℕ → ℕ → ℕ → ℕ → List ℕ → Receiver
receiver q n k pack dimension entries = made (setup q n k pack) dimension (entries ++ replicate (256 - length entries) 0)

abbrev pub image : Receiver → List ℕ
image r = r.q ∷ r.n ∷ r.k ∷ r.dimension ∷ r.pack ∷ r.entries

-- what Receive and Close tell
abbrev received : Received → List ℕ
received a = received_number a ∷ received_index a ∷ received_dimension a ∷ received_vector a ∷ []

-- what Take tells
abbrev takes : Result Effect Refusal → List ℕ
takes a = take_number a ∷ bit (take_raised a) ∷ bit (take_idle a) ∷ []

abbrev pub answer : Call → List ℕ
answer (count q n k) = count_number (count_of q n k) ∷ count_value (count_of q n k) ∷ []
answer (draw q n k t i buffer) = draw_refusal q n k t i (length buffer) ∷ draw_buffer q n k t i buffer
answer (draw_batch q n k t indexes matrices answers) =
    batch_refusal q n k t (length indexes) (length matrices) (length answers)
    ∷ batch_matrices q n k t indexes matrices (length answers)
    ++ batch_answers q n k t indexes (length matrices) answers
answer (number q n k t m) = answer_number (number_of q n k t m) ∷ answer_index (number_of q n k t m) ∷ []
answer (convert q n k from to i) = answer_number (convert_of q n k from to i) ∷ answer_index (convert_of q n k from to i) ∷ []
answer (reduce q n r rows output) =
    reduction_number (reduce_of q n r rows (length output)) ∷ reduction_dimension (reduce_of q n r rows (length output))
    ∷ reduction_vector (reduce_of q n r rows (length output))
    ∷ reduce_buffer q n r rows output
answer (distance q n r rows s others) =
    distance_number (distance_of q n r rows s others) ∷ distance_value (distance_of q n r rows s others) ∷ []
answer (receive q n k t r rows) = received (receive_of q n k t r rows)
answer (receive_c q n k t r rows bytes) = exported_number q n k t r rows (length bytes) ∷ exported_bytes q n k t r rows bytes
answer (start q n k pack) = let s = start_of (setup q n k pack) in start_number s ∷ image s.receiver
answer (take_value r pack row) = let t = take_of r (offer pack row) in takes t.answer ++ image t.receiver
answer (take_lent r pack row) = takes (lent_answer r (offer pack row)) ++ image (lent_receiver r (offer pack row))
answer (close r t) = received (close_of r t)
answer (calls q n k pack cs) = let r = begun (setup q n k pack) in join (accepted r cs) ++ image (after r cs)
answer (pool a b joint common) =
    let p = pool_of a b (length joint) (length common) in
    pool_number p.answer ∷ pool_joint p.answer ∷ pool_common p.answer ∷ image p.receiver
    ++ joint_buffer a b joint (length common)
    ++ common_buffer a b (length joint) common
answer (list input) = listing_output input
answer (listable q n k) = list_refusal q n k ∷ []
answer (summands q n k m) =
    larger_diagrams q k (n - k) (size n k m)
    ∷ q ^ size n k m * diagram_place k (n - k) (diagram n k m) (size n k m)
    ∷ tableau_value q n k m
    ∷ []
answer (write buffer filled piece) =
    bit (fits (length buffer) filled piece) ∷ place_after (length buffer) filled piece ∷ buffer_after buffer filled piece

pub record Example : Type 0 where
  pub call : Call
  pub must : List ℕ

-- the call, and what it must answer
infixl 5 ◌⇒◌
abbrev pub ◌⇒◌ : Call → List ℕ → Example
c ⇒ a = record { call = c; must = a }

-- 011001/000100/000011, document 001's Example 4
abbrev pub paper : List ℕ
paper = 0 ∷ 1 ∷ 1 ∷ 0 ∷ 0 ∷ 1 ∷ 0 ∷ 0 ∷ 0 ∷ 1 ∷ 0 ∷ 0 ∷ 0 ∷ 0 ∷ 0 ∷ 0 ∷ 1 ∷ 1 ∷ []

-- the bytes of `extended,ferrers,rows` and a line feed
abbrev pub fields : List ℕ
fields =
    101 ∷ 120 ∷ 116 ∷ 101 ∷ 110 ∷ 100 ∷ 101 ∷ 100 ∷ 44 ∷ 102 ∷ 101 ∷ 114 ∷ 114 ∷ 101 ∷ 114 ∷ 115 ∷ 44 ∷ 114 ∷ 111 ∷ 119 ∷ 115 ∷ 10 ∷ []
