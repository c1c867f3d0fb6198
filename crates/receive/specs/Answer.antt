-- What Receive and Close answer for a span. Document 01: "8 if the span has fewer than k dimensions; 9 if it has more. 8 and 9 also
-- return the dimension." Order 2: "Receive and Close pass it on", the identifying vector, "also with 8 and 9. It is 0 with other refusals".
--   Received                   == such an answer: an index and what is told of the span; or why there is none
--   space_refusal k d           == 8, 9, or none, for a span of d dimensions
--   space_answer q n k t d m    == the answer for the span of d dimensions with the reduced matrix m
--   received r a               == the answer: a where r is no refusal, else the refusal with the number r
--   unreceived_number          == document 01's refusal number of what is not received
--   received_number, received_index, received_dimension, received_vector == document 01's refusal number, index and dimension, and order 2's
--                                 vector, of each case of an answer
--   Told q n k t d m r a       == what the answer a tells of such a span, by these, where the refusals before 8 come to r: r, else 8 or 9;
--                                 the index where there is no refusal; and the dimension and the vector unless r refuses
-- Assumes nothing.
use Rattle.std.specs.Prelude.{◌≡◌, List, [], ◌∷◌, ℕ, ltb, leb, Result, Ok, Err}
use Rattle.basics.specs.Choice.{pick}
use Rattle.refusal.specs.Refusal.{too_few_refusal, too_many_refusal, refuse_unless, first, unless_refused, number, named}
use Rattle.matrix.specs.Matrix.{identifying}
use Rattle.numbering.specs.Numbering.{index_of, index_in, index_value}
use Rattle.numbering.specs.declared.Index.{Index}
use Rattle.reduce.specs.Reduce.{space_of}
use Rattle.reduce.specs.declared.Space.{Space}
use Rattle.receive.specs.declared.Unreceived.{Unreceived}
use Rattle.receive.specs.declared.Unreceived.TheVariants.{TooFew, TooMany, Refused}

abbrev pub Received : Type 0
Received = Result (Index × Space) Unreceived

unfoldable pub space_refusal : ℕ → ℕ → ℕ
space_refusal k d = first (refuse_unless (leb k d) too_few_refusal ∷ refuse_unless (leb d k) too_many_refusal ∷ [])

unfoldable pub space_answer : ℕ → ℕ → ℕ → ℕ → ℕ → List ℕ → Received
space_answer q n k t d m =
    pick (ltb d k) (Err (TooFew (space_of n d m)))
    (pick (ltb k d) (Err (TooMany (space_of n d m))) (Ok (index_in t (index_of q n k t m), space_of n d m)))

abbrev pub received : ℕ → Received → Received
received r a = unless_refused r a (Err (Refused (named r)))

abbrev pub unreceived_number : Unreceived → ℕ
unreceived_number (TooFew s) = too_few_refusal
unreceived_number (TooMany s) = too_many_refusal
unreceived_number (Refused r) = number r

abbrev pub received_number : Received → ℕ
received_number (Ok (i, s)) = 0
received_number (Err u) = unreceived_number u

abbrev pub received_index : Received → ℕ
received_index (Ok (i, s)) = index_value i
received_index (Err (TooFew s)) = 0
received_index (Err (TooMany s)) = 0
received_index (Err (Refused r)) = 0

abbrev pub received_dimension : Received → ℕ
received_dimension (Ok (i, s)) = s.dimension
received_dimension (Err (TooFew s)) = s.dimension
received_dimension (Err (TooMany s)) = s.dimension
received_dimension (Err (Refused r)) = 0

abbrev pub received_vector : Received → ℕ
received_vector (Ok (i, s)) = s.vector
received_vector (Err (TooFew s)) = s.vector
received_vector (Err (TooMany s)) = s.vector
received_vector (Err (Refused r)) = 0

pub record Told (q n k t d : ℕ) (m : List ℕ) (r : ℕ) (a : Received) : Type 0 where
  pub number : received_number a ≡ first (r ∷ space_refusal k d ∷ [])
  pub index : received_index a ≡ unless_refused (first (r ∷ space_refusal k d ∷ [])) (index_of q n k t m) 0
  pub dimension : received_dimension a ≡ unless_refused r d 0
  pub vector : received_vector a ≡ unless_refused r (identifying n d m) 0
