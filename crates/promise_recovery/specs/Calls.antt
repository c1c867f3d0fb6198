-- Lists of calls on one receiver. Document 01: "Demand 3 reads the calls on one receiver as a list: Take, by value or lent, and Close, in
-- any number and sequence, refused ones included. The list begins with the receiver that an accepted Start handed back. Each call, the
-- close after the list too, gets this receiver or, once there was a Take, the one that the last Take handed back or left."
--   Call             == Take by value, Take on a lent receiver, Close
--   begun s          == the receiver that Start hands back
--   after r cs       == the receiver after the calls cs
--   accepted r cs    == the rows of cs, in their order, for which Take named no refusal
--   Reachable r      == an accepted Start leaves r, or a Take of a receiver that is reachable
--   Unforged r cs    == no call of cs is refused 14
--   offers pack rows == the rows, each offered for the pack
--   offered cs       == what cs offers to Take
--   fits s o         == the test that o is offered for the pack of s, and that its row has n entries, each below q
--   fitting s os     == the rows of os that fit
-- Assumes nothing.
use Rattle.std.specs.Prelude.{◌≡◌, Bool, ◌&&◌, List, [], ◌∷◌, ℕ, eqb, length}
use Rattle.basics.specs.Choice.{pick}
use Rattle.refusal.specs.Refusal.{receiver_refusal}
use Rattle.matrix.specs.Matrix.{entries_below}
use Rattle.receive.specs.Answer.{received_number}
use Rattle.receiver.specs.Receiver.{Setup, Offer, offer, setup_refusal, start_of, take_of, lent_receiver, lent_answer, close_of, take_number}
use Rattle.receiver.specs.declared.Receiver.{Receiver}

pub data Call : Type 0 where
  take_value : Offer → Call
  take_lent : Offer → Call
  close : ℕ → Call

unfoldable pub after : Receiver → List Call → Receiver
after r [] = r
after r (take_value o ∷ cs) = after (take_of r o).receiver cs
after r (take_lent o ∷ cs) = after (lent_receiver r o) cs
after r (close t ∷ cs) = after r cs

unfoldable pub accepted : Receiver → List Call → List (List ℕ)
accepted r [] = []
accepted r (take_value o ∷ cs) =
    pick (eqb (take_number (take_of r o).answer) 0) (o.row ∷ accepted (take_of r o).receiver cs)
    (accepted (take_of r o).receiver cs)
accepted r (take_lent o ∷ cs) =
    pick (eqb (take_number (lent_answer r o)) 0) (o.row ∷ accepted (lent_receiver r o) cs)
    (accepted (lent_receiver r o) cs)
accepted r (close t ∷ cs) = accepted r cs

-- the receiver that Start hands back
abbrev pub begun : Setup → Receiver
begun s = (start_of s).receiver

pub data Reachable : Receiver → Type 0 where
  started : (s : Setup) → setup_refusal s ≡ 0 → Reachable (begun s)
  taken : (r : Receiver) (o : Offer) → Reachable r → Reachable (take_of r o).receiver

-- the refusal of a call
abbrev pub call_number : Receiver → Call → ℕ
call_number r (take_value o) = take_number (take_of r o).answer
call_number r (take_lent o) = take_number (lent_answer r o)
call_number r (close t) = received_number (close_of r t)

pub data Unforged : Receiver → List Call → Type 0 where
  none : {r : Receiver} → Unforged r []
  more : {r : Receiver} {c : Call} {cs : List Call} → (call_number r c ≡ receiver_refusal → ⊥) → Unforged (after r (c ∷ [])) cs
      → Unforged r (c ∷ cs)

abbrev pub offers : ℕ → List (List ℕ) → List Offer
offers pack [] = []
offers pack (row ∷ rows) = offer pack row ∷ offers pack rows

unfoldable pub offered : List Call → List Offer
offered [] = []
offered (take_value o ∷ cs) = o ∷ offered cs
offered (take_lent o ∷ cs) = o ∷ offered cs
offered (close t ∷ cs) = offered cs

abbrev pub fits : Setup → Offer → Bool
fits s o = eqb o.pack s.pack && (eqb (length o.row) s.n && entries_below s.q o.row)

unfoldable pub fitting : Setup → List Offer → List (List ℕ)
fitting s [] = []
fitting s (o ∷ os) = pick (fits s o) (o.row ∷ fitting s os) (fitting s os)
