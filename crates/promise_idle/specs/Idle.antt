-- What Take answers of any row, and zero rows in a list of calls. Order 5: "Take now answers "idle" for an accepted row of zeros, and
-- "held" means a nonzero row already in the span. The receiver's content is untouched in both cases, and mixtures that come out zero still
-- never harm a record." Order 8: "It refuses a row of another pack with 17, placed after 14 and before 4."
--   zero_row n          == the row of n zeros
--   TakenBy r o t      == t is what Take hands back for a receiver and what is offered: by value, or lent, with the receiver that it leaves
--   Answered s rows r o t == t's answer and receiver, where r accepted the rows before: 17 exactly for what is offered for another pack. Of
--                         what is offered for its own, "raised" exactly for a row outside the span of the rows, "held" exactly for one in
--                         it that isn't zero, "idle" exactly for the zero row; 4 for another length than n, and else 6 for what is no row.
--                         "raised" the dimension grows by one, and otherwise the whole receiver is the one given
--   WithIdle n cs ds   == the list of calls ds is cs with rows of n zeros put in anywhere, in any number, for any pack, by either Take
-- Assumes nothing.
use Rattle.std.specs.Prelude.{◌≡◌, List, [], ◌∷◌, ◌↔◌, ℕ, suc, length, replicate, Ok, Err}
use Rattle.refusal.specs.declared.Refusal.TheVariants.{Length, Entry, Pack}
use Rattle.linear.specs.Span.{Row, InSpan}
use Rattle.receiver.specs.Receiver.{Setup, Offer, offer, take_of, take_number, taken_as, lent_receiver, lent_answer}
use Rattle.receiver.specs.declared.Receiver.{Receiver}
use Rattle.receiver.specs.declared.Taken.{Taken}
use Rattle.receiver.specs.declared.Effect.TheVariants.{Raised, Held, Idle}
use Rattle.promise_recovery.specs.Calls.{Call, take_value, take_lent}

abbrev pub zero_row : ℕ → List ℕ
zero_row n = replicate n 0

pub data TakenBy (r : Receiver) (o : Offer) : Taken → Type 0 where
  by_value : TakenBy r o (take_of r o)
  lent : TakenBy r o (taken_as (lent_receiver r o) (lent_answer r o))

pub record Answered (s : Setup) (rows : List (List ℕ)) (r : Receiver) (o : Offer) (t : Taken) : Type 0 where
  pub foreign : ((t.answer ≡ Err Pack) × (take_number t.answer ≡ 17)) ↔ (o.pack ≡ s.pack → ⊥)
  pub raised : (t.answer ≡ Ok Raised)
      ↔ ((o.pack ≡ s.pack) × Row s.q s.n o.row × (InSpan s.q s.n rows o.row → ⊥))
  pub held : (t.answer ≡ Ok Held)
      ↔ ((o.pack ≡ s.pack) × (o.row ≡ zero_row s.n → ⊥) × InSpan s.q s.n rows o.row)
  pub idle : (t.answer ≡ Ok Idle) ↔ ((o.pack ≡ s.pack) × (o.row ≡ zero_row s.n))
  pub long : o.pack ≡ s.pack → (length o.row ≡ s.n → ⊥) → (t.answer ≡ Err Length) × (take_number t.answer ≡ 4)
  pub large : o.pack ≡ s.pack → length o.row ≡ s.n → (Row s.q s.n o.row → ⊥) → (t.answer ≡ Err Entry) × (take_number t.answer ≡ 6)
  pub grown : t.answer ≡ Ok Raised → t.receiver.dimension ≡ suc r.dimension
  pub untouched : (t.answer ≡ Ok Raised → ⊥) → t.receiver ≡ r

-- the offer of a zero row
abbrev pub zeros : ℕ → ℕ → Offer
zeros pack n = offer pack (zero_row n)

pub data WithIdle (n : ℕ) : List Call → List Call → Type 0 where
  none : WithIdle n [] []
  call : {cs ds : List Call} (c : Call) → WithIdle n cs ds → WithIdle n (c ∷ cs) (c ∷ ds)
  idle_value : {cs ds : List Call} (pack : ℕ) → WithIdle n cs ds → WithIdle n cs (take_value (zeros pack n) ∷ ds)
  idle_lent : {cs ds : List Call} (pack : ℕ) → WithIdle n cs ds → WithIdle n cs (take_lent (zeros pack n) ∷ ds)
