-- What Start, Take and Close answer for every input, and the receiver that each hands back or leaves. Document 01:
--   Setup            == what a receiver is started with: the settings and, order 8, the pack number; setup q n k pack == those that Start
--                       gets
--   Offer            == what is offered to Take: a row, for a pack; offer pack row == the one that Take gets
--   setup_of r        == what the receiver r was started with, by its fields
--   setup_refusal s   == the refusal of the settings in s: 1, 2 or 3, or 0; any pack number is accepted
--   no_setup          == all zeros: what the receiver of a refused start has
--   made s d entries == the receiver of this setup, dimension and entries
--   empty s          == a receiver with the setup, 256 entries all zero, and dimension 0
--   start_of s        == "Start a receiver: 1, 2, 3; a refused start gives a receiver of all zeros." Order 8: "A receiver gets a pack
--                       number, 0 to 65535, at its start .. a refused start has pack number 0."
--   start_number      == document 01's refusal number of what Start hands back
--   well_formed r     == the test that Take and Close make before anything else: the settings are accepted, the dimension is at most n, the
--                       first dimension×n entries are a reduced matrix, and all other entries are 0 (below 1). Order 8: "Any pack number
--                       is valid in a receiver." The theorem `reachable-exactly-well-formed` shows that it holds exactly for those that
--                       an accepted Start and Takes leave
--   held_rows r       == the rows that the receiver holds
--   holding s rows   == the receiver with the setup that holds the reduced rows of `rows`
--   take_refusal      == "Take one row into a receiver: 14 if the receiver is none that Start and Take can leave after an accepted Start;
--                       4 if the row isn't n bytes; 6." Order 8: "It refuses a row of another pack with 17, placed after 14 and before
--                       4."
--   is_zero row       == the test that the row is zero: that every entry of it is 0 (below 1)
--   take_of r o       == what Take hands back: the receiver with the row taken in, and, by order 5, ""idle" for an accepted row of zeros";
--                       for another, "raised" if the dimension grew, "held" if not; "A refused row gives only the number, and the receiver
--                       is handed back unchanged."
--   lent_receiver, lent_answer == the same for Take on a lent receiver: what it leaves, and what it answers
--   close_of r t      == "Close a receiver: 14, 10, 8, 9, the last two with the dimension"; order 2: and with the identifying vector;
--                       close_refusal r t == 14 and 10 alone
--   take_number, take_raised, take_idle == document 01's refusal number of each case of Take's answer, and the tests that the case is
--                       "raised", and that it is "idle"
--   TakeTells r o t  == what t, handed back by Take, tells: by its answer the refusal, whether the dimension grew, and whether an
--                       accepted row is zero; and, order 5: "The receiver's content is untouched" wherever the answer isn't "raised": whole
--                       receivers are equal
-- Assumes nothing.
use Rattle.std.specs.Prelude.{◌≡◌, Bool, true, false, ◌&&◌, List, [], ◌∷◌, ◌++◌, ℕ, ◌*◌, eqb, ltb, leb, length, take, drop, replicate, Result, Ok, Err}
use Rattle.basics.specs.Choice.{pick}
use Rattle.refusal.specs.Refusal.{receiver_refusal, pack_refusal, length_refusal, entry_refusal, numbering_refusal}
use Rattle.refusal.specs.Refusal.{refuse_unless, first, unless_refused, number, named, answered, refusal_number}
use Rattle.refusal.specs.declared.Refusal.{Refusal}
use Rattle.settings.specs.Settings.{settings_refusal}
use Rattle.matrix.specs.Matrix.{entries_below, is_reduced}
use Rattle.linear.specs.Span.{rows_of}
use Rattle.linear.specs.Eliminate.{reduced_of, dimension}
use Rattle.reduction.specs.Padded.{padded}
use Rattle.numbering.specs.Numbering.{is_numbering}
use Rattle.receive.specs.Answer.{Received, space_answer, received}
use Rattle.receiver.specs.declared.Receiver.{Receiver}
use Rattle.receiver.specs.declared.Started.{Started}
use Rattle.receiver.specs.declared.Taken.{Taken}
use Rattle.receiver.specs.declared.Effect.{Effect}
use Rattle.receiver.specs.declared.Effect.TheVariants.{Raised, Held, Idle}

pub record Setup : Type 0 where
  pub q : ℕ
  pub n : ℕ
  pub k : ℕ
  pub pack : ℕ

pub record Offer : Type 0 where
  pub pack : ℕ
  pub row : List ℕ

abbrev pub setup : ℕ → ℕ → ℕ → ℕ → Setup
setup q n k pack = record { q = q; n = n; k = k; pack = pack }

abbrev pub offer : ℕ → List ℕ → Offer
offer pack row = record { pack = pack; row = row }

abbrev pub setup_of : Receiver → Setup
setup_of r = record { q = r.q; n = r.n; k = r.k; pack = r.pack }

abbrev pub setup_refusal : Setup → ℕ
setup_refusal s = settings_refusal s.q s.n s.k

abbrev pub no_setup : Setup
no_setup = record { q = 0; n = 0; k = 0; pack = 0 }

abbrev pub made : Setup → ℕ → List ℕ → Receiver
made s d entries = record { entries = entries; q = s.q; n = s.n; k = s.k; dimension = d; pack = s.pack }

abbrev pub empty : Setup → Receiver
empty s = made s 0 (replicate 256 0)

unfoldable pub start_of : Setup → Started
start_of s = record { receiver = unless_refused (setup_refusal s) (empty s) (empty no_setup); answer = answered (setup_refusal s) tt }

abbrev pub start_number : Started → ℕ
start_number s = refusal_number s.answer

-- the entries that the receiver uses
abbrev pub used : Receiver → List ℕ
used r = take (r.dimension * r.n) r.entries

-- the entries after those
abbrev pub unused : Receiver → List ℕ
unused r = drop (r.dimension * r.n) r.entries

unfoldable pub well_formed : Receiver → Bool
well_formed r =
    eqb (setup_refusal (setup_of r)) 0
    && (leb r.dimension r.n
    && (entries_below r.q (used r)
    && (entries_below 1 (unused r)
    && is_reduced r.n r.dimension (used r))))

unfoldable pub held_rows : Receiver → List (List ℕ)
held_rows r = rows_of r.n r.dimension r.entries

unfoldable pub holding : Setup → List (List ℕ) → Receiver
holding s rows = made s (dimension s.q s.n rows) (padded 256 (reduced_of s.q s.n rows))

unfoldable pub take_refusal : Receiver → Offer → ℕ
take_refusal r o =
    first
    (refuse_unless (well_formed r) receiver_refusal
    ∷ refuse_unless (eqb o.pack r.pack) pack_refusal
    ∷ refuse_unless (eqb (length o.row) r.n) length_refusal
    ∷ refuse_unless (entries_below r.q o.row) entry_refusal
    ∷ [])

abbrev pub is_zero : List ℕ → Bool
is_zero row = entries_below 1 row

-- the row taken in
unfoldable pub taken_in : Receiver → Offer → Taken
taken_in r o =
    record {
      receiver = holding (setup_of r) (held_rows r ++ (o.row ∷ []));
      answer =
          Ok
          (pick (is_zero o.row) Idle
          (pick (ltb r.dimension (dimension r.q r.n (held_rows r ++ (o.row ∷ [])))) Raised Held));
    }

unfoldable pub take_of : Receiver → Offer → Taken
take_of r o = unless_refused (take_refusal r o) (taken_in r o) (record { receiver = r; answer = Err (named (take_refusal r o)) })

-- a receiver and an answer
abbrev pub taken_as : Receiver → Result Effect Refusal → Taken
taken_as r answer = record { receiver = r; answer = answer }

abbrev pub lent_receiver : Receiver → Offer → Receiver
lent_receiver r o = (take_of r o).receiver

abbrev pub lent_answer : Receiver → Offer → Result Effect Refusal
lent_answer r o = (take_of r o).answer

unfoldable pub close_refusal : Receiver → ℕ → ℕ
close_refusal r t = first (refuse_unless (well_formed r) receiver_refusal ∷ refuse_unless (is_numbering t) numbering_refusal ∷ [])

unfoldable pub close_of : Receiver → ℕ → Received
close_of r t = received (close_refusal r t) (space_answer r.q r.n r.k t r.dimension (used r))

abbrev pub take_number : Result Effect Refusal → ℕ
take_number (Ok Raised) = 0
take_number (Ok Held) = 0
take_number (Ok Idle) = 0
take_number (Err r) = number r

abbrev pub take_raised : Result Effect Refusal → Bool
take_raised (Ok Raised) = true
take_raised (Ok Held) = false
take_raised (Ok Idle) = false
take_raised (Err r) = false

abbrev pub take_idle : Result Effect Refusal → Bool
take_idle (Ok Raised) = false
take_idle (Ok Held) = false
take_idle (Ok Idle) = true
take_idle (Err r) = false

pub record TakeTells (r : Receiver) (o : Offer) (t : Taken) : Type 0 where
  pub number : take_number t.answer ≡ take_refusal r o
  pub raised : take_raised t.answer ≡ ltb r.dimension t.receiver.dimension
  pub idle : take_idle t.answer ≡ eqb (take_refusal r o) 0 && is_zero o.row
  pub untouched : take_raised t.answer ≡ false → t.receiver ≡ r
