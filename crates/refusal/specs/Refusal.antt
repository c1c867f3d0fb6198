-- The numbered refusals of document 01, "What each call refuses", each with its words; 0 stands for no refusal.
--   refuse_unless b r == no refusal where the test b holds, else r
--   first rs         == "The first that applies, in the order given, is returned": the first that is not 0, or 0
--   unless_refused r done kept == what is answered or left: `done` where r is no refusal, else `kept`
--   number           == the number of a refusal
--   refusals         == every refusal
--   among n rs       == the first of the refusals rs that has the number n, Pack where none has
--   named n          == the refusal with the number n
--   answered r done  == what a call answers: `done` where r is no refusal, else the refusal with the number r
--   refusal_number   == the number of an answer: its refusal's, or 0
-- Assumes nothing.
use Rattle.std.specs.Prelude.{Bool, List, [], ◌∷◌, ℕ, eqb, Result, Ok, Err}
use Rattle.refusal.specs.declared.Refusal.{Refusal}
use Rattle.refusal.specs.declared.Refusal.TheVariants.{FieldSize, Range, Count, Length, Index, Entry, NotReduced, TooFew, TooMany}
use Rattle.refusal.specs.declared.Refusal.TheVariants.{Numbering, Line, Listing, RowCount, Receiver, Mismatch, Pack}
use Rattle.basics.specs.Choice.{pick}

-- q is none of the field sizes
abbrev pub field_size_refusal : ℕ
field_size_refusal = 1

-- n is outside 1 to 16 or k exceeds n
abbrev pub range_refusal : ℕ
range_refusal = 2

-- N exceeds 2^64 - 1
abbrev pub count_refusal : ℕ
count_refusal = 3

-- a lent buffer, an input or a row does not have exactly the bytes that it must have
abbrev pub length_refusal : ℕ
length_refusal = 4

-- the index is N or more
abbrev pub index_refusal : ℕ
index_refusal = 5

-- an entry is q or more
abbrev pub entry_refusal : ℕ
entry_refusal = 6

-- the matrix isn't reduced
abbrev pub not_reduced_refusal : ℕ
not_reduced_refusal = 7

-- the span has fewer than k dimensions
abbrev pub too_few_refusal : ℕ
too_few_refusal = 8

-- the span has more than k dimensions
abbrev pub too_many_refusal : ℕ
too_many_refusal = 9

-- the numbering is neither 1 nor 2
abbrev pub numbering_refusal : ℕ
numbering_refusal = 10

-- the input isn't one line of settings
abbrev pub line_refusal : ℕ
line_refusal = 11

-- N exceeds 65,536
abbrev pub listing_refusal : ℕ
listing_refusal = 12

-- there are more than 64 rows
abbrev pub row_count_refusal : ℕ
row_count_refusal = 13

-- the receiver is none that Start and Take can leave after an accepted Start
abbrev pub receiver_refusal : ℕ
receiver_refusal = 14

-- 15 is retired by order 4, and is not given to another meaning

-- two receivers differ in q, n, k or pack number
abbrev pub mismatch_refusal : ℕ
mismatch_refusal = 16

-- the row is offered for another pack
abbrev pub pack_refusal : ℕ
pack_refusal = 17

unfoldable pub refuse_unless : Bool → ℕ → ℕ
refuse_unless holds refusal = pick holds 0 refusal

unfoldable pub first : List ℕ → ℕ
first [] = 0
first (refusal ∷ rest) = pick (eqb refusal 0) (first rest) refusal

unfoldable pub unless_refused {ℓ} : {A : Type ℓ} → ℕ → A → A → A
unless_refused refusal done kept = pick (eqb refusal 0) done kept

abbrev pub number : Refusal → ℕ
number FieldSize = field_size_refusal
number Range = range_refusal
number Count = count_refusal
number Length = length_refusal
number Index = index_refusal
number Entry = entry_refusal
number NotReduced = not_reduced_refusal
number TooFew = too_few_refusal
number TooMany = too_many_refusal
number Numbering = numbering_refusal
number Line = line_refusal
number Listing = listing_refusal
number RowCount = row_count_refusal
number Receiver = receiver_refusal
number Mismatch = mismatch_refusal
number Pack = pack_refusal

abbrev pub refusals : List Refusal
refusals =
    FieldSize ∷ Range ∷ Count ∷ Length ∷ Index ∷ Entry ∷ NotReduced ∷ TooFew ∷ TooMany ∷ Numbering ∷ Line ∷ Listing ∷ RowCount ∷ Receiver
    ∷ Mismatch ∷ Pack ∷ []

unfoldable pub among : ℕ → List Refusal → Refusal
among n [] = Pack
among n (refusal ∷ rest) = pick (eqb (number refusal) n) refusal (among n rest)

unfoldable pub named : ℕ → Refusal
named n = among n refusals

abbrev pub answered : {A : Type 0} → ℕ → A → Result A Refusal
answered refusal done = unless_refused refusal (Ok done) (Err (named refusal))

abbrev pub refusal_number : {A : Type 0} → Result A Refusal → ℕ
refusal_number (Ok done) = 0
refusal_number (Err refusal) = number refusal
