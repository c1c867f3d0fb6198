-- The rows of several packs, offered to one receiver, and two receivers of different packs that are offered the same. Order 8: "In a full
-- rack the rows of two packs arrive by turns, and joined they give a lawful record of neither. A receiver gets a pack number, 0 to 65535,
-- at its start, and each row given to Take is offered with one .. In the promise about mixed rows, a row offered for another pack is one
-- of the refused."
--   repacked r pack == the receiver r with this pack number in it
--   Turns xs ys zs  == zs is xs and ys, put together by turns in any way, each in its own sequence
--   InRack s os cs  == a receiver with the setup s, to which the calls cs offer os, the rows of several packs: it accepts those that fit,
--                      and so are offered for its own pack, and no others; and where these are Mixed from a drawn matrix, closing answers
--                      as demand 3 says
-- Assumes nothing.
use Rattle.std.specs.Prelude.{◌≡◌, true, List, [], ◌∷◌, ℕ, ◌<◌}
use Rattle.linear.specs.Span.{All, Mixed, rows_of}
use Rattle.numbering.specs.Numbering.{is_numbering}
use Rattle.drawing.specs.Drawing.{drawing}
use Rattle.receiver.specs.Receiver.{Setup, Offer, made, setup}
use Rattle.receiver.specs.declared.Receiver.{Receiver}
use Rattle.promise_recovery.specs.Calls.{Call, begun, accepted, fitting}
use Rattle.promise_recovery.specs.Demand.{Buffer, Recovery}

abbrev pub repacked : Receiver → ℕ → Receiver
repacked r pack = made (setup r.q r.n r.k pack) r.dimension r.entries

pub data Turns {A : Type 0} : List A → List A → List A → Type 0 where
  none : Turns [] [] []
  first : {x : A} {xs ys zs : List A} → Turns xs ys zs → Turns (x ∷ xs) ys (x ∷ zs)
  second : {y : A} {xs ys zs : List A} → Turns xs ys zs → Turns xs (y ∷ ys) (y ∷ zs)

pub record InRack (s : Setup) (os : List Offer) (cs : List Call) : Type 0 where
  pub accepts : accepted (begun s) cs ≡ fitting s os
  pub recovers : (t : ℕ) → is_numbering t ≡ true → let D = drawing s.q s.n s.k t in
      (i : ℕ) → i < D.count → (b : List ℕ) → Buffer s.n s.k b
      → All (Mixed s.q s.n (rows_of s.n s.k (D.leaves i b))) (fitting s os)
      → Recovery s t i cs
