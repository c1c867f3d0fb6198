-- The rows that Take accepts, by a test; no part of the meaning.
--   fits-own, fits-row == what fits is offered for the receiver's pack, and is a Row
--   own-fits        == and nothing else fits
--   fitting-rows    == the rows that fit are rows
-- Assumes nothing.
use Rattle.std.specs.Prelude.{◌≡◌, refl, Bool, true, false, ◌&&◌, List, [], ◌∷◌, eqb, length}
use Rattle.std.proofs.Common.{ap₂, eq-eqb, eqb→eq}
use Rattle.basics.specs.Choice.{pick}
use Rattle.basics.specs.Laws.Choice.{holds}
use Rattle.basics.specs.Laws.Test.{and_left, and_right}
use Rattle.matrix.specs.Matrix.{entries_below}
use Rattle.matrix.specs.Laws.Tests.{entries_below_lem, entries-below-true}
use Rattle.linear.specs.Span.{All, none, more, Row}
use Rattle.linear.specs.Laws.Every.{all-at, all_of}
use Rattle.receiver.specs.Receiver.{Setup, Offer}
use Rattle.promise_recovery.specs.Calls.{fits, fitting}

module _ (s : Setup) (o : Offer) where
  -- the test of the row alone
  abbrev sized : Bool
  sized = eqb (length o.row) s.n

  abbrev below : Bool
  below = entries_below s.q o.row

  pub fits-own : fits s o ≡ true → o.pack ≡ s.pack
  fits-own e = eqb→eq o.pack s.pack (and_left (eqb o.pack s.pack) (sized && below) (holds (fits s o) e))

  pub fits-row : fits s o ≡ true → Row s.q s.n o.row
  fits-row e =
      let t = and_right (eqb o.pack s.pack) (sized && below) (holds (fits s o) e) in (
        eqb→eq (length o.row) s.n (and_left sized below t),
        all_of 0 o.row (entries_below_lem s.q o.row (and_right sized below t)),
      )

  pub own-fits : o.pack ≡ s.pack → Row s.q s.n o.row → fits s o ≡ true
  own-fits own h =
      ap₂ ◌&&◌ (eq-eqb o.pack s.pack own)
      (ap₂ ◌&&◌ (eq-eqb (length o.row) s.n h.0) (entries-below-true s.q o.row (all-at h.1 0)))

pub fitting-rows : (s : Setup) (os : List Offer) → All (Row s.q s.n) (fitting s os)
unfolding fitting
fitting-rows s [] = none
fitting-rows s (o ∷ os) = cases (fits s o) refl (fitting-rows s os)
  where
    cases : (b : Bool) → fits s o ≡ b → All (Row s.q s.n) (fitting s os)
        → All (Row s.q s.n) (pick b (o.row ∷ fitting s os) (fitting s os))
    cases true e hs = more (fits-row s o e) hs
    cases false e hs = hs
