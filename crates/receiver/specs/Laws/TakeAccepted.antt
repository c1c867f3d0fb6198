-- Calls on a receiver that are not refused, and what the answers tell; no part of the meaning.
--   TakeAccepted, CloseAccepted == what holds where none refuses
--   take-accepted, take-unrefused, close-accepted, close-unrefused == it is so exactly there
--   take-forged, -foreign, -long, -large, -row == which refusal Take names; none for a row of the receiver's pack
--   foreign-only, unforged      == 17 is named for no row of the receiver's pack, and 14 for no receiver that passes the test
--   accepted-row                == a row that is not refused is a row
--   take-known, close-known     == what these tests come to is a refusal, or none
--   close-told                  == the numbers and values that an answer of Close tells
-- Assumes nothing.
use Rattle.std.specs.Prelude.{◌≡◌, refl, Bool, false, ℕ, ◌≤◌, T, eqb, length}
use Rattle.std.proofs.Math.Path.{sym}
use Rattle.std.proofs.Common.{◌∙◌, arith}
use Rattle.std.proofs.Math.Bool.{true}
use mathlib.Core.List.{[], ◌∷◌}
use Rattle.std.proofs.Math.Decide.{ℕ_discrete}
use borrow.Author.Tests.{eq-eqb, ne_eqb, eqb-true}
use Rattle.basics.specs.Laws.Choice.{is_false, holds}
use Rattle.refusal.specs.Refusal.{receiver_refusal, pack_refusal, length_refusal, entry_refusal, numbering_refusal, refuse_unless}
use Rattle.refusal.specs.Laws.First.{test_zero, test-refused, test-passed, first-none, Known, known-none, known-test, known-first}
use Rattle.refusal.specs.declared.Refusal.TheVariants as refusals
use Rattle.matrix.specs.Matrix.{entries_below}
use Rattle.matrix.specs.Laws.Tests.{entries_below_lem, entries-below-true}
use Rattle.linear.specs.Span.{Row}
use Rattle.linear.specs.Laws.Every.{all-at, all_of}
use Rattle.numbering.specs.Numbering.{is_numbering}
use Rattle.receive.specs.Answer.{Received, Told}
use Rattle.receive.proofs.Laws.Space.{received-told}
use Rattle.receiver.specs.Receiver.{Offer, used, well_formed, take_refusal}
use Rattle.receiver.specs.Receiver.{close_refusal, close_of}
use Rattle.receiver.specs.declared.Receiver.{Receiver}

pub record TakeAccepted (r : Receiver) (o : Offer) : Type 0 where
  pub formed : well_formed r ≡ true
  pub own : o.pack ≡ r.pack
  pub sized : length o.row ≡ r.n
  pub below : T (entries_below r.q o.row)

module _ (r : Receiver) (o : Offer) where
  pub take-known : Known (take_refusal r o)
  unfolding take_refusal
  take-known =
      known-first _ _ (known-test _ refusals.Receiver)
      (known-first _ _ (known-test _ refusals.Pack)
      (known-first _ _ (known-test _ refusals.Length) (known-first _ _ (known-test _ refusals.Entry) known-none)))

  pub take-accepted : take_refusal r o ≡ 0 → TakeAccepted r o
  unfolding take_refusal
  take-accepted z =
      let entries = refuse_unless (entries_below r.q o.row) entry_refusal ∷ [] in
      let row = refuse_unless (eqb (length o.row) r.n) length_refusal ∷ entries in
      let f = test_zero (well_formed r) receiver_refusal (refuse_unless (eqb o.pack r.pack) pack_refusal ∷ row) tt z in
      let p = test_zero (eqb o.pack r.pack) pack_refusal row tt f.1 in
      let l = test_zero (eqb (length o.row) r.n) length_refusal entries tt p.1 in
      record {
        formed = f.0;
        own = eqb-true o.pack r.pack p.0;
        sized = eqb-true (length o.row) r.n l.0;
        below = holds (entries_below r.q o.row) (test_zero (entries_below r.q o.row) entry_refusal [] tt l.1).0;
      }

  pub accepted-row : TakeAccepted r o → Row r.q r.n o.row
  accepted-row a = (a.sized, all_of 0 o.row (entries_below_lem r.q o.row a.below))

  pub take-unrefused : well_formed r ≡ true → o.pack ≡ r.pack → length o.row ≡ r.n → entries_below r.q o.row ≡ true
      → take_refusal r o ≡ 0
  unfolding take_refusal
  take-unrefused w p l e =
      test-passed _ _ _ w ∙ test-passed _ _ _ (eq-eqb o.pack r.pack p) ∙ test-passed _ _ _ (eq-eqb (length o.row) r.n l)
      ∙ test-passed _ _ _ e
      ∙ first-none

  pub take-forged : well_formed r ≡ false → take_refusal r o ≡ receiver_refusal
  unfolding take_refusal
  take-forged w = test-refused _ _ _ tt w

  module _ (w : well_formed r ≡ true) where
    pub take-foreign : (o.pack ≡ r.pack → ⊥) → take_refusal r o ≡ pack_refusal
    unfolding take_refusal
    take-foreign p = test-passed _ _ _ w ∙ test-refused _ _ _ tt (ne_eqb o.pack r.pack p)

    module _ (own : o.pack ≡ r.pack) where
      pub take_long : (length o.row ≡ r.n → ⊥) → take_refusal r o ≡ length_refusal
      unfolding take_refusal
      take_long l =
          test-passed _ _ _ w ∙ test-passed _ _ _ (eq-eqb o.pack r.pack own)
          ∙ test-refused _ _ _ tt (ne_eqb (length o.row) r.n l)

      pub take-large : length o.row ≡ r.n → (Row r.q r.n o.row → ⊥) → take_refusal r o ≡ entry_refusal
      unfolding take_refusal
      take-large l outside =
          test-passed _ _ _ w ∙ test-passed _ _ _ (eq-eqb o.pack r.pack own)
          ∙ test-passed _ _ _ (eq-eqb (length o.row) r.n l)
          ∙ test-refused _ _ _ tt (is_false (entries_below r.q o.row) over)
        where
          over : entries_below r.q o.row ≡ true → ⊥
          over e = outside (l, all_of 0 o.row (entries_below_lem r.q o.row (holds (entries_below r.q o.row) e)))

      pub take_row : Row r.q r.n o.row → take_refusal r o ≡ 0
      take_row h = take-unrefused w own h.0 (entries-below-true r.q o.row (all-at h.1 0))

      -- 4, 6 or none
      low : Dec (length o.row ≡ r.n) → (b : Bool) → entries_below r.q o.row ≡ b → take_refusal r o ≤ 6
      low (no l) b e = let z = take_long l in omega (arith, z)
      low (yes l) true e = let z = take-unrefused w own l e in omega (arith, z)
      low (yes l) false e =
          let z = take-large l (λ h. holds false (sym e ∙ entries-below-true r.q o.row (all-at h.1 0))) in omega (arith, z)

      own-low : take_refusal r o ≤ 6
      own-low = low (ℕ_discrete (length o.row) r.n) (entries_below r.q o.row) refl

    pub foreign-only : take_refusal r o ≡ pack_refusal → o.pack ≡ r.pack → ⊥
    foreign-only told own = omega (arith, told, own-low own)

    pub unforged : take_refusal r o ≡ receiver_refusal → ⊥
    unforged told = cases (ℕ_discrete o.pack r.pack)
      where
        cases : Dec (o.pack ≡ r.pack) → ⊥
        cases (no p) = let e = take-foreign p in omega (arith, told, e)
        cases (yes own) = omega (arith, told, own-low own)

pub record CloseAccepted (r : Receiver) (t : ℕ) : Type 0 where
  pub formed : well_formed r ≡ true
  pub known : is_numbering t ≡ true

module _ (r : Receiver) (t : ℕ) where
  pub close-accepted : close_refusal r t ≡ 0 → CloseAccepted r t
  unfolding close_refusal
  close-accepted z =
      let f = test_zero (well_formed r) receiver_refusal (refuse_unless (is_numbering t) numbering_refusal ∷ []) tt z in
      record { formed = f.0; known = (test_zero (is_numbering t) numbering_refusal [] tt f.1).0 }

  pub close-unrefused : well_formed r ≡ true → is_numbering t ≡ true → close_refusal r t ≡ 0
  unfolding close_refusal
  close-unrefused w b = test-passed _ _ _ w ∙ test-passed _ _ _ b ∙ first-none

  pub close-known : Known (close_refusal r t)
  unfolding close_refusal
  close-known = known-first _ _ (known-test _ refusals.Receiver) (known-first _ _ (known-test _ refusals.Numbering) known-none)

  pub close-told : (a : Received) → a ≡ close_of r t → Told r.q r.n r.k t r.dimension (used r) (close_refusal r t) a
  unfolding close_of
  close-told a e = rw e (received-told r.q r.n r.k t r.dimension (used r) (close_refusal r t) close-known)
