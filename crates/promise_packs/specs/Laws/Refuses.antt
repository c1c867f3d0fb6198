-- What Take refuses, of any receiver and whatever is offered; no part of the meaning.
--   number_of       == the number that Take tells is the refusal, in either form
--   refused-leaves  == what is refused: the number, and the receiver as it was, in either form
--   refused-by, named-by == the refusal that is told, by its number and by its name
--   forged-exactly  == 14 exactly where Start and Take cannot leave the receiver
--   foreign-exactly == 17 exactly where they can, and the row is offered for another pack
-- Assumes nothing.
use Rattle.std.specs.Prelude.{◌≡◌, refl, Bool, true, false, ◌↔◌, ℕ, length, Err}
use Rattle.std.proofs.Common.{ap, ◌∙◌, arith}
use Rattle.std.proofs.Math.Path.{sym}
use Rattle.refusal.specs.Refusal.{number, named}
use Rattle.refusal.specs.Laws.First.{kept, number-positive, named-number}
use Rattle.refusal.specs.declared.Refusal.{Refusal}
use Rattle.receiver.specs.Receiver.{Offer, well_formed, take_refusal, take_of, taken_as, take_number}
use Rattle.receiver.specs.Laws.TakeAccepted.{take-forged, take-foreign, foreign-only, unforged}
use Rattle.receiver.proofs.Laws.TakeTold.{take-told}
use Rattle.receiver.specs.declared.Receiver.{Receiver}
use Rattle.receiver.specs.declared.Taken.{Taken}
use Rattle.promise_recovery.specs.Calls.{Reachable}
use Rattle.promise_recovery.proofs.Laws.Reachable.{reachable-exactly-well-formed, forged, formed}
use Rattle.promise_idle.specs.Idle.{TakenBy, by_value, lent}

module _ (r : Receiver) (size : length r.entries ≡ 256) (o : Offer) where
  pub number_of : {t : Taken} → TakenBy r o t → take_number t.answer ≡ take_refusal r o
  number_of by_value = (take-told r o size (take_of r o) refl).number
  number_of lent = (take-told r o size (take_of r o) refl).number

  value : (take_refusal r o ≡ 0 → ⊥) → take_of r o ≡ taken_as r (Err (named (take_refusal r o)))
  unfolding take_of
  value z = sym (kept (take_refusal r o) _ _ z)

  pub refused-leaves : {t : Taken} → TakenBy r o t → (take_refusal r o ≡ 0 → ⊥)
      → (t.answer ≡ Err (named (take_refusal r o))) × (take_number t.answer ≡ take_refusal r o) × (t.receiver ≡ r)
  refused-leaves by_value z =
      (ap (λ (x : Taken). x.answer) (value z), number_of by_value, ap (λ (x : Taken). x.receiver) (value z))
  refused-leaves lent z = (ap (λ (x : Taken). x.answer) (value z), number_of lent, ap (λ (x : Taken). x.receiver) (value z))

  -- the answer by its number, which is not 0
  pub refused-by : {t : Taken} → TakenBy r o t → {number : ℕ} → take_refusal r o ≡ number → (number ≡ 0 → ⊥)
      → (t.answer ≡ Err (named number)) × (take_number t.answer ≡ number)
  refused-by by e other = ((refused-leaves by (λ z. other (sym e ∙ z))).0 ∙ ap (λ x. Err (named x)) e, number_of by ∙ e)

  -- and by its name
  pub named-by : {t : Taken} → TakenBy r o t → (refusal : Refusal) → take_refusal r o ≡ number refusal
      → (t.answer ≡ Err refusal) × (take_number t.answer ≡ number refusal)
  named-by by refusal e =
      let told = refused-by by e (number-positive refusal) in
      (told.0 ∙ ap Err (named-number refusal), told.1)

  pub forged-exactly : (take_refusal r o ≡ 14) ↔ (Reachable r → ⊥)
  forged-exactly = (λ e reached. unforged r o (formed r size reached) e, λ h. take-forged r o (forged r size h))

  pub foreign-exactly : (take_refusal r o ≡ 17) ↔ (Reachable r × (o.pack ≡ r.pack → ⊥))
  foreign-exactly = (λ e. reaches e (well_formed r) refl, λ x. take-foreign r o (formed r size x.0) x.1)
    where
      reaches : take_refusal r o ≡ 17 → (b : Bool) → well_formed r ≡ b → Reachable r × (o.pack ≡ r.pack → ⊥)
      reaches told true w = ((reachable-exactly-well-formed r size).1 w, foreign-only r o w told)
      reaches told false w = let e = take-forged r o w in absurd (omega (arith, told, e))
