-- Two lists of calls, one after the other; no part of the meaning.
--   offered-append, fitting-append == what is offered, and the rows of it that fit
--   accepted-append == from a fresh Start, what the two accept one after the other is what each accepts
-- Assumes nothing.
use Rattle.std.specs.Prelude.{◌≡◌, refl, Bool, true, false, List, [], ◌∷◌, ◌++◌, ℕ}
use Rattle.std.proofs.Common.{ap, ap₂, sym, ◌∙◌}
use Rattle.basics.specs.Choice.{pick}
use Rattle.receiver.specs.Receiver.{Setup, Offer, setup_refusal}
use Rattle.promise_recovery.specs.Calls.{Call, take_value, take_lent, close, begun, accepted, offered, fits, fitting}
use Rattle.promise_recovery.proofs.Laws.After.{accepted-fits}

offered-append : (cs ds : List Call) → offered (cs ++ ds) ≡ offered cs ++ offered ds
unfolding offered
offered-append [] ds = refl
offered-append (take_value o ∷ cs) ds = ap (λ (x : List Offer). o ∷ x) (offered-append cs ds)
offered-append (take_lent o ∷ cs) ds = ap (λ (x : List Offer). o ∷ x) (offered-append cs ds)
offered-append (close t ∷ cs) ds = offered-append cs ds

fitting-append : (s : Setup) (os others : List Offer) → fitting s (os ++ others) ≡ fitting s os ++ fitting s others
unfolding fitting
fitting-append s [] others = refl
fitting-append s (o ∷ os) others = cases (fits s o) (fitting-append s os others)
  where
    cases : (b : Bool) → fitting s (os ++ others) ≡ fitting s os ++ fitting s others
        → pick b (o.row ∷ fitting s (os ++ others)) (fitting s (os ++ others))
        ≡ pick b (o.row ∷ fitting s os) (fitting s os) ++ fitting s others
    cases true e = ap (λ (x : List (List ℕ)). o.row ∷ x) e
    cases false e = e

pub accepted-append : (s : Setup) → setup_refusal s ≡ 0 → (cs ds : List Call)
    → accepted (begun s) (cs ++ ds) ≡ accepted (begun s) cs ++ accepted (begun s) ds
accepted-append s settings cs ds =
    accepted-fits s settings (cs ++ ds) ∙ ap (fitting s) (offered-append cs ds) ∙ fitting-append s (offered cs) (offered ds)
    ∙ sym (ap₂ (λ x y. x ++ y) (accepted-fits s settings cs) (accepted-fits s settings ds))
