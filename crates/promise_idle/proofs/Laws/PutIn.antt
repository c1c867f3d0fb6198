-- Zero rows put into a list of calls; no part of the meaning.
--   zero-untouched  == a zero row, of whatever length and for whatever pack, leaves any receiver
--   take-size       == Take hands back a receiver of 256 entries
--   unharmed        == from any receiver on, a list of calls with zero rows put in leaves what the list leaves
--   put-in-fitting  == what holds of the zero row and of the rows that fit holds with zero rows put in
-- Assumes nothing.
use Rattle.std.specs.Prelude.{◌≡◌, refl, Bool, true, false, ◌&&◌, List, [], ◌∷◌, ◌++◌, ℕ, Result, Ok, Err}
use Rattle.std.proofs.Math.Path.{ap}
use Rattle.std.proofs.Common.{sym, ◌∙◌, eq-eqb}
use Rattle.std.proofs.Math.Decide.{ℕ_discrete}
use Rattle.std.proofs.Math.ListN.{length}
use Rattle.basics.specs.Choice.{pick}
use Rattle.basics.specs.Laws.Choice.{holds}
use Rattle.refusal.specs.Laws.First.{kept, done}
use Rattle.refusal.specs.declared.Refusal.{Refusal}
use Rattle.matrix.specs.Laws.Tests.{zeros-below}
use Rattle.linear.specs.Span.{All, none, more}
use Rattle.linear.specs.Laws.Every.{all_append, all_head, all_tail}
use Rattle.receiver.specs.Receiver.{Setup, Offer, setup_of, held_rows, is_zero, take_refusal, taken_in, take_of}
use Rattle.receiver.specs.Receiver.{take_number, take_raised, take_idle, TakeTells}
use Rattle.receiver.specs.Laws.Sound.{sound}
use Rattle.receiver.specs.Laws.Held.{held_kept, holding-size}
use Rattle.receiver.specs.Laws.TakeAccepted.{take-accepted, accepted-row}
use Rattle.receiver.proofs.Laws.TakeTold.{take-told}
use Rattle.receiver.specs.declared.Receiver.{Receiver}
use Rattle.receiver.specs.declared.Taken.{Taken}
use Rattle.receiver.specs.declared.Effect.{Effect}
use Rattle.receiver.specs.declared.Effect.TheVariants.{Raised, Held, Idle}
use Rattle.promise_recovery.specs.Calls.{Call, after, take_value, take_lent, close, offered, fits, fitting}
use Rattle.promise_idle.specs.Idle.{zero_row, zeros, WithIdle, none as nothing, call, idle_value, idle_lent}

idle-unraised : (a : Result Effect Refusal) → take_idle a ≡ true → take_raised a ≡ false
idle-unraised (Ok Raised) e = absurd (holds false e)
idle-unraised (Ok Held) e = refl
idle-unraised (Ok Idle) e = refl
idle-unraised (Err r) e = refl

refused-unraised : (a : Result Effect Refusal) → (take_number a ≡ 0 → ⊥) → take_raised a ≡ false
refused-unraised (Ok Raised) e = absurd (e refl)
refused-unraised (Ok Held) e = refl
refused-unraised (Ok Idle) e = refl
refused-unraised (Err r) e = refl

module _ (r : Receiver) (size : length r.entries ≡ 256) where
  pub zero-untouched : (pack n : ℕ) → (take_of r (zeros pack n)).receiver ≡ r
  zero-untouched pack n = told.untouched (cases (ℕ_discrete (take_refusal r o) 0))
    where
      o : Offer
      o = zeros pack n

      told : TakeTells r o (take_of r o)
      told = take-told r o size (take_of r o) refl

      cases : Dec (take_refusal r o ≡ 0) → take_raised (take_of r o).answer ≡ false
      cases (yes z) =
          idle-unraised (take_of r o).answer
          (told.idle ∙ ap (λ b. b && is_zero (zero_row n)) (eq-eqb (take_refusal r o) 0 z) ∙ zeros-below n)
      cases (no z) = refused-unraised (take_of r o).answer (λ e. z (sym told.number ∙ e))

  pub take-size : (o : Offer) → length (take_of r o).receiver.entries ≡ 256
  unfolding take_of taken_in
  take-size o = cases (ℕ_discrete (take_refusal r o) 0)
    where
      cases : Dec (take_refusal r o ≡ 0) → length (take_of r o).receiver.entries ≡ 256
      cases (no z) = ap (λ (t : Taken). length t.receiver.entries) (sym (kept (take_refusal r o) _ _ z)) ∙ size
      cases (yes z) =
          let a = take-accepted r o z in
          let s = sound r size a.formed in
          ap (λ (t : Taken). length t.receiver.entries) (sym (done (take_refusal r o) _ _ z))
          ∙ holding-size (setup_of r) s.settings (held_rows r ++ (o.row ∷ []))
          (all_append (held_kept r size s).rows (more (accepted-row r o a) none))

pub unharmed : {n : ℕ} (r : Receiver) → length r.entries ≡ 256 → {cs ds : List Call} → WithIdle n cs ds
    → after r ds ≡ after r cs
unfolding after
unharmed r size nothing = refl
unharmed r size (call (take_value o) w) = unharmed (take_of r o).receiver (take-size r size o) w
unharmed r size (call (take_lent o) w) = unharmed (take_of r o).receiver (take-size r size o) w
unharmed r size (call (close t) w) = unharmed r size w
unharmed {n} r size (idle_value {ds = ds} pack w) = ap (λ x. after x ds) (zero-untouched r size pack n) ∙ unharmed r size w
unharmed {n} r size (idle_lent {ds = ds} pack w) = ap (λ x. after x ds) (zero-untouched r size pack n) ∙ unharmed r size w

-- a row before others, where it fits
before-all : (P : List ℕ → Type 0) (b : Bool) (row : List ℕ) (xs ys : List (List ℕ)) → (All P xs → All P ys)
    → All P (pick b (row ∷ xs) xs) → All P (pick b (row ∷ ys) ys)
before-all P true row xs ys f ps = more (all_head ps) (f (all_tail ps))
before-all P false row xs ys f ps = f ps

one-before : (P : List ℕ → Type 0) (b : Bool) (row : List ℕ) (ys : List (List ℕ)) → P row → All P ys → All P (pick b (row ∷ ys) ys)
one-before P true row ys p ps = more p ps
one-before P false row ys p ps = ps

module _ (s : Setup) (P : List ℕ → Type 0) (zero : P (zero_row s.n)) where
  pub put-in-fitting : {cs ds : List Call} → WithIdle s.n cs ds → All P (fitting s (offered cs)) → All P (fitting s (offered ds))
  unfolding fitting offered
  put-in-fitting nothing ps = ps
  put-in-fitting (call (take_value o) w) ps = before-all P (fits s o) o.row _ _ (λ x. put-in-fitting w x) ps
  put-in-fitting (call (take_lent o) w) ps = before-all P (fits s o) o.row _ _ (λ x. put-in-fitting w x) ps
  put-in-fitting (call (close t) w) ps = put-in-fitting w ps
  put-in-fitting (idle_value pack w) ps = one-before P (fits s (zeros pack s.n)) (zero_row s.n) _ zero (put-in-fitting w ps)
  put-in-fitting (idle_lent pack w) ps = one-before P (fits s (zeros pack s.n)) (zero_row s.n) _ zero (put-in-fitting w ps)
