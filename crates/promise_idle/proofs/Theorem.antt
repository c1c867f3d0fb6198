-- Order 5, for all settings that are accepted: the theorems.
--   take-answer    == after any list of calls from a fresh Start, Take of any row, in either form, answers as Answered says
--   zeros-idle     == so the zero row of its own pack is idle and leaves the receiver in either form, full or empty as it may be
--   zeros-unharmed == from any receiver on, whatever it holds, a list of calls with zero rows put in leaves what the list leaves
--   zeros-anywhere == such as with one zero row put in at any place, for any pack, by either Take
--   order-5        == the answers and the lists without a record, under the order's words
--   record-unharmed == where the rows accepted without the zero rows are Mixed from a drawn matrix: demand 3 holds of the list with them,
--                     zero rows being accepted rows, and closing after it answers by the rows of the list without them
-- Assumes nothing.
use Rattle.std.specs.Prelude.{◌≡◌, refl, true, false, List, [], ◌∷◌, ◌++◌, ◌↔◌, ℕ, suc, ◌<◌, length, Ok, Err}
use Rattle.std.proofs.Common.{ap, ap₂, sym, ◌∙◌, subst}
use Rattle.basics.specs.Laws.Choice.{holds}
use Rattle.counts.specs.Gaussian.{gaussian}
use Rattle.refusal.specs.declared.Refusal.TheVariants.{Length, Entry, Pack}
use Rattle.settings.specs.Settings.{settings_refusal}
use Rattle.linear.specs.Span.{All, none, Row, InSpan, Mixed, rows_of}
use Rattle.linear.specs.Laws.Mixture.{span-zero, mixed-in-span}
use Rattle.linear.specs.Laws.ReducedRows.{reduced-rows}
use Rattle.numbering.specs.Numbering.{is_numbering}
use Rattle.drawing.specs.Drawing.{drawing}
use Rattle.receiver.specs.Receiver.{Setup, Offer, setup, offer, setup_refusal, take_of, taken_as, lent_receiver, lent_answer, take_idle, close_of}
use Rattle.receiver.specs.Receiver.{take_number}
use Rattle.receiver.specs.Laws.Held.{settings-laws, holding-size}
use Rattle.receiver.specs.declared.Receiver.{Receiver}
use Rattle.receiver.specs.declared.Taken.{Taken}
use Rattle.receiver.specs.declared.Effect.TheVariants.{Raised, Held, Idle}
use Rattle.promise_recovery.specs.Calls.{Call, take_value, take_lent, begun, after, accepted}
use Rattle.promise_recovery.specs.Demand.{Buffer, Answers, Recovery, Demand, told}
use Rattle.promise_recovery.proofs.Theorem.{demand-3}
use Rattle.promise_recovery.proofs.Laws.After.{begun-holds, after_holds, accepted-fits, accepted-rows}
use Rattle.promise_idle.specs.Idle.{zero_row, TakenBy, by_value, lent, Answered, zeros}
use Rattle.promise_idle.specs.Idle.{WithIdle}
use Rattle.promise_idle.proofs.Laws.Answer.{answered}
use Rattle.promise_idle.proofs.Laws.PutIn.{unharmed, put-in-fitting}
use Rattle.promise_idle.proofs.Laws.PutOne.{put-value, put-lent}

pub take-answer : (s : Setup) → setup_refusal s ≡ 0 → (cs : List Call) (o : Offer) {t : Taken} → TakenBy (after (begun s) cs) o t
    → Answered s (accepted (begun s) cs) (after (begun s) cs) o t
take-answer s settings cs o = either
  where
    value : Answered s (accepted (begun s) cs) (after (begun s) cs) o (take_of (after (begun s) cs) o)
    value =
        subst (λ r. Answered s (accepted (begun s) cs) r o (take_of r o)) (sym (after_holds s settings cs))
        (answered s settings (accepted (begun s) cs) (accepted-rows s settings cs) o)

    either : {t : Taken} → TakenBy (after (begun s) cs) o t → Answered s (accepted (begun s) cs) (after (begun s) cs) o t
    either by_value = value
    either lent = value

pub zeros-idle : (s : Setup) → setup_refusal s ≡ 0 → (cs : List Call)
    → let o = zeros s.pack s.n in
    (take_of (after (begun s) cs) o ≡ taken_as (after (begun s) cs) (Ok Idle))
    × (lent_answer (after (begun s) cs) o ≡ Ok Idle)
    × (lent_receiver (after (begun s) cs) o ≡ after (begun s) cs)
zeros-idle s settings cs =
    let value = take-answer s settings cs (zeros s.pack s.n) by_value in
    let other = take-answer s settings cs (zeros s.pack s.n) lent in
    (ap₂ taken_as (still value) (value.idle.1 (refl, refl)), other.idle.1 (refl, refl), still other)
  where
    -- what is idle isn't raised
    still : {t : Taken} → Answered s (accepted (begun s) cs) (after (begun s) cs) (zeros s.pack s.n) t
        → t.receiver ≡ after (begun s) cs
    still A = A.untouched (λ e. holds false (ap take_idle (sym e ∙ A.idle.1 (refl, refl))))

pub zeros-unharmed : {n : ℕ} (r : Receiver) → length r.entries ≡ 256 → {cs ds : List Call} → WithIdle n cs ds
    → after r ds ≡ after r cs
zeros-unharmed r size w = unharmed r size w

pub zeros-anywhere : (r : Receiver) → length r.entries ≡ 256 → (pack n : ℕ) (cs ds : List Call)
    → (after r (cs ++ (take_value (zeros pack n) ∷ ds)) ≡ after r (cs ++ ds))
    × (after r (cs ++ (take_lent (zeros pack n) ∷ ds)) ≡ after r (cs ++ ds))
zeros-anywhere r size pack n cs ds = (zeros-unharmed r size (put-value pack n cs ds), zeros-unharmed r size (put-lent pack n cs ds))

pub order-5 : (q n k own : ℕ) → settings_refusal q n k ≡ 0 → let s = setup q n k own in
    -- (After any list of calls from a fresh Start, let t be what Take, in either form, hands back for any row, offered for any pack.)
    ((cs : List Call) (pack : ℕ) (row : List ℕ) (t : Taken) → TakenBy (after (begun s) cs) (offer pack row) t
    -- "Take now answers "idle" for an accepted row of zeros,
    → ((t.answer ≡ Ok Idle) ↔ ((pack ≡ own) × (row ≡ zero_row n)))
    -- and "held" means a nonzero row already in the span.
    × ((t.answer ≡ Ok Held) ↔ ((pack ≡ own) × (row ≡ zero_row n → ⊥) × InSpan q n (accepted (begun s) cs) row))
    -- (And "raised" a row that isn't. A row of another pack is refused 17, zeros too, and what is no row of n entries, each below q, is
    -- refused as ever.)
    × ((t.answer ≡ Ok Raised) ↔ ((pack ≡ own) × Row q n row × (InSpan q n (accepted (begun s) cs) row → ⊥)))
    × (((t.answer ≡ Err Pack) × (take_number t.answer ≡ 17)) ↔ (pack ≡ own → ⊥))
    × (pack ≡ own → (length row ≡ n → ⊥) → (t.answer ≡ Err Length) × (take_number t.answer ≡ 4))
    × (pack ≡ own → length row ≡ n → (Row q n row → ⊥) → (t.answer ≡ Err Entry) × (take_number t.answer ≡ 6))
    -- The receiver's content is untouched in both cases, (as a whole, and refused too; "raised" its dimension grows by one,)
    × ((t.answer ≡ Ok Raised → ⊥) → t.receiver ≡ after (begun s) cs)
    × (t.answer ≡ Ok Raised → t.receiver.dimension ≡ suc (after (begun s) cs).dimension))
    -- and mixtures that come out zero still never harm a record." (Zero rows put in anywhere, for any pack and by either Take, leave the
    -- same receiver, and so the same Close, in whatever numbering; from any receiver on.)
    × ((r : Receiver) → length r.entries ≡ 256 → (cs ds : List Call) → WithIdle n cs ds
    → (after r ds ≡ after r cs) × ((t : ℕ) → close_of (after r ds) t ≡ close_of (after r cs) t))
order-5 q n k own settings = (
  λ cs pack row t by.
      let A = take-answer (setup q n k own) settings cs (offer pack row) by in
      (A.idle, A.held, A.raised, A.foreign, A.long, A.large, A.untouched, A.grown),
  λ r size cs ds w. let e = zeros-unharmed r size w in (e, λ t. ap (λ x. close_of x t) e),
)

module _ (q n k pack t : ℕ) (settings : settings_refusal q n k ≡ 0) (known : is_numbering t ≡ true) where
  -- what a receiver of this pack with these settings is started with
  abbrev s : Setup
  s = setup q n k pack

  begun-size : length (begun s).entries ≡ 256
  begun-size = ap (λ r. length r.entries) (begun-holds s settings) ∙ holding-size s settings [] none

  pub record-unharmed : (i : ℕ) → i < gaussian q n k → (b : List ℕ) → Buffer n k b → (cs ds : List Call) → WithIdle n cs ds
      → All (Mixed q n (rows_of n k ((drawing q n k t).leaves i b))) (accepted (begun s) cs)
      → Recovery s t i ds × Answers q n k i (accepted (begun s) cs) (told (close_of (after (begun s) ds) t))
  record-unharmed i h b l cs ds w mixed = (
    D.recovery i h b l ds
        (subst (All (Mixed q n drawn_rows)) (sym (accepted-fits s settings ds))
        (put-in-fitting s (Mixed q n drawn_rows) zero w (subst (All (Mixed q n drawn_rows)) (accepted-fits s settings cs) mixed))),
    subst (λ r. Answers q n k i (accepted (begun s) cs) (told (close_of r t))) (sym (zeros-unharmed (begun s) begun-size w))
        (D.recovery i h b l cs mixed).answers,
  )
    where
      D : Demand s t (drawing q n k t)
      D = demand-3 s t settings known

      drawn_rows : List (List ℕ)
      drawn_rows = rows_of n k ((drawing q n k t).leaves i b)

      zero : Mixed q n (rows_of n k ((drawing q n k t).leaves i b)) (zero_row n)
      zero =
          let law = settings-laws q n k settings in
          let valid = reduced-rows q n (D.listing.reduced i h b l) in
          (mixed-in-span q law n (rows_of n k ((drawing q n k t).leaves i b)) valid (zero_row n)).1
          (span-zero q law n (rows_of n k ((drawing q n k t).leaves i b)) valid)
