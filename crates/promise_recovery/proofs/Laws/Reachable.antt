-- The receivers that Start and Take can leave after an accepted Start are exactly those that pass the test of Take and Close. Document 01:
-- "14 if the receiver is none that Start and Take can leave after an accepted Start".
--   reachable-holds   == such a receiver holds some rows
--   holding-reachable == the receiver that holds some rows is left by taking them one after the other
--   reachable-size    == such a receiver has 256 entries
--   after-reachable   == a list of calls from an accepted Start leaves one
--   reachable-exactly-well-formed == a receiver with 256 entries, as every real one has, is reachable exactly where the test holds
--   forged, formed    == so the test of one that is not fails, and that of one that is holds
-- Assumes nothing.
use Rattle.std.specs.Prelude.{◌≡◌, refl, true, false, List, [], ◌∷◌, ◌++◌, ◌↔◌, ℕ, length}
use Rattle.std.proofs.Common.{ap, sym, ◌∙◌, subst, append-nil, append_assoc}
use Rattle.basics.specs.Laws.Choice.{is_false}
use Rattle.linear.specs.Span.{All, none, more, Row}
use Rattle.linear.specs.Laws.Every.{all_append}
use Rattle.receiver.specs.Receiver.{Setup, Offer, offer, setup_of, setup_refusal, well_formed, held_rows, holding, take_of}
use Rattle.receiver.specs.Laws.Sound.{sound}
use Rattle.receiver.specs.Laws.Held.{holding-size}
use Rattle.receiver.specs.declared.Receiver.{Receiver}
use Rattle.promise_recovery.specs.Calls.{Call, take_value, begun, after, accepted, Reachable, started, taken, offered, fitting}
use Rattle.promise_recovery.proofs.Laws.FittingRows.{fitting-rows}
use Rattle.promise_recovery.proofs.Laws.HoldRows.{well-formed-holding, holding-of-well-formed, take-fits, take-taken}
use Rattle.promise_recovery.proofs.Laws.Course.{course}
use Rattle.promise_recovery.proofs.Laws.After.{begun-holds, after_holds, accepted-rows}

-- r holds some rows, under accepted settings
pub record Holds (r : Receiver) : Type 0 where
  pub setup : Setup
  pub settings : setup_refusal setup ≡ 0
  pub rows : List (List ℕ)
  pub each : All (Row setup.q setup.n) rows
  pub is : r ≡ holding setup rows

pub reachable-holds : {r : Receiver} → Reachable r → Holds r
unfolding after offered
reachable-holds (started s settings) =
    record { setup = s; settings = settings; rows = []; each = none; is = begun-holds s settings }
reachable-holds (taken r o reached) =
    let h = reachable-holds reached in
    record {
      setup = h.setup;
      settings = h.settings;
      rows = h.rows ++ fitting h.setup (o ∷ []);
      each = all_append h.each (fitting-rows h.setup (o ∷ []));
      is =
          ap (λ x. (take_of x o).receiver) h.is
          ∙ (course h.setup h.settings (take_value o ∷ []) h.rows h.each).left;
    }

pub reachable-size : {r : Receiver} → Reachable r → length r.entries ≡ 256
reachable-size reached =
    let h = reachable-holds reached in
    ap (λ r. length r.entries) h.is ∙ holding-size h.setup h.settings h.rows h.each

module _ (s : Setup) (settings : setup_refusal s ≡ 0) where
  -- a row offered for the receiver's pack
  abbrev own : List ℕ → Offer
  own row = offer s.pack row

  -- the rows taken one after the other
  grown : (held : List (List ℕ)) → All (Row s.q s.n) held → Reachable (holding s held)
      → {rows : List (List ℕ)} → All (Row s.q s.n) rows
      → Reachable (holding s (held ++ rows))
  grown held h reached none = subst (λ x. Reachable (holding s x)) (sym (append-nil held)) reached
  grown held h reached (more {x = row} {xs = rows} hr hs) =
      subst (λ x. Reachable (holding s x)) (append_assoc held (row ∷ []) rows)
      (grown (held ++ (row ∷ [])) (all_append h (more hr none))
      (subst Reachable (take-taken s settings held h (own row) (take-fits s settings held h (own row) refl hr)).0
      (taken (holding s held) (own row) reached)) hs)

  pub holding-reachable : (rows : List (List ℕ)) → All (Row s.q s.n) rows → Reachable (holding s rows)
  holding-reachable rows h = grown [] none (subst Reachable (begun-holds s settings) (started s settings)) h

pub after-reachable : (s : Setup) → setup_refusal s ≡ 0 → (cs : List Call) → Reachable (after (begun s) cs)
after-reachable s settings cs =
    subst Reachable (sym (after_holds s settings cs)) (holding-reachable s settings (accepted (begun s) cs) (accepted-rows s settings cs))

pub reachable-exactly-well-formed : (r : Receiver) → length r.entries ≡ 256 → Reachable r ↔ (well_formed r ≡ true)
reachable-exactly-well-formed r size = (there, back)
  where
    there : Reachable r → well_formed r ≡ true
    there reached =
        let h = reachable-holds reached in
        ap well_formed h.is ∙ well-formed-holding h.setup h.settings h.rows h.each

    back : well_formed r ≡ true → Reachable r
    back w =
        let h = holding-of-well-formed r size w in
        subst Reachable (sym h.0) (holding-reachable (setup_of r) (sound r size w).settings (held_rows r) h.1)

module _ (r : Receiver) (size : length r.entries ≡ 256) where
  pub forged : (Reachable r → ⊥) → well_formed r ≡ false
  forged h = is_false (well_formed r) (λ w. h ((reachable-exactly-well-formed r size).1 w))

  pub formed : Reachable r → well_formed r ≡ true
  formed = (reachable-exactly-well-formed r size).0
