-- Order 10, of what receivers hold. Each is about lists of calls from a fresh Start with accepted settings, as demand 3 reads them; the
-- rows may be anything.
--   held-measured  == the distance of what two receivers hold is not refused, and is that of the rows that the two accepted
--   one-call-more  == one call more, at any place of a list, moves the space held by a distance of at most 1
--   one-call-other == one call replaced by any other moves it by at most 2
-- Assumes nothing.
use Rattle.std.specs.Prelude.{◌≡◌, List, ◌∷◌, ◌++◌, ◌≤◌}
use Rattle.std.proofs.Common.{sym, subst₂, arith}
use Rattle.spaces.specs.Distance.{distance}
use Rattle.spaces.proofs.Laws.Distance.{distance-symmetric, distance-triangle}
use Rattle.distance.specs.Distance.{distance_number, distance_value}
use Rattle.receiver.specs.Receiver.{Setup, setup_refusal}
use Rattle.receiver.specs.Laws.Held.{settings-laws}
use Rattle.promise_recovery.specs.Calls.{Call, begun, accepted}
use Rattle.promise_recovery.proofs.Laws.After.{after_holds, accepted-rows}
use Rattle.promise_distance.specs.Apart.{held, measured}
use Rattle.promise_distance.specs.Laws.Held.{holding-measured}
use Rattle.promise_distance.specs.Laws.OneCall.{one_apart}

module _ (s : Setup) (settings : setup_refusal s ≡ 0) where
  pub held-measured : (cs ds : List Call) → (distance_number (measured s cs ds) ≡ 0)
      × (distance_value (measured s cs ds) ≡ distance s.q s.n (accepted (begun s) cs) (accepted (begun s) ds))
  held-measured cs ds =
      subst₂
      (λ a b.
      (distance_number (held s a b) ≡ 0)
      × (distance_value (held s a b) ≡ distance s.q s.n (accepted (begun s) cs) (accepted (begun s) ds)))
      (sym (after_holds s settings cs)) (sym (after_holds s settings ds))
      (holding-measured s settings (accepted (begun s) cs) (accepted (begun s) ds) (accepted-rows s settings cs) (accepted-rows s settings ds))

  pub one-call-more : (es fs : List Call) (c : Call) → distance_value (measured s (es ++ (c ∷ fs)) (es ++ fs)) ≤ 1
  one-call-more es fs c = omega (arith, (held-measured (es ++ (c ∷ fs)) (es ++ fs)).1, one_apart s settings es fs c)

  pub one-call-other : (es fs : List Call) (c d : Call) → distance_value (measured s (es ++ (c ∷ fs)) (es ++ (d ∷ fs))) ≤ 2
  one-call-other es fs c d =
      let law = settings-laws s.q s.n s.k settings in
      let us = accepted (begun s) (es ++ (c ∷ fs)) in
      let ws = accepted (begun s) (es ++ fs) in
      let vs = accepted (begun s) (es ++ (d ∷ fs)) in
      let hu = accepted-rows s settings (es ++ (c ∷ fs)) in
      let hw = accepted-rows s settings (es ++ fs) in
      let hv = accepted-rows s settings (es ++ (d ∷ fs)) in
      omega (
        arith,
        (held-measured (es ++ (c ∷ fs)) (es ++ (d ∷ fs))).1,
        distance-triangle s.q law s.n us ws vs hu hw hv,
        distance-symmetric s.q law s.n ws vs hw hv,
        one_apart s settings es fs c,
        one_apart s settings es fs d,
      )
