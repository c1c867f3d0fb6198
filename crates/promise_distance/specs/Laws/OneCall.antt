-- One call more in a list of calls; no part of the meaning.
--   at_most_one == a call accepts one row or none
--   one_apart   == so the rows that the list accepts are at most 1 apart from those without it
-- Assumes nothing.
use Rattle.std.specs.Prelude.{◌≡◌, Bool, true, false, ◌⊎◌, ℕ, ◌≤◌, eqb}
use Rattle.std.proofs.Math.Path.{refl}
use Rattle.std.proofs.Common.{ap, sym, ◌∙◌, subst, inr, arith}
use mathlib.Core.List.{List, [], ◌∷◌, ◌++◌}
use Rattle.std.proofs.Math.Logic.Iff
use Rattle.std.proofs.Math.Logic.{inl}
use Rattle.basics.specs.Choice.{pick}
use Rattle.field.specs.FieldLaws.{Laws}
use Rattle.linear.specs.Span.{All, Row, SameSpan}
use Rattle.spaces.specs.Distance.{distance}
use Rattle.spaces.proofs.Laws.Distance.{distance-zero}
use Rattle.receiver.specs.Receiver.{Setup, setup_refusal, take_of, take_number, lent_answer}
use Rattle.receiver.specs.Laws.Held.{settings-laws}
use Rattle.promise_recovery.specs.Calls.{Call, take_value, take_lent, close, begun, accepted}
use Rattle.promise_recovery.proofs.Laws.After.{accepted-rows}
use Rattle.promise_pool.specs.Laws.TwoLists.{accepted-append}
use Rattle.promise_distance.specs.Laws.Rows.{row-dropped}

-- one row or none
picked : (b : Bool) (row : List ℕ) → (pick {A = List (List ℕ)} b (row ∷ []) [] ≡ []) ⊎ ((x : List ℕ) × (pick b (row ∷ []) [] ≡ x ∷ []))
picked true row = inr (row, refl)
picked false row = inl refl

module _ (s : Setup) (settings : setup_refusal s ≡ 0) where
  abbrev q : ℕ
  q = s.q

  abbrev n : ℕ
  n = s.n

  law : Laws q
  law = settings-laws q n s.k settings

  -- what a call accepts from a fresh Start
  at_most_one : (c : Call) → (accepted (begun s) (c ∷ []) ≡ []) ⊎ ((row : List ℕ) × (accepted (begun s) (c ∷ []) ≡ row ∷ []))
  unfolding accepted
  at_most_one (take_value o) = picked (eqb (take_number (take_of (begun s) o).answer) 0) o.row
  at_most_one (take_lent o) = picked (eqb (take_number (lent_answer (begun s) o)) 0) o.row
  at_most_one (close t) = inl refl

  -- the rows that are accepted with a call at a place
  placed : (es fs : List Call) (c : Call)
      → accepted (begun s) (es ++ (c ∷ fs))
      ≡ accepted (begun s) es ++ (accepted (begun s) (c ∷ []) ++ accepted (begun s) fs)
  placed es fs c =
      accepted-append s settings es (c ∷ fs) ∙ ap (λ x. accepted (begun s) es ++ x) (accepted-append s settings (c ∷ []) fs)

  pub one_apart : (es fs : List Call) (c : Call) → distance q n (accepted (begun s) (es ++ (c ∷ fs))) (accepted (begun s) (es ++ fs)) ≤ 1
  unfolding SameSpan
  one_apart es fs c = cases (at_most_one c)
    where
      us : List (List ℕ)
      us = accepted (begun s) (es ++ (c ∷ fs))

      vs : List (List ℕ)
      vs = accepted (begun s) (es ++ fs)

      hu : All (Row q n) us
      hu = accepted-rows s settings (es ++ (c ∷ fs))

      hv : All (Row q n) vs
      hv = accepted-rows s settings (es ++ fs)

      -- the rows of the longer list, by what the call accepts
      whole : (rows : List (List ℕ)) → accepted (begun s) (c ∷ []) ≡ rows
          → us ≡ accepted (begun s) es ++ (rows ++ accepted (begun s) fs)
      whole rows e = placed es fs c ∙ ap (λ x. accepted (begun s) es ++ (x ++ accepted (begun s) fs)) e

      cases : (accepted (begun s) (c ∷ []) ≡ []) ⊎ ((row : List ℕ) × (accepted (begun s) (c ∷ []) ≡ row ∷ []))
          → distance q n us vs ≤ 1
      cases (inl e) =
          let same = whole [] e ∙ sym (accepted-append s settings es fs) in
          let apart = (distance-zero q law n us vs hu hv).1 (subst (SameSpan q n us) same (λ v. Iff.rfl)) in
          omega (arith, apart)
      cases (inr (row, e)) =
          (row-dropped q law n us vs hu hv (accepted (begun s) es) (accepted (begun s) fs) row (whole (row ∷ []) e)
          (accepted-append s settings es fs)).0
