-- The walk over a whole matrix; no part of the meaning.
--   whole-entries   == it tells that no entry is q or more exactly where the test of the entries holds
--   whole-rows      == and if none is, that the matrix is reduced exactly where that test does
--   whole-vector    == and its identifying vector where it is, else 0
-- Assumes nothing.
use Rattle.std.specs.Prelude.{◌≡◌, refl, Bool, true, false, not, List, ℕ, ◌*◌, ◌≤◌, T, length, get_or, take}
use Rattle.std.proofs.Common.{ap, ◌∙◌, sym, subst, ⊎_elim, le_of_eq, arith}
use Rattle.std.proofs.Math.Seq.{take-length}
use Rattle.basics.specs.Choice.{pick}
use Rattle.basics.specs.Laws.Choice.{holds, is_true}
use Rattle.basics.specs.Laws.Order.{le-or-lt}
use Rattle.matrix.specs.Matrix.{Reduced, is_reduced, identifying, entries_below}
use Rattle.matrix.specs.Laws.Tests.{entries_below_lem, entries-below-true, reduced-exactly}
use Rattle.walk.specs.Walk.{walked, oversized}
use Rattle.walk.specs.Tells.{Oversized, Tells}
use Rattle.walk.proofs.Laws.After.{same_test}
use Rattle.walk.proofs.Laws.Tells.{walk-tells}

other_test : (a b : Bool) → (T a → T b → ⊥) → ((T b → ⊥) → T a) → a ≡ not b
other_test true true f g = absurd (f tt tt)
other_test true false f g = refl
other_test false true f g = refl
other_test false false f g = absurd (g (λ t. t))

module _ (width q n k : ℕ) (m : List ℕ) (narrow : 2 * n ≤ width) (sized : length m ≡ k * n) where
  told : Tells q n m k (walked width n m k)
  told = walk-tells width q n m k narrow (le_of_eq (sym sized))

  whole : take (k * n) m ≡ m
  whole = ap (λ c. take c m) (sym sized) ∙ take-length m

  none-oversized : T (entries_below q m) → Oversized q m (k * n) → ⊥
  none-oversized t (place, (h, o)) = omega (arith, entries_below_lem q m t place (omega (arith, sized)))

  told-vector : Reduced q n k m → (walked width n m k).vector ≡ identifying n k m
  told-vector r = told.vector (subst (Reduced q n k) (sym whole) r) ∙ ap (identifying n k) whole

  pub whole-entries : entries_below q m ≡ not (oversized q (walked width n m k))
  whole-entries =
      other_test (entries_below q m) (oversized q (walked width n m k)) (λ t o. none-oversized t (told.entries.0 o))
      (λ none.
      holds _
      (entries-below-true q m
      (λ place h.
      ⊎_elim (λ l. absurd (none (told.entries.1 (place, (omega (arith, sized), l))))) (λ l. l) (le-or-lt q (get_or m place 0)))))

  pub whole-rows : entries_below q m ≡ true → (walked width n m k).reduced ≡ is_reduced n k m
  whole-rows e =
      let below = holds _ e in
      let rows = told.rows (none-oversized below) in
      let exactly = reduced-exactly q n k m sized below in
      same_test (walked width n m k).reduced (is_reduced n k m)
      (λ t. is_true _ (exactly.1 (subst (Reduced q n k) whole (rows.0 (holds _ t)))))
      (λ t. is_true _ (rows.1 (subst (Reduced q n k) (sym whole) (exactly.0 (holds _ t)))))

  pub whole-vector : entries_below q m ≡ true → (walked width n m k).vector ≡ pick (is_reduced n k m) (identifying n k m) 0
  whole-vector e = cases (is_reduced n k m) refl
    where
      cases : (b : Bool) → is_reduced n k m ≡ b → (walked width n m k).vector ≡ pick b (identifying n k m) 0
      cases true t = told-vector ((reduced-exactly q n k m sized (holds _ e)).0 (holds _ t))
      cases false f = told.no-vector (λ t. subst T (whole-rows e ∙ f) t)
