-- The walk tells what it should; no part of the meaning.
--   walk-tells      == after each number i of whole rows, of any matrix, for any q and n
-- Assumes nothing.
use Rattle.std.specs.Prelude.{◌≡◌, refl, Bool, true, false, List, ◌↔◌, ℕ, ◌+◌, ◌*◌, ◌-◌, ◌^◌, ◌<◌, ◌≤◌, T, length, get_or, take}
use Rattle.std.proofs.Math.Path.{ap, sym}
use Rattle.std.proofs.Common.{◌∙◌, arith, lt-ltb, ltb→lt}
use Rattle.std.proofs.Math.Logic.{⊎_elim}
use Rattle.std.proofs.Math.Seq.{length-take-le, get_or-take}
use Rattle.basics.specs.Laws.Choice.{holds, is_true}
use Rattle.basics.specs.Laws.Flat.{row_fits}
use Rattle.basics.specs.Laws.Order.{le-or-lt}
use Rattle.basics.specs.Laws.SumLaws.{sum_same}
use Rattle.matrix.specs.Matrix.{entry, Reduced, identifying, entries_below}
use Rattle.matrix.specs.Laws.Lead.{lead-same}
use Rattle.matrix.specs.Laws.Rows.{reduced-rows, rows-reduced, rows_same}
use Rattle.matrix.specs.Laws.Tests.{entries-below-true, reduced-exactly}
use Rattle.matrix.proofs.Laws.Vector.{identifying-rows}
use Rattle.matrix.proofs.Laws.VectorRows.{row_power}
use Rattle.walk.specs.Walk.{walked}
use Rattle.walk.specs.Tells.{Oversized, Tells}
use Rattle.walk.proofs.Laws.After.{After, walked-after}
use Rattle.walk.specs.declared.Walk.{Walk}

is_false : (b : Bool) → (T b → ⊥) → b ≡ false
is_false true f = absurd (f tt)
is_false false f = refl

module _ (q n : ℕ) (m : List ℕ) (i : ℕ) (long : i * n ≤ length m) where
  -- the first i rows
  first : List ℕ
  first = take (i * n) m

  same : (a : ℕ) → a < i → (j : ℕ) → j < n → entry n first a j ≡ entry n m a j
  unfolding first
  same a h j g = get_or-take (i * n) m (a * n + j) 0 (omega (arith, row_fits a i n h))

  size : length first ≡ i * n
  unfolding first
  size = length-take-le (i * n) m long

  small : (Oversized q m (i * n) → ⊥) → T (entries_below q first)
  unfolding first
  small none =
      holds _
      (entries-below-true q first
      (λ place h.
      let inside : place < i * n = omega (arith, size) in
      let at = get_or-take (i * n) m place 0 inside in
      ⊎_elim (λ l. absurd (none (place, (inside, omega (arith, at))))) (λ l. l) (le-or-lt q (get_or first place 0))))

  module _ (w : Walk) (known : After n m i w) where
    rows_told : (Oversized q m (i * n) → ⊥) → T w.reduced ↔ Reduced q n i first
    rows_told none = (
      λ t.
          let r = reduced-rows n i m (sym known.sound ∙ is_true _ t) in
          (reduced-exactly q n i first size (small none)).0 (holds _ (rows-reduced n i first (rows_same same r))),
      λ r.
          let t = (reduced-exactly q n i first size (small none)).1 r in
          holds _
          (known.sound
          ∙ rows-reduced n i m (rows_same (λ a h j g. sym (same a h j g)) (reduced-rows n i first (is_true _ t)))),
    )

    vector-told : Reduced q n i first → w.vector ≡ identifying n i first
    unfolding first
    vector-told r =
        let t = (rows_told none-oversized).1 r in
        known.added (is_true _ t)
        ∙ sum_same i (row_power n m) (row_power n first)
        (λ a h. ap (λ p. 2 ^ (n - 1 - p)) (sym (lead-same (entry n first a) (entry n m a) n (same a h))))
        ∙ sym (identifying-rows r)
      where
        none-oversized : Oversized q m (i * n) → ⊥
        none-oversized (place, (h, o)) = let at = get_or-take (i * n) m place 0 h in omega (arith, r.below place h, at)

    pub tells-after : Tells q n m i w
    unfolding first
    tells-after =
        record {
          entries = (λ t. (known.bounds q).0 (ltb→lt q w.bound t), λ o. holds _ (lt-ltb q w.bound ((known.bounds q).1 o)));
          rows = rows_told;
          vector = vector-told;
          no-vector = λ f. known.none (is_false _ f);
        }

pub walk-tells : (width q n : ℕ) (m : List ℕ) (i : ℕ) → 2 * n ≤ width → i * n ≤ length m → Tells q n m i (walked width n m i)
walk-tells width q n m i narrow long = tells-after q n m i long (walked width n m i) (walked-after width n narrow m i)
