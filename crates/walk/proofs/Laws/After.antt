-- What the walk knows after each whole row; no part of the meaning.
--   Least n m i p      == p is the least column to the right of the pivots of the first i rows
--   After n m i w      == w is what is known of the first i rows of m
--   same_test          == two tests that hold alike are equal
--   extends-exactly    == the next row extends them exactly where one row more is reduced
--   walked-after       == the walk over the first i rows knows this
-- Assumes nothing.
use Rattle.std.specs.Prelude.{◌≡◌, refl, Bool, true, false, List, ◌⊎◌, ltb, get_or}
use Rattle.std.proofs.Math.Path.{ap, ap₂}
use Rattle.std.proofs.Common.{◌∙◌, sym, subst, inl, inr, ⊎_elim, zero-mul, suc-mul, eq-or-lt_of_le, le_of_suc-le-suc, arith, lt-ltb, le-ltb}
use Prim.Native.Nat.{ℕ, zero, suc, ◌+◌, ◌*◌, ◌-◌, ◌^◌, ◌/◌, ◌%◌, ◌<◌, ◌≤◌, max}
use Rattle.std.specs.Int.Bits.{bit_or}
use Rattle.std.specs.Int.Count.{count_trailing_zeros}
use Rattle.basics.specs.Choice.{pick}
use Rattle.basics.specs.Sum.{sum, bit}
use Rattle.basics.specs.Laws.All.{all_below-start}
use Rattle.basics.specs.Laws.Order.{le-or-lt, trichotomy}
use Rattle.matrix.specs.Matrix.{entry, pivot, is_reduced}
use Rattle.matrix.specs.Laws.BitSum.{bits, bits_none, bits-or}
use Rattle.matrix.specs.Laws.Lead.{lead-nonzero}
use Rattle.matrix.specs.Laws.Rows.{reduced-rows, rows-reduced, rows-less, rows_more}
use Rattle.matrix.proofs.Laws.VectorRows.{row_power}
use Rattle.walk.specs.Walk.{extends, bounded, ended, walked}
use Rattle.walk.specs.Laws.Bound.{Bounds, bounds-none, bounds-joined}
use Rattle.walk.proofs.Laws.Code.{code_bit, one-lowest, more-lowest, none-lowest, above, above-clear, clear_above, two-bits}
use Rattle.walk.proofs.Laws.RowRead.{Read, row_read_lem}
use Rattle.walk.proofs.Laws.Ended.{Extends, extends-of, extends-true}
use Rattle.walk.specs.declared.Row.{Row}
use Rattle.walk.specs.declared.Walk.{Walk}

pub record Least (n : ℕ) (m : List ℕ) (i p : ℕ) : Type 0 where
  pub right : (a : ℕ) → a < i → pivot n m a < p
  pub first : (c : ℕ) → ((a : ℕ) → a < i → pivot n m a < c) → p ≤ c

pub record After (n : ℕ) (m : List ℕ) (i : ℕ) (w : Walk) : Type 0 where
  pub bounds : Bounds (λ place. get_or m place 0) (i * n) w.bound
  pub coded : w.code ≡ bits (2 * n) (above n m i)
  pub sound : w.reduced ≡ is_reduced n i m
  pub least : w.reduced ≡ true → Least n m i w.least
  pub added : w.reduced ≡ true → w.vector ≡ sum i (row_power n m)
  pub none : w.reduced ≡ false → w.vector ≡ 0

no-bit : (b : Bool) → bit b ≡ 0 → b ≡ false
no-bit true e = absurd (omega arith)
no-bit false e = refl

pub same_test : (a b : Bool) → (a ≡ true → b ≡ true) → (b ≡ true → a ≡ true) → a ≡ b
same_test true b f g = sym (f refl)
same_test false true f g = g refl
same_test false false f g = refl

module _ (width n : ℕ) (narrow : 2 * n ≤ width) {m : List ℕ} {i : ℕ} {w : Walk} {r : Row} (known : After n m i w)
    (row : Read n m i n r) where
  -- the zeros below the lowest bit of the row's code
  zeros : ℕ
  zeros = count_trailing_zeros width r.code

  zeros-one : pivot n m i < n → entry n m i (pivot n m i) ≡ 1 → zeros ≡ 2 * pivot n m i
  unfolding zeros
  zeros-one h e = ap (count_trailing_zeros width) row.coded ∙ one-lowest (entry n m i) width n narrow h e

  zeros-more : pivot n m i < n → 1 < entry n m i (pivot n m i) → zeros ≡ suc (2 * pivot n m i)
  unfolding zeros
  zeros-more h g = ap (count_trailing_zeros width) row.coded ∙ more-lowest (entry n m i) width n narrow h g

  zeros-none : n ≤ pivot n m i → zeros ≡ width
  unfolding zeros
  zeros-none h = ap (count_trailing_zeros width) row.coded ∙ none-lowest (entry n m i) width n narrow h

  -- a row that has its lowest bit in a column, at an even place, has its pivot there, and it is 1
  begun : zeros / 2 < n → zeros % 2 ≡ 0 → (pivot n m i < n) × (entry n m i (pivot n m i) ≡ 1) × (zeros ≡ 2 * pivot n m i)
  begun h even = cases (le-or-lt n (pivot n m i))
    where
      x : ℕ
      x = entry n m i (pivot n m i)

      inside : pivot n m i < n → (x < 1) ⊎ ((x ≡ 1) ⊎ (1 < x)) → (pivot n m i < n) × (x ≡ 1) × (zeros ≡ 2 * pivot n m i)
      inside l (inl s) = absurd (lead-nonzero (entry n m i) n l (omega arith))
      inside l (inr (inl e)) = (l, e, zeros-one l e)
      inside l (inr (inr g)) = absurd (omega (arith, zeros-more l g))

      cases : (n ≤ pivot n m i) ⊎ (pivot n m i < n) → (pivot n m i < n) × (x ≡ 1) × (zeros ≡ 2 * pivot n m i)
      cases (inl l) = absurd (omega (arith, zeros-none l))
      cases (inr l) = inside l (trichotomy x 1)

  -- the two bits of a column in the rows above
  column-above : (p : ℕ) → p < n → w.code / 2 ^ (2 * p) % 4 ≡ bit (above n m i (2 * p)) + 2 * bit (above n m i (suc (2 * p)))
  column-above p h = ap (λ v. v / 2 ^ (2 * p) % 4) known.coded ∙ two-bits (2 * n) (2 * p) (above n m i) (omega arith)

  more_rows : Extends n w zeros → is_reduced n (suc i) m ≡ true
  more_rows x =
      let (inside, one, at) = begun x.inside x.one in
      let p = pivot n m i in
      let clear : bit (above n m i (2 * p)) + 2 * bit (above n m i (suc (2 * p))) ≡ 0 =
      sym (column-above p inside) ∙ ap (λ z. w.code / 2 ^ z % 4) (sym at) ∙ x.clear in
      rows-reduced n (suc i) m
      (rows_more (reduced-rows n i m (sym known.sound ∙ x.sound)) inside one
      (λ a h. omega (arith, at, x.right, (known.least x.sound).right a h))
      (above-clear n m p i (no-bit (above n m i (2 * p)) (omega arith)) (no-bit (above n m i (suc (2 * p))) (omega arith))))

  fewer-rows : is_reduced n (suc i) m ≡ true → Extends n w zeros
  fewer-rows t =
      let rows = reduced-rows n (suc i) m t in
      let p = pivot n m i in
      let inside = rows.no-zero-row i (omega arith) in
      let at : zeros ≡ 2 * p = zeros-one inside (rows.pivot-one i (omega arith)) in
      let sound = known.sound ∙ rows-reduced n i m (rows-less rows) in
      let half : zeros / 2 ≡ p = omega arith in
      let empty : (b : ℕ) → b / 2 ≡ p → above n m i b ≡ false =
      λ b e. clear_above n m p i b e (λ a h. rows.zero-above a i h (omega arith)) in
      record {
        sound = sound;
        inside = omega arith;
        one = omega arith;
        right = omega (arith, half, (known.least sound).first p (λ a h. rows.rising a i h (omega arith)));
        clear =
            ap (λ z. w.code / 2 ^ z % 4) at ∙ column-above p inside
            ∙ ap₂ (λ a b. bit a + 2 * bit b) (empty (2 * p) (omega arith)) (empty (suc (2 * p)) (omega arith));
      }

  pub extends-exactly : extends n w (count_trailing_zeros width r.code) ≡ is_reduced n (suc i) m
  unfolding zeros
  extends-exactly =
      same_test _ _ (λ t. more_rows (extends-of n w zeros t)) (λ t. extends-true n w zeros (fewer-rows t))

  module _ (x : Extends n w zeros) where
    here : zeros / 2 ≡ pivot n m i
    here = let (inside, one, at) = begun x.inside x.one in omega arith

    next-least : Least n m (suc i) (suc (zeros / 2))
    next-least =
        record {
          right =
              λ a h.
              ⊎_elim (λ (e : a ≡ i). omega (arith, here, ap (pivot n m) e))
              (λ l. omega (arith, x.right, (known.least x.sound).right a l))
              (eq-or-lt_of_le (le_of_suc-le-suc h));
          first = λ c h. omega (arith, here, h i (omega arith));
        }

    next-added : w.vector + 2 ^ (n - 1 - zeros / 2) ≡ sum (suc i) (row_power n m)
    unfolding sum
    next-added = ap₂ ◌+◌ (known.added x.sound) (ap (λ p. 2 ^ (n - 1 - p)) here)

  next-bound : Bounds (λ place. get_or m place 0) (suc i * n) (bounded w r)
  next-bound = rw (suc-mul i n, row.here) (cases n refl)
    where
      cases : (c : ℕ) → c ≡ n
          → Bounds (λ place. get_or m place 0) (i * n + n) (pick (ltb 0 n) (max w.bound (suc r.greatest)) w.bound)
      cases zero e =
          let s : i * n ≡ i * n + n = omega arith in
          rw (le-ltb 0 n (omega arith)) (subst (λ c. Bounds (λ place. get_or m place 0) c w.bound) s known.bounds)
      cases (suc c) e =
          rw (lt-ltb 0 n (omega arith))
          (bounds-joined (λ place. get_or m place 0) (entry n m i) (i * n) n w.bound (suc r.greatest) (λ j. refl) known.bounds
          (row.bounded (omega arith)))

  pub after_more : After n m (suc i) (ended width n w r)
  unfolding ended zeros above
  after_more =
      record {
        bounds = next-bound;
        coded = ap₂ bit_or known.coded row.coded ∙ bits-or (2 * n) (above n m i) (code_bit (entry n m i));
        sound = extends-exactly;
        least = λ t. rw t (next-least (extends-of n w zeros t));
        added = λ t. rw t (next-added (extends-of n w zeros t));
        none = λ t. rw t;
      }

after_none : (width n : ℕ) (m : List ℕ) → After n m 0 (walked width n m 0)
unfolding walked sum above is_reduced
after_none width n m =
    record {
      bounds = rw (zero-mul n) (bounds-none (λ place. get_or m place 0));
      coded = sym (bits_none (2 * n) (above n m 0) (λ j h. refl));
      sound = sym (all_below-start _);
      least = λ _. record { right = λ a h. absurd (omega arith); first = λ c h. omega arith };
      added = λ _. refl;
      none = λ _. refl;
    }

pub walked-after : (width n : ℕ) → 2 * n ≤ width → (m : List ℕ) (i : ℕ) → After n m i (walked width n m i)
unfolding walked
walked-after width n narrow m zero = after_none width n m
walked-after width n narrow m (suc i) = after_more width n narrow (walked-after width n narrow m i) (row_read_lem n m i n)
