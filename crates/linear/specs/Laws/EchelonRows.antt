-- Reduced rows told by the number of the row, as the definition of a reduced matrix tells them; no part of the meaning.
--   Stepped K at lead d rows == the rows are reduced: the row of number i is `get_or rows i d`
--   stepped-echelon, echelon-stepped == that is to be reduced as Echelon says
-- Assumes nothing.
use Rattle.std.specs.Prelude.{◌≡◌, refl, List, [], ◌∷◌, ℕ, zero, suc, ◌≤◌, ◌<◌, length, get_or}
use Rattle.std.proofs.Common.{ap, suc-le-suc, zero-lt-suc, le_of_suc-le-suc, not-suc-le-zero, arith}
use Rattle.linear.specs.Span.{All, none, more}
use Rattle.linear.specs.Laws.Every.{all_map, all-at, all_of}
use Rattle.linear.specs.Laws.Scalars.{Scalars}
use Rattle.linear.specs.Laws.Echelon.{Echelon, empty, under, echelon-before}

pub record Stepped {F A : Type 0} (K : Scalars F) (at : A → ℕ → F) (lead : A → ℕ) (d : A) (rows : List A) : Type 0 where
  pub before : (i : ℕ) → i < length rows → (j : ℕ) → j < lead (get_or rows i d) → at (get_or rows i d) j ≡ K.nought
  pub one : (i : ℕ) → i < length rows → at (get_or rows i d) (lead (get_or rows i d)) ≡ K.unit
  pub rise : (i : ℕ) → suc i < length rows → lead (get_or rows i d) < lead (get_or rows (suc i) d)
  pub alone : (i : ℕ) → i < length rows → (a : ℕ) → a < length rows → (a ≡ i → ⊥) → at (get_or rows a d) (lead (get_or rows i d)) ≡ K.nought

module _ {F A : Type 0} (K : Scalars F) (at : A → ℕ → F) (lead : A → ℕ) (d : A) where
  open K use {nought, unit}

  stepped-tail : (r : A) (rows : List A) → Stepped K at lead d (r ∷ rows) → Stepped K at lead d rows
  stepped-tail r rows s =
      record {
        before = λ i h. s.before (suc i) (suc-le-suc h);
        one = λ i h. s.one (suc i) (suc-le-suc h);
        rise = λ i h. s.rise (suc i) (suc-le-suc h);
        alone = λ i h a g ne. s.alone (suc i) (suc-le-suc h) (suc a) (suc-le-suc g) (λ e. ne (omega arith));
      }

  pub stepped-echelon : (rows : List A) (lo : ℕ) → (0 < length rows → lo ≤ lead (get_or rows 0 d)) → Stepped K at lead d rows
      → Echelon K at lead lo rows
  stepped-echelon [] lo h s = empty
  stepped-echelon (r ∷ rows) lo h s =
      under (h z) (s.before 0 z) (s.one 0 z) (all_of d rows (λ i g. s.alone (suc i) (suc-le-suc g) 0 z (λ e. omega arith)))
      (stepped-echelon rows (suc (lead r)) (λ g. s.rise 0 (suc-le-suc g)) (stepped-tail r rows s))
    where
      z : 0 < suc (length rows)
      z = zero-lt-suc (length rows)

  echelon-leads : {lo : ℕ} {rows : List A} → Echelon K at lead lo rows → All (λ r. lo ≤ lead r) rows
  echelon-leads empty = none
  echelon-leads (under l before one clear rest) = more l (all_map (λ r h. omega arith) (echelon-leads rest))

  at_before : {lo : ℕ} {rows : List A} → Echelon K at lead lo rows → (i : ℕ) → i < length rows → (j : ℕ) → j < lead (get_or rows i d)
      → at (get_or rows i d) j ≡ nought
  at_before empty i h = absurd (not-suc-le-zero h)
  at_before (under l before one clear rest) zero h = before
  at_before (under l before one clear rest) (suc i) h = at_before rest i (le_of_suc-le-suc h)

  at-lead : {lo : ℕ} {rows : List A} → Echelon K at lead lo rows → (i : ℕ) → i < length rows
      → at (get_or rows i d) (lead (get_or rows i d)) ≡ unit
  at-lead empty i h = absurd (not-suc-le-zero h)
  at-lead (under l before one clear rest) zero h = one
  at-lead (under l before one clear rest) (suc i) h = at-lead rest i (le_of_suc-le-suc h)

  leads-rise : {lo : ℕ} {rows : List A} → Echelon K at lead lo rows → (i : ℕ) → suc i < length rows
      → lead (get_or rows i d) < lead (get_or rows (suc i) d)
  leads-rise empty i h = absurd (not-suc-le-zero h)
  leads-rise (under l before one clear rest) zero h = all-at (echelon-leads rest) d 0 (le_of_suc-le-suc h)
  leads-rise (under l before one clear rest) (suc i) h = leads-rise rest i (le_of_suc-le-suc h)

  lead-alone : {lo : ℕ} {rows : List A} → Echelon K at lead lo rows → (i : ℕ) → i < length rows → (a : ℕ) → a < length rows
      → (a ≡ i → ⊥) → at (get_or rows a d) (lead (get_or rows i d)) ≡ nought
  lead-alone empty i h a g ne = absurd (not-suc-le-zero h)
  lead-alone (under l before one clear rest) zero h zero g ne = absurd (ne refl)
  lead-alone (under {r = r} l before one clear rest) zero h (suc a) g ne =
      all-at (echelon-before K at lead (lead r) (omega arith) rest) d a (le_of_suc-le-suc g)
  lead-alone (under l before one clear rest) (suc i) h zero g ne = all-at clear d i (le_of_suc-le-suc h)
  lead-alone (under l before one clear rest) (suc i) h (suc a) g ne =
      lead-alone rest i (le_of_suc-le-suc h) a (le_of_suc-le-suc g) (λ e. ne (ap suc e))

  pub echelon-stepped : {lo : ℕ} {rows : List A} → Echelon K at lead lo rows → Stepped K at lead d rows
  echelon-stepped ech = record { before = at_before ech; one = at-lead ech; rise = leads-rise ech; alone = lead-alone ech }
