-- The first place where a function is not 0; no part of the meaning.
--   lead-le      == it is at most n
--   lead-before  == before it the function is 0
--   lead-nonzero == at it the function is not 0, if it is below n
--   lead-unique  == a place with these properties is it
--   lead-same    == two functions that agree below n have the same
-- Assumes nothing.
use Rattle.std.specs.Prelude.{◌≡◌, refl, Bool, true, false, ◌⊎◌, ℕ, zero, suc, ◌+◌, ◌≤◌, ◌<◌, eqb}
use Rattle.std.proofs.Common.{ap, sym, ◌∙◌, inl, inr, arith, eqb-true}
use Rattle.std.proofs.lemmas.Bool.{eqb-false}
use Rattle.basics.specs.Choice.{pick}
use Rattle.basics.specs.Laws.Order.{trichotomy, le-or-lt}
use Rattle.matrix.specs.Matrix.{lead_from, lead}

-- what is said of the first place, for a walk that starts at j with `left` places to go
record First (f : ℕ → ℕ) (j left place : ℕ) : Type 0 where
  reach : place ≤ j + left
  start : j ≤ place
  before : (i : ℕ) → j ≤ i → i < place → f i ≡ 0
  nonzero : place < j + left → f place ≡ 0 → ⊥

first : (f : ℕ → ℕ) (j left : ℕ) → First f j left (lead_from f j left)
unfolding lead_from
first f j zero =
    record { reach = omega arith; start = omega arith; before = λ i h g. absurd (omega arith); nonzero = λ h. absurd (omega arith) }
first f j (suc left) = step (eqb (f j) 0) refl (first f (suc j) left)
  where
    at-start : eqb (f j) 0 ≡ true → First f (suc j) left (lead_from f (suc j) left) → (i : ℕ) → j ≤ i → i < lead_from f (suc j) left
        → (suc j ≤ i) ⊎ (i < suc j) → f i ≡ 0
    at-start e h i l g (inl more) = h.before i more g
    at-start e h i l g (inr less) = ap f (omega arith) ∙ eqb-true (f j) 0 e

    step : (b : Bool) → eqb (f j) 0 ≡ b → First f (suc j) left (lead_from f (suc j) left)
        → First f j (suc left) (pick b (lead_from f (suc j) left) j)
    step true e h =
        record {
          reach = omega (arith, h.reach);
          start = omega (arith, h.start);
          before = λ i l g. at-start e h i l g (le-or-lt (suc j) i);
          nonzero = λ l. h.nonzero (omega arith);
        }
    step false e h =
        record { reach = omega arith; start = omega arith; before = λ i l g. absurd (omega arith); nonzero = λ l. eqb-false (f j) 0 e }

module _ (f : ℕ → ℕ) (n : ℕ) where
  whole : First f 0 n (lead f n)
  unfolding lead
  whole = first f 0 n

  pub lead-le : lead f n ≤ n
  lead-le = omega (arith, whole.reach)

  pub lead-before : (j : ℕ) → j < lead f n → f j ≡ 0
  lead-before j h = whole.before j (omega arith) h

  pub lead-nonzero : lead f n < n → f (lead f n) ≡ 0 → ⊥
  lead-nonzero h = whole.nonzero (omega arith)

  pub lead-unique : (place : ℕ) → place ≤ n → ((j : ℕ) → j < place → f j ≡ 0) → (place < n → f place ≡ 0 → ⊥) → lead f n ≡ place
  lead-unique place h before nonzero = cases (trichotomy (lead f n) place)
    where
      cases : (lead f n < place) ⊎ ((lead f n ≡ place) ⊎ (place < lead f n)) → lead f n ≡ place
      cases (inl less) = absurd (lead-nonzero (omega arith) (before (lead f n) less))
      cases (inr (inl e)) = e
      cases (inr (inr more)) = absurd (nonzero (omega (arith, lead-le)) (lead-before place more))

pub lead-same : (f g : ℕ → ℕ) (n : ℕ) → ((j : ℕ) → j < n → f j ≡ g j) → lead f n ≡ lead g n
lead-same f g n e =
    lead-unique f n (lead g n) (lead-le g n) (λ j h. e j (omega (arith, lead-le g n)) ∙ lead-before g n j h)
    (λ h z. lead-nonzero g n h (sym (e (lead g n) h) ∙ z))
