-- What holds of both numberings, under settings that are accepted; no part of the meaning.
--   Orderly N q n k == the numbering N: every index below the count has its own reduced matrix, and the matrices rise with it
--   either          == both are so
--   is-extended, is-ferrers == which of the two it is
--   chose-extended, chose-ferrers == the same, of a numbering's number
--   code-known      == it is one of the two
--   read-alike      == numbers that are both 1, or both not, are read as one numbering
--   typed-value     == the number of an index is the one it was made of
-- Assumes nothing.
use Rattle.std.specs.Prelude.{◌≡◌, refl, Bool, true, false, List, ℕ, ◌<◌, eqb}
use Rattle.std.proofs.Common.{arith, ap, eq-eqb, ne_eqb}
use Rattle.basics.specs.Choice.{pick}
use Rattle.field.specs.Laws.Small.{size_small}
use Rattle.counts.specs.Gaussian.{gaussian}
use Rattle.settings.specs.Settings.{settings_refusal}
use Rattle.settings.specs.Laws.Accepted.{accepted}
use Rattle.matrix.specs.Matrix.{Reduced}
use Rattle.extended.specs.Laws.Theorems as extended-theorems
use Rattle.ferrers.proofs.Theorems as ferrers-theorems
use Rattle.numbering.specs.declared.Numbering.{Numbering as Choice}
use Rattle.numbering.specs.declared.Numbering.TheVariants as choices
use Rattle.numbering.specs.Numbering.{extended, is_numbering, code, Numbering, extended_numbering, ferrers_numbering, numbering_of}
use Rattle.numbering.specs.Numbering.{index_in, index_value}

pub record Orderly (N : Numbering) (q n k : ℕ) : Type 0 where
  pub drawn-reduced : (i : ℕ) → i < gaussian q n k → Reduced q n k (N.matrix q n k i)
  pub index-of-drawn : (i : ℕ) → i < gaussian q n k → N.index q n k (N.matrix q n k i) ≡ i
  pub index_below : (m : List ℕ) → Reduced q n k m → N.index q n k m < gaussian q n k
  pub drawn-of-index : (m : List ℕ) → Reduced q n k m → N.matrix q n k (N.index q n k m) ≡ m
  pub drawn-rising : (i j : ℕ) → i < j → j < gaussian q n k → N.order q n k (N.matrix q n k i) (N.matrix q n k j)

pub is-extended : (t : ℕ) → t ≡ extended → extended_numbering ≡ numbering_of t
unfolding numbering_of
is-extended t e = rw (eq-eqb t extended e)

pub is-ferrers : (t : ℕ) → (t ≡ extended → ⊥) → ferrers_numbering ≡ numbering_of t
unfolding numbering_of
is-ferrers t e = rw (ne_eqb t extended e)

pub chose-extended : (c : Choice) → c ≡ choices.Extended → extended_numbering ≡ numbering_of (code c)
chose-extended c e = is-extended (code c) (ap code e)

pub chose-ferrers : (c : Choice) → c ≡ choices.Ferrers → ferrers_numbering ≡ numbering_of (code c)
chose-ferrers c e = is-ferrers (code c) (λ z. omega (arith, ap code e, z))

pub code-known : (c : Choice) → is_numbering (code c) ≡ true
unfolding is_numbering
code-known choices.Extended = refl
code-known choices.Ferrers = refl

pub read-alike : (a b : ℕ) → eqb a extended ≡ eqb b extended → numbering_of a ≡ numbering_of b
unfolding numbering_of
read-alike a b e = ap (λ x. pick x extended_numbering ferrers_numbering) e

pub either : (q n k t : ℕ) → settings_refusal q n k ≡ 0 → Orderly (numbering_of t) q n k
unfolding numbering_of
either q n k t settings = cases (eqb t extended)
  where
    large : 1 < q
    large = (size_small q (accepted q n k settings).size).0

    cases : (b : Bool) → Orderly (pick b extended_numbering ferrers_numbering) q n k
    cases true =
        record {
          drawn-reduced = extended-theorems.drawn-reduced q n k large;
          index-of-drawn = extended-theorems.index-of-drawn q n k large;
          index_below = λ m r. extended-theorems.index-below-count q n k large r;
          drawn-of-index = λ m r. extended-theorems.drawn-of-index q n k large r;
          drawn-rising = extended-theorems.drawn-rising q n k large;
        }
    cases false =
        record {
          drawn-reduced = λ i h. ferrers-theorems.drawn-reduced q n k i large h;
          index-of-drawn = λ i h. ferrers-theorems.index-of-drawn q n k i large h;
          index_below = λ m r. ferrers-theorems.index-below-count r;
          drawn-of-index = λ m r. ferrers-theorems.drawn-of-index r;
          drawn-rising = λ i j h b. ferrers-theorems.drawn-rising q n k i j large h b;
        }

pub typed-value : (t i : ℕ) → index_value (index_in t i) ≡ i
unfolding numbering_of
typed-value t i = cases (eqb t extended)
  where
    cases : (b : Bool) → index_value ((pick b extended_numbering ferrers_numbering).typed i) ≡ i
    cases true = refl
    cases false = refl
