-- What two lists of rows span together, over any field.
--   Parted K at xs ys v == v is the sum of a vector that xs span and one that ys span
--   spanned-part    == what xs and ys span together is such a sum
--   spanned-first, spanned-last == what either list spans, both span
--   part-spanned    == such a sum is spanned by both together
-- Assumes nothing.
use Rattle.std.specs.Prelude.{◌≡◌, refl, List, [], ◌∷◌, ◌++◌, ℕ}
use Rattle.std.proofs.Common.{ap, ap₂, sym, ◌∙◌}
use Rattle.linear.specs.Laws.Scalars.{Scalars, nought-plus, unit-times}
use Rattle.linear.specs.Laws.FieldSpan.{Spanned, nothing, adding, spanned-nought, spanned-below, spanned-mix}

pub record Parted {F A : Type 0} (K : Scalars F) (at : A → ℕ → F) (xs ys : List A) (v : ℕ → F) : Type 0 where
  pub first : ℕ → F
  pub last : ℕ → F
  pub first-spanned : Spanned K at xs first
  pub last-spanned : Spanned K at ys last
  pub sum : (j : ℕ) → v j ≡ K.◌⊕◌ (first j) (last j)

module _ {F A : Type 0} (K : Scalars F) (at : A → ℕ → F) where
  open K use {nought, unit, ◌⊕◌, ◌⊗◌, plus_assoc}

  infixl 60 ◌⊕◌
  infixl 70 ◌⊗◌
  pub spanned-part : (xs ys : List A) {v : ℕ → F} → Spanned K at (xs ++ ys) v → Parted K at xs ys v
  spanned-part [] ys {v} s =
      record {
        first = λ j. nought;
        last = v;
        first-spanned = nothing (λ j. refl);
        last-spanned = s;
        sum = λ j. sym (nought-plus K (v j));
      }
  spanned-part (x ∷ xs) ys {v} (adding c w s e) =
      let p = spanned-part xs ys s in
      record {
        first = λ j. c ⊗ at x j ⊕ p.first j;
        last = p.last;
        first-spanned = adding c p.first p.first-spanned (λ j. refl);
        last-spanned = p.last-spanned;
        sum = λ j. e j ∙ ap (λ y. c ⊗ at x j ⊕ y) (p.sum j) ∙ sym (plus_assoc (c ⊗ at x j) (p.first j) (p.last j));
      }

  pub spanned-last : (xs ys : List A) {v : ℕ → F} → Spanned K at ys v → Spanned K at (xs ++ ys) v
  spanned-last [] ys s = s
  spanned-last (x ∷ xs) ys s = spanned-below K at (spanned-last xs ys s)

  pub spanned-first : {xs : List A} (ys : List A) {v : ℕ → F} → Spanned K at xs v → Spanned K at (xs ++ ys) v
  spanned-first ys {v} (nothing z) = spanned-nought K at ys v z
  spanned-first ys (adding c w s e) = adding c w (spanned-first ys s) e

  pub part-spanned : (xs ys : List A) {v : ℕ → F} → Parted K at xs ys v → Spanned K at (xs ++ ys) v
  part-spanned xs ys {v} p =
      spanned-mix K at v unit unit (spanned-first ys p.first-spanned) (spanned-last xs ys p.last-spanned)
      (λ j. p.sum j ∙ sym (ap₂ ◌⊕◌ (unit-times K (p.first j)) (unit-times K (p.last j))))
