-- The answer for a span, case by case; no part of the meaning.
--   space-few, space-many, space-whole == fewer than k dimensions; more; k
--   space-dimension, space-vector == it tells the dimension d, and the identifying vector of m
--   space-told, refused-told == what such an answer tells, where no refusal before 8 applies, and where one does
--   received-told == what it tells, refused or not
--   received-refused == what is answered with a refusal
--   told-ones   == the vector that is told has as many ones as the dimension that is told says
-- Assumes nothing.
use Rattle.std.specs.Prelude.{◌≡◌, List, [], ◌∷◌, ℕ, ◌<◌, ◌≤◌, Ok, Err}
use Rattle.std.proofs.Math.Path.{refl, subst}
use Rattle.std.proofs.Common.{ap, ◌∙◌, sym, arith}
use Rattle.std.proofs.Math.Logic.{⊎_elim}
use Rattle.std.proofs.Math.Decide.{ℕ_discrete}
use Rattle.std.specs.Int.Count.{ones}
use borrow.Author.Tests.{lt-ltb, le-ltb, le-leb, lt-leb}
use Rattle.basics.specs.Laws.Order.{le-or-lt}
use Rattle.refusal.specs.Refusal.{first, unless_refused, too_few_refusal, too_many_refusal, number, named}
use Rattle.refusal.specs.Laws.First.{first-refused, first-passed, test-refused, test-passed, first-none, first_one, kept, done, Known}
use Rattle.refusal.specs.Laws.First.{number-positive, named-number}
use Rattle.refusal.specs.declared.Refusal.{Refusal}
use Rattle.matrix.specs.Matrix.{Reduced, identifying}
use Rattle.matrix.specs.Laws.VectorOnes.{identifying-ones}
use Rattle.numbering.specs.Numbering.{index_of, index_in}
use Rattle.numbering.specs.Laws.Either.{typed-value}
use Rattle.reduce.specs.Reduce.{space_of}
use Rattle.receive.specs.Answer.{space_refusal, space_answer, received_number, received_index, received_dimension, received_vector, Told}
use Rattle.receive.specs.Answer.{Received, received}
use Rattle.receive.specs.declared.Unreceived.TheVariants.{TooFew, TooMany, Refused}

-- where nothing is refused, v has d ones; and 0 has none
pub ones-unless : (r d v : ℕ) → (r ≡ 0 → ones v ≡ d) → ones (unless_refused r v 0) ≡ unless_refused r d 0
unfolding ones
ones-unless r d v e = cases (ℕ_discrete r 0)
  where
    cases : Dec (r ≡ 0) → ones (unless_refused r v 0) ≡ unless_refused r d 0
    cases (yes z) = ap ones (sym (done r v 0 z)) ∙ e z ∙ done r d 0 z
    cases (no z) = ap ones (sym (kept r v 0 z)) ∙ kept r d 0 z

pub received-refused : (r : ℕ) (a : Received) (refusal : Refusal) → number refusal ≡ r → Err (Refused refusal) ≡ received r a
received-refused r a refusal e =
    ap (λ x. Err (Refused x)) (sym (named-number refusal) ∙ ap named e)
    ∙ kept r a (Err (Refused (named r))) (λ z. number-positive refusal (e ∙ z))

module _ (q n k t d : ℕ) (m : List ℕ) where
  pub space-few : d < k → Err (TooFew (space_of n d m)) ≡ space_answer q n k t d m
  unfolding space_answer
  space-few h = rw (lt-ltb d k h)

  pub space-many : k ≤ d → k < d → Err (TooMany (space_of n d m)) ≡ space_answer q n k t d m
  unfolding space_answer
  space-many l h = rw (le-ltb d k l, lt-ltb k d h)

  pub space-whole : k ≤ d → d ≤ k → Ok (index_in t (index_of q n k t m), space_of n d m) ≡ space_answer q n k t d m
  unfolding space_answer
  space-whole l h = rw (le-ltb d k l, le-ltb k d h)

  -- the answer x, whose number is y
  told : (x : Received) (y r : ℕ) → r ≡ 0 → space_refusal k d ≡ y → received_number x ≡ y
      → received_index x ≡ unless_refused y (index_of q n k t m) 0
      → received_dimension x ≡ d → received_vector x ≡ identifying n d m → Told q n k t d m r x
  told x y r z s number index dimension vector =
      let passed : first (r ∷ space_refusal k d ∷ []) ≡ y = first-passed _ _ z ∙ first_one _ ∙ s in
      record {
        number = number ∙ sym passed;
        index = index ∙ ap (λ w. unless_refused w (index_of q n k t m) 0) (sym passed);
        dimension = dimension ∙ done r d 0 z;
        vector = vector ∙ done r (identifying n d m) 0 z;
      }

  pub space-told : (r : ℕ) → r ≡ 0 → Told q n k t d m r (space_answer q n k t d m)
  unfolding space_refusal
  space-told r z =
      ⊎_elim (λ l. ⊎_elim (whole l) (many l) (le-or-lt d k)) few (le-or-lt k d)
    where
      few : d < k → Told q n k t d m r (space_answer q n k t d m)
      few h =
          subst (Told q n k t d m r) (space-few h)
          (told (Err (TooFew (space_of n d m))) too_few_refusal r z (test-refused _ _ _ tt (lt-leb k d h)) refl
          (kept too_few_refusal (index_of q n k t m) 0 (λ x. absurd (omega (arith, x)))) refl refl)

      many : k ≤ d → k < d → Told q n k t d m r (space_answer q n k t d m)
      many l h =
          subst (Told q n k t d m r) (space-many l h)
          (told (Err (TooMany (space_of n d m))) too_many_refusal r z
          (test-passed _ _ _ (le-leb k d l) ∙ test-refused _ _ _ tt (lt-leb d k h)) refl
          (kept too_many_refusal (index_of q n k t m) 0 (λ x. absurd (omega (arith, x)))) refl refl)

      whole : k ≤ d → d ≤ k → Told q n k t d m r (space_answer q n k t d m)
      whole l h =
          subst (Told q n k t d m r) (space-whole l h)
          (told (Ok (index_in t (index_of q n k t m), space_of n d m)) 0 r z
          (test-passed _ _ _ (le-leb k d l) ∙ test-passed _ _ _ (le-leb d k h) ∙ first-none) refl
          (typed-value t (index_of q n k t m) ∙ done 0 (index_of q n k t m) 0 refl) refl refl)

  pub refused-told : (r : ℕ) → Known r → (r ≡ 0 → ⊥) → Told q n k t d m r (Err (Refused (named r)))
  refused-told r known z =
      let same : first (r ∷ space_refusal k d ∷ []) ≡ r = first-refused _ _ z in
      record {
        number = known z ∙ sym same;
        index = kept r (index_of q n k t m) 0 z ∙ ap (λ w. unless_refused w (index_of q n k t m) 0) (sym same);
        dimension = kept r d 0 z;
        vector = kept r (identifying n d m) 0 z;
      }

  pub received-told : (r : ℕ) → Known r → Told q n k t d m r (received r (space_answer q n k t d m))
  received-told r known = cases (ℕ_discrete r 0)
    where
      cases : Dec (r ≡ 0) → Told q n k t d m r (received r (space_answer q n k t d m))
      cases (yes z) = subst (Told q n k t d m r) (done r _ _ z) (space-told r z)
      cases (no z) = subst (Told q n k t d m r) (kept r _ _ z) (refused-told r known z)

pub space-dimension : (q n k t d : ℕ) (m : List ℕ) → received_dimension (space_answer q n k t d m) ≡ d
space-dimension q n k t d m = (space-told q n k t d m 0 refl).dimension ∙ sym (done 0 d 0 refl)

pub space-vector : (q n k t d : ℕ) (m : List ℕ) → received_vector (space_answer q n k t d m) ≡ identifying n d m
space-vector q n k t d m = (space-told q n k t d m 0 refl).vector ∙ sym (done 0 (identifying n d m) 0 refl)

pub told-ones : (q n k t d : ℕ) (m : List ℕ) (r : ℕ) (a : Received) → Told q n k t d m r a → (r ≡ 0 → Reduced q n d m)
    → ones (received_vector a) ≡ received_dimension a
told-ones q n k t d m r a x R = ap ones x.vector ∙ ones-unless r d (identifying n d m) (λ z. identifying-ones (R z)) ∙ sym x.dimension
