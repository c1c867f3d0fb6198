-- A list of tests: which refusal it comes to, and what holds where it comes to none. No part of the meaning.
--   first-refused, first-passed == the first of the list applies; it is 0, and the rest decides
--   test-refused, test-passed   == the same of a test
--   positive                    == a number above 0 is a refusal
--   first-none, first_one       == no test is left; one is
--   first_head, first_tail      == tests that are a definition of their own: they stand first; they stand last
--   first-zero, test_zero       == the list comes to no refusal: not the first, and none of the rest
--   kept, done                  == what is answered or left, refused or not
--   told-number, told-value     == the number and a value of such an answer
--   number-positive, named-number == a refusal's number is not 0, and names it
--   refused, accepted           == what a call answers whose test came to a refusal, and to none
--   Known r                     == r is 0 or a refusal's number
--   known-none, -test, -first   == so is what no test comes to, one test, and a list of them
-- Assumes nothing.
use Rattle.std.specs.Prelude.{◌≡◌, refl, Bool, true, false, List, [], ◌∷◌, ℕ, T, ltb, Ok, Err}
use Rattle.std.proofs.Common.{ap, sym, ◌∙◌, eq-eqb, ne_eqb}
use Rattle.std.proofs.Math.Decide.{ℕ_discrete}
use Rattle.refusal.specs.Refusal.{refuse_unless, first, unless_refused, number, among, named, answered}
use Rattle.refusal.specs.declared.Refusal.{Refusal}
use Rattle.refusal.specs.declared.Refusal.TheVariants.{FieldSize, Range, Count, Length, Index, Entry, NotReduced, TooFew, TooMany}
use Rattle.refusal.specs.declared.Refusal.TheVariants.{Numbering, Line, Listing, RowCount, Receiver, Mismatch, Pack}

pub first-none : first [] ≡ 0
unfolding first
first-none = refl

module _ (refusal : ℕ) (rest : List ℕ) where
  pub first-refused : (refusal ≡ 0 → ⊥) → first (refusal ∷ rest) ≡ refusal
  unfolding first
  first-refused z = rw (ne_eqb refusal 0 z)

  pub first-passed : refusal ≡ 0 → first (refusal ∷ rest) ≡ first rest
  unfolding first
  first-passed z = rw (eq-eqb refusal 0 z)

  pub first-zero : first (refusal ∷ rest) ≡ 0 → (refusal ≡ 0) × (first rest ≡ 0)
  first-zero e = cases (ℕ_discrete refusal 0)
    where
      cases : Dec (refusal ≡ 0) → (refusal ≡ 0) × (first rest ≡ 0)
      cases (yes z) = (z, sym (first-passed z) ∙ e)
      cases (no z) = absurd (z (sym (first-refused z) ∙ e))

pub first_one : (refusal : ℕ) → first (refusal ∷ []) ≡ refusal
first_one refusal = cases (ℕ_discrete refusal 0)
  where
    cases : Dec (refusal ≡ 0) → first (refusal ∷ []) ≡ refusal
    cases (yes z) = first-passed refusal [] z ∙ first-none ∙ sym z
    cases (no z) = first-refused refusal [] z

pub first_head : (a b : ℕ) (rest : List ℕ) → first (first (a ∷ b ∷ []) ∷ rest) ≡ first (a ∷ b ∷ rest)
first_head a b rest = cases (ℕ_discrete a 0)
  where
    cases : Dec (a ≡ 0) → first (first (a ∷ b ∷ []) ∷ rest) ≡ first (a ∷ b ∷ rest)
    cases (yes z) = ap (λ x. first (x ∷ rest)) (first-passed a (b ∷ []) z ∙ first_one b) ∙ sym (first-passed a (b ∷ rest) z)
    cases (no z) = ap (λ x. first (x ∷ rest)) (first-refused a (b ∷ []) z) ∙ first-refused a rest z ∙ sym (first-refused a (b ∷ rest) z)

pub first_tail : (a : ℕ) (rest : List ℕ) → first (a ∷ first rest ∷ []) ≡ first (a ∷ rest)
first_tail a rest = cases (ℕ_discrete a 0)
  where
    cases : Dec (a ≡ 0) → first (a ∷ first rest ∷ []) ≡ first (a ∷ rest)
    cases (yes z) = first-passed a (first rest ∷ []) z ∙ first_one (first rest) ∙ sym (first-passed a rest z)
    cases (no z) = first-refused a (first rest ∷ []) z ∙ sym (first-refused a rest z)

pub positive : (refusal : ℕ) → T (ltb 0 refusal) → refusal ≡ 0 → ⊥
positive refusal t e = rw e at t

pub test-refused : (b : Bool) (refusal : ℕ) (rest : List ℕ) → T (ltb 0 refusal) → b ≡ false
    → first (refuse_unless b refusal ∷ rest) ≡ refusal
unfolding refuse_unless
test-refused b refusal rest t e = rw e (first-refused refusal rest (positive refusal t))

pub test-passed : (b : Bool) (refusal : ℕ) (rest : List ℕ) → b ≡ true → first (refuse_unless b refusal ∷ rest) ≡ first rest
unfolding refuse_unless
test-passed b refusal rest e = rw e (first-passed 0 rest refl)

pub test_zero : (b : Bool) (refusal : ℕ) (rest : List ℕ) → T (ltb 0 refusal) → first (refuse_unless b refusal ∷ rest) ≡ 0
    → (b ≡ true) × (first rest ≡ 0)
unfolding refuse_unless
test_zero true refusal rest t e = (refl, (first-zero 0 rest e).1)
test_zero false refusal rest t e = absurd (positive refusal t (first-zero refusal rest e).0)

module _ {A : Type 0} (refusal : ℕ) (answer other : A) where
  pub kept : (refusal ≡ 0 → ⊥) → other ≡ unless_refused refusal answer other
  unfolding unless_refused
  kept z = rw (ne_eqb refusal 0 z)

  pub done : refusal ≡ 0 → answer ≡ unless_refused refusal answer other
  unfolding unless_refused
  done z = rw (eq-eqb refusal 0 z)

  pub told-number : (number : A → ℕ) → number answer ≡ 0 → ((refusal ≡ 0 → ⊥) → number other ≡ refusal)
      → number (unless_refused refusal answer other) ≡ refusal
  told-number number none same = cases (ℕ_discrete refusal 0)
    where
      cases : Dec (refusal ≡ 0) → number (unless_refused refusal answer other) ≡ refusal
      cases (yes z) = ap number (sym (done z)) ∙ none ∙ sym z
      cases (no z) = ap number (sym (kept z)) ∙ same z

  pub told-value : (value : A → ℕ) (v : ℕ) → value answer ≡ v → value other ≡ 0
      → value (unless_refused refusal answer other) ≡ unless_refused refusal v 0
  unfolding unless_refused
  told-value value v same none = cases (ℕ_discrete refusal 0)
    where
      cases : Dec (refusal ≡ 0) → value (unless_refused refusal answer other) ≡ unless_refused refusal v 0
      cases (yes z) = rw (eq-eqb refusal 0 z) same
      cases (no z) = rw (ne_eqb refusal 0 z) none

pub number-positive : (r : Refusal) → number r ≡ 0 → ⊥
number-positive FieldSize = positive (number FieldSize) tt
number-positive Range = positive (number Range) tt
number-positive Count = positive (number Count) tt
number-positive Length = positive (number Length) tt
number-positive Index = positive (number Index) tt
number-positive Entry = positive (number Entry) tt
number-positive NotReduced = positive (number NotReduced) tt
number-positive TooFew = positive (number TooFew) tt
number-positive TooMany = positive (number TooMany) tt
number-positive Numbering = positive (number Numbering) tt
number-positive Line = positive (number Line) tt
number-positive Listing = positive (number Listing) tt
number-positive RowCount = positive (number RowCount) tt
number-positive Receiver = positive (number Receiver) tt
number-positive Mismatch = positive (number Mismatch) tt
number-positive Pack = positive (number Pack) tt

pub named-number : (r : Refusal) → named (number r) ≡ r
unfolding named among
named-number FieldSize = refl
named-number Range = refl
named-number Count = refl
named-number Length = refl
named-number Index = refl
named-number Entry = refl
named-number NotReduced = refl
named-number TooFew = refl
named-number TooMany = refl
named-number Numbering = refl
named-number Line = refl
named-number Listing = refl
named-number RowCount = refl
named-number Receiver = refl
named-number Mismatch = refl
named-number Pack = refl

module _ {A : Type 0} (r : ℕ) (answer : A) where
  pub refused : (refusal : Refusal) → number refusal ≡ r → Err refusal ≡ answered r answer
  refused refusal e =
      ap Err (sym (named-number refusal) ∙ ap named e) ∙ kept r (Ok answer) (Err (named r)) (λ z. number-positive refusal (e ∙ z))

  pub accepted : r ≡ 0 → Ok answer ≡ answered r answer
  accepted z = done r (Ok answer) (Err (named r)) z

abbrev pub Known : ℕ → Type 0
Known r = (r ≡ 0 → ⊥) → number (named r) ≡ r

pub known-none : Known (first [])
known-none z = absurd (z first-none)

pub known-test : (b : Bool) (refusal : Refusal) → Known (refuse_unless b (number refusal))
unfolding refuse_unless
known-test true refusal z = absurd (z refl)
known-test false refusal z = ap number (named-number refusal)

module _ (refusal : ℕ) (rest : List ℕ) where
  pub known-first : Known refusal → Known (first rest) → Known (first (refusal ∷ rest))
  known-first here there z = cases (ℕ_discrete refusal 0)
    where
      cases : Dec (refusal ≡ 0) → number (named (first (refusal ∷ rest))) ≡ first (refusal ∷ rest)
      cases (yes e) = let p = first-passed refusal rest e in ap (λ r. number (named r)) p ∙ there (λ y. z (p ∙ y)) ∙ sym p
      cases (no e) = let p = first-refused refusal rest e in ap (λ r. number (named r)) p ∙ here e ∙ sym p
