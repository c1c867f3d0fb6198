-- A Number that is refused, and one that is not; no part of the meaning.
--   by-choice, by_length, by-entry, by_form == the tests in their order, the first that fails after those before it
--   reduced-numbered == Number refuses no Reduced matrix, and answers its index
--   number-refused   == what a refused Number answers
--   answer-told      == the number and the index that an answer of Number or Convert tells
--   number-told      == those of Number's
-- Assumes nothing.
use Rattle.std.specs.Prelude.{◌≡◌, refl, true, false, ℕ, ◌*◌, ◌<◌, eqb, length, Result, Ok, Err}
use Rattle.std.proofs.Math.Path.{ap, sym}
use Rattle.std.proofs.Common.{◌∙◌, subst, arith, eq-eqb, ne_eqb}
use mathlib.Core.List.{List, []}
use Rattle.basics.specs.Laws.Choice.{holds, is_true}
use Rattle.refusal.specs.Refusal.{length_refusal, entry_refusal, not_reduced_refusal, unless_refused, number, named}
use Rattle.refusal.specs.Laws.First.{first-refused, first-passed, test-refused, test-passed, first-none}
use Rattle.refusal.specs.Laws.First.{done, refused, told-number, told-value, Known, known-none, known-test, known-first}
use Rattle.matrix.specs.Matrix.{entries_below, is_reduced, Reduced}
use Rattle.matrix.specs.Laws.Tests.{entries-below-true, reduced-exactly}
use Rattle.numbering.specs.Numbering.{choice_refusal, index_of, index_in}
use Rattle.numbering.specs.Laws.Either.{typed-value}
use Rattle.numbering.specs.Laws.Chosen.{choice-known}
use Rattle.number.specs.Number.{entries_refusal, number_refusal, answer_of, number_of, answer_number, answer_index}
use Rattle.numbering.specs.declared.Index.{Index}
use Rattle.refusal.specs.declared.Refusal.{Refusal}
use Rattle.refusal.specs.declared.Refusal.TheVariants.{Length, Entry, NotReduced}

pub answer-told : (refusal t i : ℕ) (r : Result Index Refusal) → Known refusal → r ≡ answer_of refusal t i
    → (answer_number r ≡ refusal) × (answer_index r ≡ unless_refused refusal i 0)
answer-told refusal t i r k e = (
  ap answer_number e ∙ told-number refusal (Ok (index_in t i)) (Err (named refusal)) answer_number refl k,
  ap answer_index e ∙ told-value refusal (Ok (index_in t i)) (Err (named refusal)) answer_index i (typed-value t i) refl,
)

module _ (q n k t : ℕ) (m : List ℕ) where
  entries-unrefused : choice_refusal q n k t ≡ 0 → length m ≡ k * n → entries_below q m ≡ true → entries_refusal q n k t m ≡ 0
  unfolding entries_refusal
  entries-unrefused c l b = first-passed _ _ c ∙ test-passed _ _ _ (eq-eqb (length m) (k * n) l) ∙ test-passed _ _ _ b ∙ first-none

  pub by-choice : (choice_refusal q n k t ≡ 0 → ⊥) → number_refusal q n k t m ≡ choice_refusal q n k t
  unfolding number_refusal entries_refusal
  by-choice z =
      let e = first-refused (choice_refusal q n k t) _ z in first-refused _ _ (λ o. z (sym e ∙ o)) ∙ e

  module _ (c : choice_refusal q n k t ≡ 0) where
    pub by_length : (length m ≡ k * n → ⊥) → number_refusal q n k t m ≡ length_refusal
    unfolding number_refusal entries_refusal
    by_length l =
        let e = first-passed _ _ c ∙ test-refused (eqb (length m) (k * n)) length_refusal _ tt (ne_eqb (length m) (k * n) l) in
        first-refused _ _ (λ o. absurd (omega (arith, e, o))) ∙ e

    module _ (l : length m ≡ k * n) where
      pub by-entry : entries_below q m ≡ false → number_refusal q n k t m ≡ entry_refusal
      unfolding number_refusal entries_refusal
      by-entry b =
          let e =
          first-passed _ _ c
          ∙ test-passed _ length_refusal _ (eq-eqb (length m) (k * n) l)
          ∙ test-refused (entries_below q m) entry_refusal _ tt b
          in
          first-refused _ _ (λ o. absurd (omega (arith, e, o))) ∙ e

      pub by_form : entries_below q m ≡ true → is_reduced n k m ≡ false → number_refusal q n k t m ≡ not_reduced_refusal
      unfolding number_refusal
      by_form b r = first-passed _ _ (entries-unrefused c l b) ∙ test-refused (is_reduced n k m) not_reduced_refusal [] tt r

  number-unrefused : entries_refusal q n k t m ≡ 0 → is_reduced n k m ≡ true → number_refusal q n k t m ≡ 0
  unfolding number_refusal
  number-unrefused e r = first-passed _ _ e ∙ test-passed _ _ _ r ∙ first-none

  reduced-unrefused : choice_refusal q n k t ≡ 0 → Reduced q n k m → number_refusal q n k t m ≡ 0
  reduced-unrefused c R =
      let below = entries-below-true q m (λ place h. R.below place (subst (λ size. place < size) R.size h)) in
      number-unrefused (entries-unrefused c R.size below) (is_true _ ((reduced-exactly q n k m R.size (holds _ below)).1 R))

  pub reduced-numbered : choice_refusal q n k t ≡ 0 → Reduced q n k m → number_of q n k t m ≡ Ok (index_in t (index_of q n k t m))
  unfolding number_of
  reduced-numbered c R = sym (done _ _ _ (reduced-unrefused c R))

  number-known : Known (number_refusal q n k t m)
  unfolding number_refusal entries_refusal
  number-known =
      known-first _ _
      (known-first _ _ (choice-known q n k t)
      (known-first _ _ (known-test _ Length) (known-first _ _ (known-test _ Entry) known-none)))
      (known-first _ _ (known-test _ NotReduced) known-none)

  pub number-told : (r : Result Index Refusal) → r ≡ number_of q n k t m
      → (answer_number r ≡ number_refusal q n k t m) × (answer_index r ≡ unless_refused (number_refusal q n k t m) (index_of q n k t m) 0)
  unfolding number_of
  number-told r e = answer-told (number_refusal q n k t m) t (index_of q n k t m) r number-known e

  pub number-refused : (r : Refusal) → number r ≡ number_refusal q n k t m → Err r ≡ number_of q n k t m
  unfolding number_of
  number-refused r e = refused (number_refusal q n k t m) (index_in t (index_of q n k t m)) r e
