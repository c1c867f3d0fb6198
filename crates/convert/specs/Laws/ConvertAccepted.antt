-- A Convert that is not refused; no part of the meaning.
--   ConvertAccepted  == Chosen in both numberings, an index below N
--   convert-accepted, convert-unrefused == what is not refused is ConvertAccepted; and back
--   convert-done     == what Convert then answers
--   convert-told     == the number and the index that an answer of Convert tells
-- Assumes nothing.
use Rattle.std.specs.Prelude.{◌≡◌, true, ℕ, ◌<◌, ltb, Result, Ok}
use Rattle.std.proofs.Common.{◌∙◌}
use Rattle.std.proofs.Math.Path.{sym}
use mathlib.Core.List.{[], ◌∷◌}
use borrow.Author.Tests.{lt-ltb, ltb-true}
use Rattle.refusal.specs.Refusal.{refuse_unless, index_refusal, numbering_refusal, unless_refused}
use Rattle.refusal.specs.Laws.First.{first-zero, first-passed, test_zero, test-passed, first-none, done}
use Rattle.refusal.specs.Laws.First.{Known, known-none, known-test, known-first}
use Rattle.counts.specs.Gaussian.{gaussian}
use Rattle.numbering.specs.Numbering.{is_numbering, choice_refusal, index_of, index_in, drawn}
use Rattle.numbering.specs.Laws.Chosen.{Chosen, chosen, choice-known}
use Rattle.number.specs.Number.{answer_number, answer_index}
use Rattle.number.proofs.NumberAccepted.{answer-told}
use Rattle.refusal.specs.declared.Refusal.{Refusal}
use Rattle.refusal.specs.declared.Refusal.TheVariants as refusals
use Rattle.numbering.specs.declared.Index.{Index}
use Rattle.convert.specs.Convert.{convert_refusal, convert_of}

pub record ConvertAccepted (q n k from to i : ℕ) : Type 0 where
  pub choice : Chosen q n k from
  pub known : is_numbering to ≡ true
  pub inside : i < gaussian q n k

module _ (q n k from to i : ℕ) where
  pub convert-accepted : convert_refusal q n k from to i ≡ 0 → ConvertAccepted q n k from to i
  unfolding convert_refusal
  convert-accepted e =
      let last = refuse_unless (ltb i (gaussian q n k)) index_refusal ∷ [] in
      let c = first-zero (choice_refusal q n k from) (refuse_unless (is_numbering to) numbering_refusal ∷ last) e in
      let t = test_zero (is_numbering to) numbering_refusal last tt c.1 in
      record {
        choice = chosen q n k from c.0;
        known = t.0;
        inside = ltb-true i (gaussian q n k) (test_zero (ltb i (gaussian q n k)) index_refusal [] tt t.1).0;
      }

  pub convert-unrefused : choice_refusal q n k from ≡ 0 → is_numbering to ≡ true → i < gaussian q n k → convert_refusal q n k from to i ≡ 0
  unfolding convert_refusal
  convert-unrefused c b h =
      first-passed _ _ c ∙ test-passed _ _ _ b ∙ test-passed _ _ _ (lt-ltb i (gaussian q n k) h) ∙ first-none

  pub convert-done : convert_refusal q n k from to i ≡ 0
      → convert_of q n k from to i ≡ Ok (index_in to (index_of q n k to (drawn q n k from i)))
  unfolding convert_of
  convert-done e = sym (done _ _ _ e)

  convert-known : Known (convert_refusal q n k from to i)
  unfolding convert_refusal
  convert-known =
      known-first _ _ (choice-known q n k from)
      (known-first _ _ (known-test _ refusals.Numbering) (known-first _ _ (known-test _ refusals.Index) known-none))

  pub convert-told : (r : Result Index Refusal) → r ≡ convert_of q n k from to i
      → (answer_number r ≡ convert_refusal q n k from to i)
      × (answer_index r ≡ unless_refused (convert_refusal q n k from to i) (index_of q n k to (drawn q n k from i)) 0)
  unfolding convert_of
  convert-told r e = answer-told (convert_refusal q n k from to i) to (index_of q n k to (drawn q n k from i)) r convert-known e
