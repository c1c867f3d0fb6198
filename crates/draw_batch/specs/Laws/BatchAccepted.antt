-- A list of indexes that is not refused as a whole; no part of the meaning.
--   BatchAccepted q n k t count matrices answers == neither the choice nor the length of either buffer is refused
--   batch-accepted, batch-unrefused == what is not refused is BatchAccepted; and back
--   batch-choice == a refusal of the choice is the refusal of the whole
--   batch-length == where the choice is accepted, the whole is refused 4 if at all
-- Assumes nothing.
use Rattle.std.specs.Prelude.{◌≡◌, ℕ, ◌*◌, eqb}
use Rattle.std.proofs.Common.{◌∙◌}
use mathlib.Core.List.{[], ◌∷◌}
use Rattle.std.proofs.Math.Decide.{ℕ_discrete}
use borrow.Author.Tests.{eq-eqb, ne_eqb, eqb-true}
use Rattle.refusal.specs.Refusal.{refuse_unless, length_refusal}
use Rattle.refusal.specs.Laws.First.{first-zero, first-refused, first-passed, test_zero, test-refused, test-passed, first-none}
use Rattle.numbering.specs.Numbering.{choice_refusal}
use Rattle.draw_batch.specs.Batch.{batch_refusal}

pub record BatchAccepted (q n k t count matrices answers : ℕ) : Type 0 where
  pub choice : choice_refusal q n k t ≡ 0
  pub sized : matrices ≡ count * (k * n)
  pub counted : answers ≡ count

module _ (q n k t count matrices answers : ℕ) where
  pub batch-accepted : batch_refusal q n k t count matrices answers ≡ 0 → BatchAccepted q n k t count matrices answers
  unfolding batch_refusal
  batch-accepted e =
      let last = refuse_unless (eqb answers count) length_refusal ∷ [] in
      let c = first-zero (choice_refusal q n k t) (refuse_unless (eqb matrices (count * (k * n))) length_refusal ∷ last) e in
      let l = test_zero (eqb matrices (count * (k * n))) length_refusal last tt c.1 in
      record {
        choice = c.0;
        sized = eqb-true matrices (count * (k * n)) l.0;
        counted = eqb-true answers count (test_zero (eqb answers count) length_refusal [] tt l.1).0;
      }

  pub batch-unrefused : BatchAccepted q n k t count matrices answers → batch_refusal q n k t count matrices answers ≡ 0
  unfolding batch_refusal
  batch-unrefused a =
      first-passed _ _ a.choice
      ∙ test-passed _ _ _ (eq-eqb matrices (count * (k * n)) a.sized)
      ∙ test-passed _ _ _ (eq-eqb answers count a.counted)
      ∙ first-none

  pub batch-choice : (choice_refusal q n k t ≡ 0 → ⊥) → batch_refusal q n k t count matrices answers ≡ choice_refusal q n k t
  unfolding batch_refusal
  batch-choice z = first-refused _ _ z

  wrong-matrices : choice_refusal q n k t ≡ 0 → (matrices ≡ count * (k * n) → ⊥)
      → batch_refusal q n k t count matrices answers ≡ length_refusal
  unfolding batch_refusal
  wrong-matrices c s = first-passed _ _ c ∙ test-refused _ _ _ tt (ne_eqb matrices (count * (k * n)) s)

  wrong-answers : choice_refusal q n k t ≡ 0 → matrices ≡ count * (k * n) → (answers ≡ count → ⊥)
      → batch_refusal q n k t count matrices answers ≡ length_refusal
  unfolding batch_refusal
  wrong-answers c s a =
      first-passed _ _ c
      ∙ test-passed _ _ _ (eq-eqb matrices (count * (k * n)) s)
      ∙ test-refused _ _ _ tt (ne_eqb answers count a)

  pub batch-length : choice_refusal q n k t ≡ 0 → (batch_refusal q n k t count matrices answers ≡ 0 → ⊥)
      → batch_refusal q n k t count matrices answers ≡ length_refusal
  batch-length c z = cases (ℕ_discrete matrices (count * (k * n))) (ℕ_discrete answers count)
    where
      cases : Dec (matrices ≡ count * (k * n)) → Dec (answers ≡ count) → batch_refusal q n k t count matrices answers ≡ length_refusal
      cases (yes s) (yes a) = absurd (z (batch-unrefused (record { choice = c; sized = s; counted = a })))
      cases (yes s) (no a) = wrong-answers c s a
      cases (no s) a = wrong-matrices c s
