-- Settings and a numbering that are not refused; no part of the meaning.
--   Chosen q n k t    == the settings are accepted and t is a numbering
--   chosen, unrefused == what none of 1, 2, 3, 10 refuses is Chosen; and back
--   choice-known      == the first of 1, 2, 3, 10 is a refusal, or none
--   accepted-bytes    == the matrix has at most 256 bytes
--   first-known       == 1 is a numbering, so there is one
-- Assumes nothing.
use Rattle.std.specs.Prelude.{◌≡◌, refl, true, [], ◌∷◌, ℕ, ◌*◌, ◌≤◌}
use Rattle.std.proofs.Common.{◌∙◌, mul-le-mul, arith}
use Rattle.refusal.specs.Refusal.{refuse_unless, numbering_refusal}
use Rattle.refusal.specs.Laws.First.{first-zero, first-passed, test_zero, test-passed, first-none}
use Rattle.refusal.specs.Laws.First.{Known, known-none, known-test, known-first}
use Rattle.refusal.specs.declared.Refusal.TheVariants as refusals
use Rattle.settings.specs.Settings.{settings_refusal}
use Rattle.settings.specs.Laws.Accepted.{Accepted, accepted, settings-known}
use Rattle.numbering.specs.Numbering.{is_numbering, choice_refusal}

pub record Chosen (q n k t : ℕ) : Type 0 where
  pub settings : Accepted q n k
  pub known : is_numbering t ≡ true

pub chosen : (q n k t : ℕ) → choice_refusal q n k t ≡ 0 → Chosen q n k t
unfolding choice_refusal
chosen q n k t e =
    let s = first-zero (settings_refusal q n k) (refuse_unless (is_numbering t) numbering_refusal ∷ []) e in
    record { settings = accepted q n k s.0; known = (test_zero (is_numbering t) numbering_refusal [] tt s.1).0 }

pub unrefused : (q n k t : ℕ) → settings_refusal q n k ≡ 0 → is_numbering t ≡ true → choice_refusal q n k t ≡ 0
unfolding choice_refusal
unrefused q n k t s b = first-passed _ _ s ∙ test-passed _ _ _ b ∙ first-none

pub choice-known : (q n k t : ℕ) → Known (choice_refusal q n k t)
unfolding choice_refusal
choice-known q n k t = known-first _ _ (settings-known q n k) (known-first _ _ (known-test _ refusals.Numbering) known-none)

pub accepted-bytes : (q n k : ℕ) → Accepted q n k → k * n ≤ 256
accepted-bytes q n k a = mul-le-mul {n₁ = k} {m₁ = n} {n₂ = 16} {m₂ = 16} (omega (arith, a.dimension, a.narrow)) a.narrow

pub first-known : is_numbering 1 ≡ true
unfolding is_numbering
first-known = refl
