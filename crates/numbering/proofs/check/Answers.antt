-- `numbering::check` meets its contract: the settings' refusal, or the numbering's.
use Rattle.std.proofs.Common.{◌≡◌, sym, ap, ◌∙◌, ℕ, Ok, Err}
use Rattle.std.specs.Prelude.{Result}
use Rattle.std.proofs.lemmas.Result.{err_from_is_err_and}
use Rattle.refusal.specs.Refusal.{refusal_number}
use Rattle.refusal.specs.declared.Refusal.{Refusal}
use Rattle.refusal.specs.Laws.First.{number-positive, first-refused, first-passed, test-refused, test-passed, first-none}
use Rattle.settings.specs.Settings.{settings_refusal}
use Rattle.numbering.specs.Numbering.{is_numbering, Chooses, choice_refusal}
use Rattle.numbering.specs.declared.Numbering.{Numbering as Choice}
use Rattle.numbering.specs.Laws.Either.{code-known}
use Rattle.numbering.proofs.check.Goals as goal

chosen : (q n k t : ℕ) (r : Result Choice Refusal) → 0 ≡ settings_refusal q n k → Chooses t r → refusal_number r ≡ choice_refusal q n k t
unfolding choice_refusal
chosen q n k t (Ok c) s e =
    sym (first-passed _ _ (sym s) ∙ test-passed _ _ _ (ap is_numbering (sym e) ∙ code-known c) ∙ first-none)
chosen q n k t (Err r) s e = rw e.0 (sym (first-passed _ _ (sym s) ∙ test-refused _ _ _ tt e.1))

pub returns-in_err-check-clause-refusal : goal.returns-in_err-check-clause-refusal
unfolding choice_refusal
returns-in_err-check-clause-refusal c =
    let p = err_from_is_err_and c.from_residual.result c.from_residual.ensures.1 in
    let told = c.in_err-check.ensures in
    rw (p.1, p.2) (told ∙ sym (first-refused _ _ (λ z. number-positive _ (told ∙ z))))

pub returns-clause-refusal : goal.returns-clause-refusal
returns-clause-refusal c = chosen _ _ _ _ c.try_from.result c.in_ok-check.ensures c.try_from.ensures
