-- `numbering::is_numbering` meets its contract: what stands for a numbering is one.
use Rattle.std.proofs.Common.{◌≡◌, ◌∙◌, sym, ap, ℕ, Ok, Err}
use Rattle.std.specs.Prelude.{Result}
use Rattle.std.specs.Result.{is_ok}
use Rattle.refusal.specs.declared.Refusal.{Refusal}
use Rattle.numbering.specs.declared.Numbering.{Numbering as Choice}
use Rattle.numbering.specs.Numbering.{is_numbering, Chooses}
use Rattle.numbering.specs.Laws.Either.{code-known}
use Rattle.numbering.proofs.is_numbering.Goals as goal

told : (t : ℕ) (r : Result Choice Refusal) → Chooses t r → is_ok r ≡ is_numbering t
told t (Ok c) e = sym (code-known c) ∙ ap is_numbering e
told t (Err r) e = sym e.1

pub returns : goal.returns
returns c = c.is_ok.ensures.value ∙ told _ _ c.try_from.ensures
