-- `convert::check` meets its contract: the tests in their order, each passed or answered.
use Rattle.std.proofs.Common.{◌≡◌, ◌∙◌, sym, ap, true, ℕ, arith}
use Rattle.std.proofs.lemmas.Result.{err_from_is_err_and}
use borrow.Author.Tests.{le-ltb}
use Rattle.counts.specs.Gaussian.{gaussian}
use Rattle.refusal.specs.Laws.First.{number-positive, first-refused, first-passed, test-refused, test-passed}
use Rattle.settings.specs.Laws.Accepted.{entry-of-accepted}
use Rattle.numbering.specs.declared.Numbering.{Numbering as Choice}
use Rattle.numbering.specs.Numbering.{code, is_numbering}
use Rattle.numbering.specs.Laws.Either.{code-known}
use Rattle.numbering.specs.Laws.Chosen.{chosen}
use Rattle.convert.specs.Convert.{convert_refusal}
use Rattle.convert.specs.Laws.ConvertAccepted.{convert-unrefused}
use Rattle.convert.proofs.check.Goals as goal

known : (c : Choice) (to : ℕ) → code c ≡ to → is_numbering to ≡ true
known c to e = ap is_numbering (sym e) ∙ code-known c

pub returns-in_err-first-clause-refusal : goal.returns-in_err-first-clause-refusal
unfolding convert_refusal
returns-in_err-first-clause-refusal c =
    let p = err_from_is_err_and c.from_residual.result c.from_residual.ensures.1 in
    let told = c.in_err-first.ensures.refusal in
    rw (p.1, p.2) (told ∙ sym (first-refused _ _ (λ z. number-positive _ (told ∙ z))))

pub returns-in_err-second-clause-refusal : goal.returns-in_err-second-clause-refusal
unfolding convert_refusal
returns-in_err-second-clause-refusal c =
    let p = err_from_is_err_and c.from_residual-in_err-second.result c.from_residual-in_err-second.ensures.1 in
    let told = c.in_err-second.ensures in
    rw (p.1, p.2, told.0) (sym (first-passed _ _ (sym c.in_ok-first.ensures.refusal) ∙ test-refused _ _ _ tt told.1))

pub coefficient-requires : goal.coefficient-requires
coefficient-requires c =
    let a = (chosen _ _ _ _ (sym c.in_ok-first.ensures.refusal)).settings in
    (a.size, a.narrow, omega (arith, a.dimension, a.narrow))

pub returns-then-coefficient-index-clause-refusal : goal.returns-then-coefficient-index-clause-refusal
unfolding convert_refusal
returns-then-coefficient-index-clause-refusal c =
    let a = c.args in
    let chose = sym c.in_ok-first.ensures.refusal in
    let counted = c.coefficient.ensures ∙ entry-of-accepted _ _ _ (chosen _ _ _ _ chose).settings in
    sym
    (first-passed _ _ chose
    ∙ test-passed _ _ _ (known c.in_ok-second.second a.to c.in_ok-second.ensures)
    ∙ test-refused _ _ _ tt (le-ltb a.index (gaussian a.q a.n a.k) (omega (arith, counted, c.if-coefficient-index.true))))

pub returns-clause-refusal : goal.returns-clause-refusal
returns-clause-refusal c =
    let chose = sym c.in_ok-first.ensures.refusal in
    let counted = c.coefficient.ensures ∙ entry-of-accepted _ _ _ (chosen _ _ _ _ chose).settings in
    sym
    (convert-unrefused _ _ _ _ _ _ chose (known c.in_ok-second.second c.args.to c.in_ok-second.ensures)
    (omega (arith, counted, c.if-coefficient-index.false)))
