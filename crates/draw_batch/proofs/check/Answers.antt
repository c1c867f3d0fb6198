-- `draw_batch::check` meets its contract: the tests in their order, each passed or answered.
use Rattle.std.proofs.Common.{sym, ◌∙◌, arith}
use Rattle.std.proofs.lemmas.Result.{err_from_is_err_and}
use borrow.Author.Tests.{eq-eqb, ne_eqb}
use Rattle.refusal.specs.Laws.First.{number-positive, first-refused, first-passed, test-refused, test-passed, first-none}
use Rattle.numbering.specs.Laws.Chosen.{chosen, accepted-bytes}
use Rattle.draw_batch.specs.Batch.{batch_refusal}
use Rattle.draw_batch.proofs.check.Goals as goal
use Rattle.draw_batch.proofs.check.Goals.{then-not-is_product-via-then-not-is_product, then-not-is_product-via-else-not-is_product+then-answers-count}

pub returns-in_err-check : goal.returns-in_err-check
unfolding batch_refusal
returns-in_err-check c =
    let p = err_from_is_err_and c.from_residual.result c.from_residual.ensures.1 in
    let told = c.in_err-check.ensures.refusal in
    rw (p.1, p.2) (told ∙ sym (first-refused _ _ (λ z. number-positive _ (told ∙ z))))

pub overflow_mul-k : goal.overflow_mul-k
overflow_mul-k c = omega (arith, accepted-bytes _ _ _ (chosen _ _ _ _ (sym c.in_ok-check.ensures.refusal)).settings)

pub returns-then-not-is_product : goal.returns-then-not-is_product
unfolding batch_refusal
returns-then-not-is_product c =
    let chose = first-passed _ _ (sym c.in_ok-check.ensures.refusal) in
    elim c.then-not-is_product.branch [
      | then-not-is_product-via-then-not-is_product w ↦ sym (chose ∙ test-refused _ _ _ tt (sym w.if-not-is_product.ensures))
      | then-not-is_product-via-else-not-is_product+then-answers-count w ↦
          sym
          (chose ∙ test-passed _ _ _ (sym w.if-not-is_product.ensures) ∙ test-refused _ _ _ tt (ne_eqb _ _ w.if-answers-count.true))
    ]

pub returns : goal.returns
unfolding batch_refusal
returns c =
    sym
    (first-passed _ _ (sym c.in_ok-check.ensures.refusal)
    ∙ test-passed _ _ _ (sym c.if-not-is_product.ensures)
    ∙ test-passed _ _ _ (eq-eqb _ _ c.if-answers-count.false)
    ∙ first-none)
