-- Order 4: "Show that a drawn matrix always has a number in the other numbering, .. Show also that converting all of 0 to N-1 yields each
-- of them once." Said of what the calls answer, for accepted settings and any two numberings, or one of them twice.
--   drawn-numbered        == Draw of an index below N in the first numbering is not refused, and Number of the matrix that it leaves
--                            answers an index of the second, below N
--   converted-as-numbered == that is what Convert answers
--   there_and_back        == converting there and back gives the index again
--   Yields q n k from to  == converting 0 to N-1 yields each of them once, in the struct of the second numbering: every answer is below
--                            N (`below`), each number below N is answered (`every`), and equal answers come from equal indexes (`once`)
--                            That it holds for all settings and numberings that are accepted is order-4, in promise_convert/Theorems.
-- Assumes nothing.
use Rattle.std.specs.Prelude.{◌≡◌, true, List, ℕ, ◌*◌, ◌<◌, length}
use Rattle.std.proofs.Common.{ap, sym, ◌∙◌, subst}
use Rattle.counts.specs.Gaussian.{gaussian}
use Rattle.settings.specs.Settings.{settings_refusal}
use Rattle.matrix.specs.Matrix.{Reduced}
use Rattle.numbering.specs.Numbering.{is_numbering, index_of, drawn, index_in}
use Rattle.numbering.specs.Laws.Chosen.{unrefused}
use Rattle.numbering.specs.Laws.Either.{either, typed-value}
use Rattle.drawing.specs.Drawing.{drawing}
use Rattle.drawing.specs.Laws.Draws.{draws}
use Rattle.number.specs.Number.{number_of, answer_index}
use Rattle.std.specs.Prelude.{Result, Ok}
use Rattle.refusal.specs.declared.Refusal.{Refusal}
use Rattle.numbering.specs.declared.Index.{Index}
use Rattle.number.proofs.NumberAccepted.{reduced-numbered}
use Rattle.convert.specs.Convert.{convert_of}
use Rattle.convert.specs.Laws.ConvertAccepted.{convert-unrefused, convert-done}

pub drawn-numbered : (q n k from to : ℕ) → settings_refusal q n k ≡ 0 → is_numbering from ≡ true → is_numbering to ≡ true
    → (i : ℕ) → i < gaussian q n k → (b : List ℕ) → length b ≡ k * n
    → (j : ℕ)
    × ((drawing q n k from).refusal i (length b) ≡ 0)
    × (j < gaussian q n k)
    × (number_of q n k to ((drawing q n k from).leaves i b) ≡ Ok (index_in to j))
drawn-numbered q n k from to settings first second i h b sized = (
  index_of q n k to ((drawing q n k from).leaves i b),
  (draws q n k from settings first).done i h b sized,
  (either q n k to settings).index_below _ reduced,
  reduced-numbered q n k to _ (unrefused q n k to settings second) reduced,
)
  where
    reduced : Reduced q n k ((drawing q n k from).leaves i b)
    reduced = subst (Reduced q n k) ((draws q n k from settings first).given i h b sized) ((either q n k from settings).drawn-reduced i h)

-- the answer by the definitions of the numberings
answers : (q n k from to : ℕ) → settings_refusal q n k ≡ 0 → is_numbering from ≡ true → is_numbering to ≡ true
    → (i : ℕ) → i < gaussian q n k → convert_of q n k from to i ≡ Ok (index_in to (index_of q n k to (drawn q n k from i)))
answers q n k from to settings first second i h =
    convert-done q n k from to i (convert-unrefused q n k from to i (unrefused q n k from settings first) second h)

pub converted-as-numbered : (q n k from to : ℕ) → settings_refusal q n k ≡ 0 → is_numbering from ≡ true → is_numbering to ≡ true
    → (i : ℕ) → i < gaussian q n k → (b : List ℕ) → length b ≡ k * n
    → convert_of q n k from to i ≡ number_of q n k to ((drawing q n k from).leaves i b)
converted-as-numbered q n k from to settings first second i h b sized =
    answers q n k from to settings first second i h
    ∙ sym (reduced-numbered q n k to _ (unrefused q n k to settings second) ((either q n k from settings).drawn-reduced i h))
    ∙ ap (number_of q n k to) ((draws q n k from settings first).given i h b sized)

-- an answer tells one index
pub done-index : (t i j : ℕ) → ◌≡◌ {A = Result Index Refusal} (Ok (index_in t i)) (Ok (index_in t j)) → i ≡ j
done-index t i j e = sym (typed-value t i) ∙ ap answer_index e ∙ typed-value t j

pub there_and_back : (q n k from to : ℕ) → settings_refusal q n k ≡ 0 → is_numbering from ≡ true → is_numbering to ≡ true
    → (i j : ℕ) → i < gaussian q n k → convert_of q n k from to i ≡ Ok (index_in to j) → convert_of q n k to from j ≡ Ok (index_in from i)
there_and_back q n k from to settings first second i j h e =
    let m = drawn q n k from i in
    let there = either q n k to settings in
    let here = either q n k from settings in
    let reduced = here.drawn-reduced i h in
    let same : index_of q n k to m ≡ j = done-index to _ j (sym (answers q n k from to settings first second i h) ∙ e) in
    answers q n k to from settings second first j (subst (λ x. x < gaussian q n k) same (there.index_below m reduced))
    ∙ ap (λ x. Ok (index_in from (index_of q n k from x))) (ap (drawn q n k to) (sym same) ∙ there.drawn-of-index m reduced)
    ∙ ap (λ x. Ok (index_in from x)) (here.index-of-drawn i h)

pub record Yields (q n k from to : ℕ) : Type 0 where
  pub below : (i : ℕ) → i < gaussian q n k → (j : ℕ) × (j < gaussian q n k) × (convert_of q n k from to i ≡ Ok (index_in to j))
  pub every : (j : ℕ) → j < gaussian q n k → (i : ℕ) × (i < gaussian q n k) × (convert_of q n k from to i ≡ Ok (index_in to j))
  pub once : (i j : ℕ) → i < gaussian q n k → j < gaussian q n k → convert_of q n k from to i ≡ convert_of q n k from to j → i ≡ j
