-- What Convert answers for every input. Document 01, with order 4 applied: "Convert an index between numberings: 1, 2, 3; 10 for the first
-- numbering, then the second; 5".
--   convert_refusal == these refusals; 0 where none applies
--   convert_of      == what Convert answers: the index, in the second numbering, of the matrix that the index draws in the first
-- Assumes nothing.
use Rattle.std.specs.Prelude.{[], ◌∷◌, ℕ, ltb, Result}
use Rattle.refusal.specs.Refusal.{numbering_refusal, index_refusal, refuse_unless, first}
use Rattle.counts.specs.Gaussian.{gaussian}
use Rattle.numbering.specs.Numbering.{is_numbering, choice_refusal, index_of, drawn}
use Rattle.number.specs.Number.{answer_of}
use Rattle.refusal.specs.declared.Refusal.{Refusal}
use Rattle.numbering.specs.declared.Index.{Index}

unfoldable pub convert_refusal : ℕ → ℕ → ℕ → ℕ → ℕ → ℕ → ℕ
convert_refusal q n k from to i =
    first
    (choice_refusal q n k from
    ∷ refuse_unless (is_numbering to) numbering_refusal
    ∷ refuse_unless (ltb i (gaussian q n k)) index_refusal
    ∷ [])

unfoldable pub convert_of : ℕ → ℕ → ℕ → ℕ → ℕ → ℕ → Result Index Refusal
convert_of q n k from to i = answer_of (convert_refusal q n k from to i) to (index_of q n k to (drawn q n k from i))
