-- Order 4, of promise_convert/Conversion's definitions.
--   order-4   == Yields holds for all settings and numberings that are accepted
--   each-once == the same counted: of the N answers one tells j where j is below N, and none where it is not
-- Assumes nothing.
use Rattle.std.specs.Prelude.{◌≡◌, true, List, ℕ, ◌*◌, ◌<◌, eqb, ltb, length, replicate}
use Rattle.std.proofs.Common.{ap, sym, ◌∙◌, subst}
use Rattle.std.proofs.lemmas.List.{length-replicate}
use Rattle.basics.specs.Sum.{sum, bit}
use Rattle.basics.specs.Laws.Once.{counted-once}
use Rattle.counts.specs.Gaussian.{gaussian}
use Rattle.settings.specs.Settings.{settings_refusal}
use Rattle.numbering.specs.Numbering.{is_numbering, index_in}
use Rattle.numbering.specs.Laws.Either.{typed-value}
use Rattle.number.specs.Number.{answer_index}
use Rattle.std.specs.Prelude.{Ok}
use Rattle.convert.specs.Convert.{convert_of}
use Rattle.promise_convert.specs.Conversion.{drawn-numbered, converted-as-numbered, done-index, there_and_back, Yields}

pub order-4 : (q n k from to : ℕ) → settings_refusal q n k ≡ 0 → is_numbering from ≡ true → is_numbering to ≡ true → Yields q n k from to
order-4 q n k from to settings first second =
    record {
      below = answered from to first second;
      every =
          λ j h.
          let a = answered to from second first j h in
          (a.0, a.1, there_and_back q n k to from settings second first j a.0 h a.2);
      once =
          λ i j h g e.
          let a = answered from to first second i h in
          let back = there_and_back q n k from to settings first second in
          done-index from i j (sym (back i a.0 h a.2) ∙ back j a.0 g (sym e ∙ a.2));
    }
  where
    buffer : List ℕ
    buffer = replicate (k * n) 0

    sized : length buffer ≡ k * n
    sized = length-replicate (k * n) 0

    answered : (from to : ℕ) → is_numbering from ≡ true → is_numbering to ≡ true
        → (i : ℕ) → i < gaussian q n k → (j : ℕ) × (j < gaussian q n k) × (convert_of q n k from to i ≡ Ok (index_in to j))
    answered from to first second i h =
        let d = drawn-numbered q n k from to settings first second i h buffer sized in
        (d.0, d.2, converted-as-numbered q n k from to settings first second i h buffer sized ∙ d.3)

pub each-once : (q n k from to : ℕ) → settings_refusal q n k ≡ 0 → is_numbering from ≡ true → is_numbering to ≡ true
    → (j : ℕ) → sum (gaussian q n k) (λ i. bit (eqb (answer_index (convert_of q n k from to i)) j)) ≡ bit (ltb j (gaussian q n k))
each-once q n k from to settings first second =
    counted-once (gaussian q n k) (λ i. answer_index (convert_of q n k from to i))
    (λ i h. let a = Y.below i h in subst (λ x. x < gaussian q n k) (sym (tells i a.0 a.2)) a.1)
    (λ j h. let a = Y.every j h in (a.0, a.1, tells a.0 j a.2))
    (λ i j h g e. Y.once i j h g (done i h ∙ ap (λ x. Ok (index_in to x)) e ∙ sym (done j g)))
  where
    Y : Yields q n k from to
    Y = order-4 q n k from to settings first second

    tells : (i j : ℕ) → convert_of q n k from to i ≡ Ok (index_in to j) → answer_index (convert_of q n k from to i) ≡ j
    tells i j e = ap answer_index e ∙ typed-value to j

    done : (i : ℕ) → i < gaussian q n k → convert_of q n k from to i ≡ Ok (index_in to (answer_index (convert_of q n k from to i)))
    done i h = let a = Y.below i h in a.2 ∙ ap (λ x. Ok (index_in to x)) (sym (tells i a.0 a.2))
