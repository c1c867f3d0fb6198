-- Demand 2 holds.
--   demand-2           == Numbers holds for all settings and numberings that are accepted
--   demand-2-flat      == the same without a record, under the user's words
-- Assumes nothing.
use Rattle.std.specs.Prelude.{◌≡◌, refl, true, List, ◌↔◌, ℕ, ◌*◌, ◌≤◌, ◌<◌, length, Ok}
use Rattle.std.proofs.Common.{ap, ap₂, sym, ◌∙◌}
use Rattle.counts.specs.Gaussian.{gaussian}
use Rattle.settings.specs.Settings.{settings_refusal}
use Rattle.matrix.specs.Matrix.{Reduced}
use Rattle.linear.specs.Span.{All, Row, SameSpan, rows_of}
use Rattle.linear.specs.Eliminate.{join, reduced_of, dimension}
use Rattle.numbering.specs.Numbering.{is_numbering, numbering_of, index_of, drawn, index_in}
use Rattle.numbering.specs.Laws.Chosen.{unrefused}
use Rattle.numbering.specs.Laws.Either.{Orderly, either}
use Rattle.drawing.specs.Drawing.{drawing}
use Rattle.drawing.specs.Laws.Draws.{draws}
use Rattle.number.specs.Number.{number_of}
use Rattle.number.proofs.NumberAccepted.{reduced-numbered}
use Rattle.convert.specs.Convert.{convert_of}
use Rattle.convert.specs.Laws.ConvertAccepted.{convert-unrefused, convert-done}
use Rattle.receive.specs.Answer.{space_answer}
use Rattle.receive.specs.Receive.{receive_of}
use Rattle.receiver.specs.Receiver.{setup, close_of}
use Rattle.pandrwyg.specs.Exported.{answer_size, exported_of}
use Rattle.promise_recovery.specs.Calls.{Call, begun, after, accepted}
use Rattle.promise_recovery.proofs.Promises.{reduced-matrix-exactly, drawn-exactly}
use Rattle.promise_recovery.proofs.Laws.After.{accepted-rows}
use Rattle.promise_recovery.proofs.Laws.RecoverRows.{receive-rows, exported-rows, close-after}
use Rattle.receiver.specs.Laws.Held.{settings-laws}
use Rattle.promise_recovery.specs.Numbers.{Numbers}

module _ (q n k : ℕ) (settings : settings_refusal q n k ≡ 0) where
  orderly : (t : ℕ) → Orderly (numbering_of t) q n k
  orderly t = either q n k t settings

  numbers : (t : ℕ) → is_numbering t ≡ true → (m : List ℕ) → Reduced q n k m → number_of q n k t m ≡ Ok (index_in t (index_of q n k t m))
  numbers t known m R = reduced-numbered q n k t m (unrefused q n k t settings known) R

  converts : (t to : ℕ) → is_numbering t ≡ true → is_numbering to ≡ true → (m : List ℕ) → Reduced q n k m
      → convert_of q n k t to (index_of q n k t m) ≡ Ok (index_in to (index_of q n k to m))
  converts t to known other m R =
      convert-done q n k t to (index_of q n k t m)
      (convert-unrefused q n k t to (index_of q n k t m) (unrefused q n k t settings known) other ((orderly t).index_below m R))
      ∙ ap (λ x. Ok (index_in to (index_of q n k to x))) ((orderly t).drawn-of-index m R)

  -- the one reduced matrix with the span of rows
  matrix-of : (rows : List (List ℕ)) → All (Row q n) rows → (d : ℕ) (m : List ℕ)
      → (Reduced q n d m × SameSpan q n (rows_of n d m) rows) ↔ ((d ≡ dimension q n rows) × (m ≡ reduced_of q n rows))
  matrix-of rows h = reduced-matrix-exactly q (settings-laws q n k settings) n rows h

  -- the answer for the span of rows, by any reduced matrix that has it
  spanned : (t : ℕ) (rows : List (List ℕ)) → All (Row q n) rows → (d : ℕ) (m : List ℕ) → Reduced q n d m → SameSpan q n (rows_of n d m) rows
      → space_answer q n k t (dimension q n rows) (reduced_of q n rows) ≡ space_answer q n k t d m
  spanned t rows h d m R s =
      let u = (matrix-of rows h d m).0 (R, s) in
      ap₂ (space_answer q n k t) (sym u.0) (sym u.1)

  pub demand-2 : (t : ℕ) → is_numbering t ≡ true → Numbers q n k t
  demand-2 t known =
      record {
        by-formula = numbers t known;
        drawn-back =
            λ m R b l.
            let below = (orderly t).index_below m R in
            sym ((draws q n k t settings known).given (index_of q n k t m) below b l)
            ∙ sym ((drawn-exactly q n k t settings (index_of q n k t m) below m).0 (R, refl));
        numbered-back =
            λ i h b l.
            ap (number_of q n k t) (sym ((draws q n k t settings known).given i h b l))
            ∙ numbers t known (drawn q n k t i) ((orderly t).drawn-reduced i h)
            ∙ ap (λ x. Ok (index_in t x)) ((orderly t).index-of-drawn i h);
        converted = λ to other m R. converts t to known other m R;
        one =
            λ rows h.
            let x = (matrix-of rows h (dimension q n rows) (reduced_of q n rows)).1 (refl, refl) in
            (dimension q n rows, reduced_of q n rows, x.0, x.1, λ e w R s. (matrix-of rows h e w).0 (R, s));
        received =
            λ rows h few d m R s. (
              receive-rows q n k t settings known rows h few ∙ spanned t rows h d m R s,
              exported-rows q n k t settings known rows h few ∙ spanned t rows h d m R s,
            );
        closed =
            λ pack cs d m R s.
            let x = setup q n k pack in
            close-after x t settings known cs ∙ spanned t (accepted (begun x) cs) (accepted-rows x settings cs) d m R s;
      }

pub demand-2-flat :
    (q n k t : ℕ) → settings_refusal q n k ≡ 0 → is_numbering t ≡ true →
    -- "A reduced matrix gets the extended or Ferrers index that Silberstein and Etzion define,
    ((m : List ℕ) → Reduced q n k m → number_of q n k t m ≡ Ok (index_in t (index_of q n k t m)))
    -- and an index below the count gets the matrix with that index.
    × ((m : List ℕ) → Reduced q n k m → (b : List ℕ) → length b ≡ k * n → (drawing q n k t).leaves (index_of q n k t m) b ≡ m)
    × ((i : ℕ) → i < gaussian q n k → (b : List ℕ) → length b ≡ k * n → number_of q n k t ((drawing q n k t).leaves i b) ≡ Ok (index_in t i))
    -- (So an index is converted to that of its matrix in the other numbering.)
    × ((to : ℕ) → is_numbering to ≡ true → (m : List ℕ) → Reduced q n k m
    → convert_of q n k t to (index_of q n k t m) ≡ Ok (index_in to (index_of q n k to m)))
    -- Received rows are numbered by the one reduced matrix that spans the same space." (There is one, and only one:)
    × ((rows : List (List ℕ)) → All (Row q n) rows
    → (d : ℕ) × (m : List ℕ) × Reduced q n d m × SameSpan q n (rows_of n d m) rows
    × ((e : ℕ) (w : List ℕ) → Reduced q n e w → SameSpan q n (rows_of n e w) rows → (e ≡ d) × (w ≡ m)))
    × ((rows : List (List ℕ)) → All (Row q n) rows → length rows ≤ 64
    → (d : ℕ) (m : List ℕ) → Reduced q n d m → SameSpan q n (rows_of n d m) rows
    → (receive_of q n k t (length rows) (join rows) ≡ space_answer q n k t d m)
    × (exported_of q n k t (length rows) (join rows) answer_size ≡ space_answer q n k t d m))
    × ((pack : ℕ) → let s = setup q n k pack in
    (cs : List Call) (d : ℕ) (m : List ℕ) → Reduced q n d m → SameSpan q n (rows_of n d m) (accepted (begun s) cs)
    → close_of (after (begun s) cs) t ≡ space_answer q n k t d m)
demand-2-flat q n k t settings known =
    let D = demand-2 q n k settings t known in
    (D.by-formula, D.drawn-back, D.numbered-back, D.converted, D.one, D.received, D.closed)
