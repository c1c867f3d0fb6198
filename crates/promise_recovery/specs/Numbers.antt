-- Demand 2, as the calls answer it, for settings and a numbering that are accepted. The user: "A reduced matrix gets the extended or
-- Ferrers index that Silberstein and Etzion define, and an index below the count gets the matrix with that index. Received rows are
-- numbered by the one reduced matrix that spans the same space."
--   Numbers q n k t    == Number of a reduced matrix is its index by the numbering's formula; Draw of that index leaves the matrix; Number
--                         of what Draw leaves is the index; Convert of a reduced matrix's index is its index in the other numbering;
--                         rows have one reduced matrix with their span, and only one; and Receive, its C form and Close answer for rows as
--                         `space_answer` for it
-- It is proved in proofs/NumbersTheorem.
-- Assumes nothing.
use Rattle.std.specs.Prelude.{◌≡◌, true, List, ℕ, ◌≤◌, ◌<◌, length, Ok}
use Rattle.counts.specs.Gaussian.{gaussian}
use Rattle.matrix.specs.Matrix.{Reduced}
use Rattle.linear.specs.Span.{All, Row, SameSpan, rows_of}
use Rattle.linear.specs.Eliminate.{join}
use Rattle.numbering.specs.Numbering.{is_numbering, index_of, index_in}
use Rattle.drawing.specs.Drawing.{drawing}
use Rattle.number.specs.Number.{number_of}
use Rattle.convert.specs.Convert.{convert_of}
use Rattle.reduce.specs.Reduce.{most_rows}
use Rattle.receive.specs.Answer.{space_answer}
use Rattle.receive.specs.Receive.{receive_of}
use Rattle.receiver.specs.Receiver.{setup, close_of}
use Rattle.pandrwyg.specs.Exported.{answer_size, exported_of}
use Rattle.promise_recovery.specs.Calls.{Call, begun, after, accepted}
use Rattle.promise_recovery.specs.Demand.{Buffer}

pub record Numbers (q n k t : ℕ) : Type 0 where
  pub by-formula : (m : List ℕ) → Reduced q n k m → number_of q n k t m ≡ Ok (index_in t (index_of q n k t m))
  pub drawn-back : (m : List ℕ) → Reduced q n k m → (b : List ℕ) → Buffer n k b → (drawing q n k t).leaves (index_of q n k t m) b ≡ m
  pub numbered-back : (i : ℕ) → i < gaussian q n k → (b : List ℕ) → Buffer n k b
      → number_of q n k t ((drawing q n k t).leaves i b) ≡ Ok (index_in t i)
  pub converted : (to : ℕ) → is_numbering to ≡ true → (m : List ℕ) → Reduced q n k m
      → convert_of q n k t to (index_of q n k t m) ≡ Ok (index_in to (index_of q n k to m))
  pub one : (rows : List (List ℕ)) → All (Row q n) rows
      → (d : ℕ) × (m : List ℕ) × Reduced q n d m × SameSpan q n (rows_of n d m) rows
      × ((e : ℕ) (w : List ℕ) → Reduced q n e w → SameSpan q n (rows_of n e w) rows → (e ≡ d) × (w ≡ m))
  pub received : (rows : List (List ℕ)) → All (Row q n) rows → length rows ≤ most_rows
      → (d : ℕ) (m : List ℕ) → Reduced q n d m → SameSpan q n (rows_of n d m) rows
      → (receive_of q n k t (length rows) (join rows) ≡ space_answer q n k t d m)
      × (exported_of q n k t (length rows) (join rows) answer_size ≡ space_answer q n k t d m)
  pub closed : (pack : ℕ) → let s = setup q n k pack in
      (cs : List Call) (d : ℕ) (m : List ℕ) → Reduced q n d m → SameSpan q n (rows_of n d m) (accepted (begun s) cs)
      → close_of (after (begun s) cs) t ≡ space_answer q n k t d m
