-- A Receive that is not refused; no part of the meaning.
--   RowsAccepted     == what holds where none of 1, 2, 3, 10, 13, 4 refuses
--   rows-accepted, rows-unrefused == it is so exactly there
--   receive-split    == 6 is the last of the refusals before 8
--   receive-unrefused, receive-accepted == nor does 6
--   receive-known == what these tests come to is a refusal, or none
--   receive-told     == what an answer of Receive tells
-- Assumes nothing.
use Rattle.std.specs.Prelude.{◌≡◌, true, T, length}
use Rattle.std.proofs.Common.{◌∙◌}
use Rattle.std.proofs.Math.Path.{sym}
use mathlib.Core.List.{List, [], ◌∷◌}
use Prim.Native.Nat.{ℕ, ◌*◌, ◌≤◌}
use Rattle.basics.specs.Laws.Choice.{holds}
use Rattle.refusal.specs.Refusal.{entry_refusal, refuse_unless, first}
use Rattle.refusal.specs.Laws.First.{first-zero, first-passed, test_zero, test-passed, first-none, first_head, first_tail}
use Rattle.refusal.specs.Laws.First.{Known, known-none, known-first}
use Rattle.matrix.specs.Matrix.{entries_below}
use Rattle.linear.specs.Span.{rows_of}
use Rattle.linear.specs.Eliminate.{reduced_of, dimension}
use Rattle.numbering.specs.Numbering.{choice_refusal}
use Rattle.numbering.specs.Laws.Chosen.{Chosen, chosen, choice-known}
use Rattle.reduce.specs.Reduce.{most_rows, rows_size_refusal, row_list_refusal}
use Rattle.reduce.specs.Laws.RowList.{rows-size-accepted, rows-size-unrefused, row-list-known}
use Rattle.receive.specs.Answer.{Received, Told}
use Rattle.receive.specs.Receive.{rows_refusal, receive_refusal, receive_of}
use Rattle.receive.proofs.Laws.Space.{received-told}

pub record RowsAccepted (q n k t r size : ℕ) : Type 0 where
  pub choice : Chosen q n k t
  pub few : r ≤ most_rows
  pub sized : size ≡ r * n

module _ (q n k t r : ℕ) where
  pub rows-accepted : (size : ℕ) → rows_refusal q n k t r size ≡ 0 → RowsAccepted q n k t r size
  unfolding rows_refusal
  rows-accepted size e =
      let s = first-zero (choice_refusal q n k t) (rows_size_refusal n r size ∷ []) e in
      let l = rows-size-accepted n r size (first-zero (rows_size_refusal n r size) [] s.1).0 in
      record { choice = chosen q n k t s.0; few = l.0; sized = l.1 }

  pub rows-unrefused : (size : ℕ) → choice_refusal q n k t ≡ 0 → r ≤ most_rows → size ≡ r * n → rows_refusal q n k t r size ≡ 0
  unfolding rows_refusal
  rows-unrefused size c h l =
      first-passed _ _ c ∙ first-passed _ _ (rows-size-unrefused n r size h l) ∙ first-none

  pub receive-split : (input : List ℕ)
      → receive_refusal q n k t r input
      ≡ first (rows_refusal q n k t r (length input) ∷ refuse_unless (entries_below q input) entry_refusal ∷ [])
  unfolding receive_refusal row_list_refusal rows_refusal
  receive-split input =
      first_tail (choice_refusal q n k t) (rows_size_refusal n r (length input) ∷ refuse_unless (entries_below q input) entry_refusal ∷ [])
      ∙ sym (first_head (choice_refusal q n k t) (rows_size_refusal n r (length input)) (refuse_unless (entries_below q input) entry_refusal ∷ []))

  pub receive-unrefused : (input : List ℕ) → rows_refusal q n k t r (length input) ≡ 0 → entries_below q input ≡ true
      → receive_refusal q n k t r input ≡ 0
  receive-unrefused input e b = receive-split input ∙ first-passed _ _ e ∙ test-passed _ _ _ b ∙ first-none

  pub receive-accepted : (input : List ℕ) → receive_refusal q n k t r input ≡ 0
      → RowsAccepted q n k t r (length input) × T (entries_below q input)
  receive-accepted input z =
      let s =
      first-zero (rows_refusal q n k t r (length input)) (refuse_unless (entries_below q input) entry_refusal ∷ [])
      (sym (receive-split input) ∙ z)
      in (
        rows-accepted (length input) s.0,
        holds (entries_below q input) (test_zero (entries_below q input) entry_refusal [] tt s.1).0,
      )

  pub receive-known : (input : List ℕ) → Known (receive_refusal q n k t r input)
  unfolding receive_refusal
  receive-known input = known-first _ _ (choice-known q n k t) (known-first _ _ (row-list-known n r q input) known-none)

  pub receive-told : (input : List ℕ) (a : Received) → a ≡ receive_of q n k t r input
      → Told q n k t (dimension q n (rows_of n r input)) (reduced_of q n (rows_of n r input)) (receive_refusal q n k t r input) a
  unfolding receive_of
  receive-told input a e = rw e (received-told q n k t _ _ _ (receive-known input))
