-- A Receive for C that is not refused; no part of the meaning.
--   ExportedAccepted == what holds where none of 1, 2, 3, 10, 13, 4, 6 refuses
--   exported-accepted, exported-unrefused == it is so exactly there
--   exported-told    == what the answer tells
--   exported-receive == with an answer of the right length it answers as Receive by value
-- Assumes nothing.
use Rattle.std.specs.Prelude.{◌≡◌, refl, true, T, eqb, length}
use Rattle.std.proofs.Math.Path.{ap, sym}
use Rattle.std.proofs.Common.{◌∙◌}
use mathlib.Core.List.{List, [], ◌∷◌}
use Prim.Native.Nat.{ℕ}
use Rattle.std.proofs.Math.Decide.{ℕ_discrete}
use borrow.Author.Tests.{eq-eqb, eqb-true}
use Rattle.basics.specs.Laws.Choice.{holds}
use Rattle.refusal.specs.Refusal.{length_refusal, entry_refusal, refuse_unless, first}
use Rattle.refusal.specs.Laws.First.{first-zero, first-refused, first-passed, test_zero, test-passed, first-none}
use Rattle.refusal.specs.Laws.First.{Known, known-none, known-test, known-first}
use Rattle.refusal.specs.declared.Refusal.TheVariants.{Length, Entry}
use Rattle.numbering.specs.Laws.Chosen.{choice-known}
use Rattle.reduce.specs.Laws.RowList.{rows-size-known}
use Rattle.matrix.specs.Matrix.{entries_below}
use Rattle.linear.specs.Span.{rows_of}
use Rattle.linear.specs.Eliminate.{reduced_of, dimension}
use Rattle.receive.specs.Answer.{Told, received}
use Rattle.receive.specs.Receive.{rows_refusal, receive_refusal, reduced_answer, receive_of}
use Rattle.receive.proofs.Laws.ReceiveAccepted.{RowsAccepted, rows-accepted, receive-split}
use Rattle.receive.proofs.Laws.Space.{received-told}
use Rattle.pandrwyg.specs.Exported.{answer_size, exported_refusal, exported_of}

pub record ExportedAccepted (q n k t r : ℕ) (input : List ℕ) (size : ℕ) : Type 0 where
  pub rows : RowsAccepted q n k t r (length input)
  pub room : size ≡ answer_size
  pub below : T (entries_below q input)

module _ (q n k t r : ℕ) (input : List ℕ) where
  pub exported-accepted : (size : ℕ) → exported_refusal q n k t r input size ≡ 0 → ExportedAccepted q n k t r input size
  unfolding exported_refusal
  exported-accepted size e =
      let entries = refuse_unless (entries_below q input) entry_refusal ∷ [] in
      let s = first-zero (rows_refusal q n k t r (length input)) (refuse_unless (eqb size answer_size) length_refusal ∷ entries) e in
      let o = test_zero (eqb size answer_size) length_refusal entries tt s.1 in
      record {
        rows = rows-accepted q n k t r (length input) s.0;
        room = eqb-true size answer_size o.0;
        below = holds (entries_below q input) (test_zero (entries_below q input) entry_refusal [] tt o.1).0;
      }

  pub exported-unrefused : (size : ℕ) → rows_refusal q n k t r (length input) ≡ 0 → size ≡ answer_size → entries_below q input ≡ true
      → exported_refusal q n k t r input size ≡ 0
  unfolding exported_refusal
  exported-unrefused size e l b =
      first-passed _ _ e ∙ test-passed _ _ _ (eq-eqb size answer_size l) ∙ test-passed _ _ _ b ∙ first-none

  exported-known : (size : ℕ) → Known (exported_refusal q n k t r input size)
  unfolding exported_refusal rows_refusal
  exported-known size =
      known-first _ _
      (known-first _ _ (choice-known q n k t) (known-first _ _ (rows-size-known n r (length input)) known-none))
      (known-first _ _ (known-test _ Length) (known-first _ _ (known-test _ Entry) known-none))

  pub exported-told : (size : ℕ)
      → Told q n k t (dimension q n (rows_of n r input)) (reduced_of q n (rows_of n r input)) (exported_refusal q n k t r input size)
      (exported_of q n k t r input size)
  unfolding exported_of
  exported-told size = received-told _ _ _ _ _ _ (exported_refusal q n k t r input size) (exported-known size)

  -- an answer of the right length adds no refusal
  same : exported_refusal q n k t r input answer_size ≡ receive_refusal q n k t r input
  unfolding exported_refusal
  same = cases (ℕ_discrete (rows_refusal q n k t r (length input)) 0) ∙ sym (receive-split q n k t r input)
    where
      entries : List ℕ
      entries = refuse_unless (entries_below q input) entry_refusal ∷ []

      cases : Dec (rows_refusal q n k t r (length input) ≡ 0)
          → exported_refusal q n k t r input answer_size
          ≡ first (rows_refusal q n k t r (length input) ∷ refuse_unless (entries_below q input) entry_refusal ∷ [])
      cases (yes z) = first-passed _ _ z ∙ test-passed _ _ _ refl ∙ sym (first-passed _ entries z)
      cases (no z) = first-refused _ _ z ∙ sym (first-refused _ entries z)

  pub exported-receive : exported_of q n k t r input answer_size ≡ receive_of q n k t r input
  unfolding exported_of receive_of
  exported-receive = ap (λ x. received x (reduced_answer q n k t r input)) same
