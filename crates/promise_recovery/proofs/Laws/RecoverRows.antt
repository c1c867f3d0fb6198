-- Recovery and reception for any reduced matrix of k rows, drawn or not: rows that are Mixed from its rows give its index. No part of the
-- meaning.
--   close-holding  == what Close answers for the receiver that holds some rows
--   recovered      == every list of calls whose accepted rows are Mixed from the matrix's rows
--   receive-rows, exported-rows == what Receive and its C form answer for none to 64 rows
--   received       == Receive of such rows
-- Assumes nothing.
use Rattle.std.specs.Prelude.{◌≡◌, true, List, ◌⊎◌, ℕ, ◌^◌, ◌≤◌, ◌<◌, length}
use Rattle.std.proofs.Math.Path.{refl, ap, sym}
use Rattle.std.proofs.Common.{ap₂, ◌∙◌, subst, inl, inr, arith}
use Rattle.refusal.specs.Laws.First.{done}
use Rattle.field.specs.FieldLaws.{Laws}
use Rattle.settings.specs.Settings.{settings_refusal}
use Rattle.settings.specs.Laws.Accepted.{accepted as settings-accepted}
use Rattle.matrix.specs.Matrix.{Reduced, entries_below}
use Rattle.matrix.specs.Laws.Tests.{entries-below-true}
use Rattle.linear.specs.Span.{All, Row, InSpan, Mixed, rows_of, HasVector}
use Rattle.linear.specs.Eliminate.{join, reduced_of, dimension}
use Rattle.linear.specs.Laws.Every.{all_map, all-at}
use Rattle.linear.specs.Laws.Mixture.{mixed-in-span}
use Rattle.linear.specs.Laws.FlatMatrix.{rows_join, join-length}
use Rattle.linear.specs.Laws.ReducedRows.{join-below, reduced-rows, rows-sized}
use Rattle.numbering.specs.Numbering.{is_numbering, index_of}
use Rattle.numbering.specs.Laws.Chosen.{unrefused}
use Rattle.numbering.specs.Laws.Either.{either, typed-value}
use Rattle.reduce.specs.Reduce.{most_rows}
use Rattle.receive.specs.Answer.{Received, space_answer, received_number}
use Rattle.receive.specs.Receive.{rows_refusal, receive_of}
use Rattle.receive.proofs.Laws.ReceiveAccepted.{rows-unrefused, receive-unrefused}
use Rattle.receiver.specs.Receiver.{Setup, setup_refusal, holding, close_of}
use Rattle.receiver.specs.Laws.Held.{settings-laws, holding-used}
use Rattle.receiver.specs.Laws.TakeAccepted.{close-unrefused}
use Rattle.pandrwyg.specs.Exported.{answer_size, answer_bytes, left_bytes, exported_of, exported_number, exported_bytes}
use Rattle.pandrwyg.specs.Laws.ExportedAccepted.{exported-unrefused, exported-told}
use Rattle.promise_recovery.specs.Calls.{Call, begun, after, accepted}
use Rattle.promise_recovery.specs.Demand.{told, read, Answers, Recovery, Reception}
use Rattle.promise_recovery.proofs.Laws.HoldRows.{well-formed-holding}
use Rattle.promise_recovery.proofs.Laws.After.{after_holds, accepted-rows}
use Rattle.promise_recovery.proofs.Laws.LittleEndian.{read-bytes}
use Rattle.promise_recovery.proofs.Laws.Space.{within-rows, space-typed, space-fewer, space-whole-or-fewer, space-answers}
use Rattle.promise_recovery.proofs.Laws.Space.{vector-fits}

module _ (q n k t : ℕ) (settings : settings_refusal q n k ≡ 0) (known : is_numbering t ≡ true) where
  law : Laws q
  law = settings-laws q n k settings

  module _ (rows : List (List ℕ)) (h : All (Row q n) rows) (few : length rows ≤ most_rows) where
    below : entries_below q (join rows) ≡ true
    below = entries-below-true q (join rows) (all-at (join-below q n h) 0)

    split : rows_of n (length rows) (join rows) ≡ rows
    split = rows_join n (rows-sized q n h)

    rows_none : rows_refusal q n k t (length rows) (length (join rows)) ≡ 0
    rows_none =
        rows-unrefused q n k t (length rows) (length (join rows)) (unrefused q n k t settings known) few (join-length n (rows-sized q n h))

    pub receive-rows : receive_of q n k t (length rows) (join rows) ≡ space_answer q n k t (dimension q n rows) (reduced_of q n rows)
    unfolding receive_of
    receive-rows =
        sym (done _ _ _ (receive-unrefused q n k t (length rows) (join rows) rows_none below))
        ∙ ap (λ x. space_answer q n k t (dimension q n x) (reduced_of q n x)) split

    pub exported-rows : exported_of q n k t (length rows) (join rows) answer_size
        ≡ space_answer q n k t (dimension q n rows) (reduced_of q n rows)
    unfolding exported_of
    exported-rows =
        sym (done _ _ _ (exported-unrefused q n k t (length rows) (join rows) answer_size rows_none refl below))
        ∙ ap (λ x. space_answer q n k t (dimension q n x) (reduced_of q n x)) split

    -- what C is told and left
    exported-left : (b : List ℕ) → length b ≡ answer_size
        → exported_bytes q n k t (length rows) (join rows) b ≡ left_bytes b (space_answer q n k t (dimension q n rows) (reduced_of q n rows))
    unfolding exported_bytes
    exported-left b l = ap (λ x. left_bytes b (exported_of q n k t (length rows) (join rows) x)) l ∙ ap (left_bytes b) exported-rows

    exported-number : exported_number q n k t (length rows) (join rows) answer_size
        ≡ received_number (space_answer q n k t (dimension q n rows) (reduced_of q n rows))
    unfolding exported_number
    exported-number =
        sym (exported-told q n k t (length rows) (join rows) answer_size).number ∙ ap received_number exported-rows

  module _ (m : List ℕ) (R : Reduced q n k m) where
    spanned : {rows : List (List ℕ)} → All (Mixed q n (rows_of n k m)) rows → All (InSpan q n (rows_of n k m)) rows
    spanned = all_map (λ v x. (mixed-in-span q law n (rows_of n k m) (reduced-rows q n R) v).0 x)

    -- the index fits eight bytes
    fits : index_of q n k t m < 2 ^ 64
    fits = omega (arith, (either q n k t settings).index_below m R, (settings-accepted q n k settings).counted)

    module _ (rows : List (List ℕ)) (few : length rows ≤ most_rows) (mixed : All (Mixed q n (rows_of n k m)) rows) where
      each : All (InSpan q n (rows_of n k m)) rows
      each = spanned mixed

      valid : All (Row q n) rows
      valid = within-rows q n k t settings m R rows each

      -- what is answered for their span
      abbrev answer : Received
      answer = space_answer q n k t (dimension q n rows) (reduced_of q n rows)

      by_value_lem : receive_of q n k t (length rows) (join rows) ≡ answer
      by_value_lem = receive-rows rows valid few

      answers : Answers q n k (index_of q n k t m) rows (told answer)
      answers = space-answers q n k t settings m R rows each

      whole-bytes : (b : List ℕ) → length b ≡ answer_size → (v : ℕ) → HasVector q n rows k v
          → exported_bytes q n k t (length rows) (join rows) b ≡ answer_bytes (index_of q n k t m) k v
      whole-bytes b l v h =
          exported-left rows valid few b l ∙ ap (left_bytes b) (space-typed q n k t settings m R rows each v h)
          ∙ ap (λ x. answer_bytes x k v) (typed-value t (index_of q n k t m))

      fewer_bytes : (b : List ℕ) → length b ≡ answer_size → (d v : ℕ) → HasVector q n rows d v → d < k
          → exported_bytes q n k t (length rows) (join rows) b ≡ answer_bytes 0 d v
      fewer_bytes b l d v h g = exported-left rows valid few b l ∙ ap (left_bytes b) (space-fewer q n k t settings m R rows each d v h g)

      -- what C reads is what the answer tells
      reads : (b : List ℕ) → length b ≡ answer_size
          → read (exported_number q n k t (length rows) (join rows) answer_size) (exported_bytes q n k t (length rows) (join rows) b)
          ≡ told answer
      reads b l = cases (space-whole-or-fewer q n k t settings m R rows each)
        where
          number : exported_number q n k t (length rows) (join rows) answer_size ≡ received_number answer
          number = exported-number rows valid few

          small : (d v : ℕ) → HasVector q n rows d v → v < 2 ^ 16
          small = vector-fits q n (settings-accepted q n k settings).narrow rows

          cases : ((v : ℕ) × HasVector q n rows k v) ⊎ ((d v : ℕ) × HasVector q n rows d v × (d < k))
              → read (exported_number q n k t (length rows) (join rows) answer_size) (exported_bytes q n k t (length rows) (join rows) b)
              ≡ told answer
          cases (inl (v, h)) =
              let e = space-typed q n k t settings m R rows each v h in
              ap₂ read (number ∙ ap received_number e) (whole-bytes b l v h)
              ∙ read-bytes 0 (index_of q n k t m) k v fits (small k v h)
              ∙ ap (λ x. record { number = 0; index = x; dimension = k; vector = v }) (sym (typed-value t (index_of q n k t m)))
              ∙ sym (ap told e)
          cases (inr (d, v, h, g)) =
              let e = space-fewer q n k t settings m R rows each d v h g in
              ap₂ read (number ∙ ap received_number e) (fewer_bytes b l d v h g)
              ∙ read-bytes 8 0 d v (omega arith) (small d v h)
              ∙ sym (ap told e)

      pub received : Reception q n k t (index_of q n k t m) rows
      received =
          record {
            answers = subst (λ a. Answers q n k (index_of q n k t m) rows (told a)) (sym by_value_lem) answers;
            typed = λ v h. by_value_lem ∙ space-typed q n k t settings m R rows each v h;
            exported = λ b l. subst (Answers q n k (index_of q n k t m) rows) (sym (reads b l)) answers;
            whole-bytes = whole-bytes;
            fewer_bytes = fewer_bytes;
          }

module _ (s : Setup) (t : ℕ) (settings : setup_refusal s ≡ 0) (known : is_numbering t ≡ true) where
  -- the answer for the span of rows
  abbrev answer_for : List (List ℕ) → Received
  answer_for rows = space_answer s.q s.n s.k t (dimension s.q s.n rows) (reduced_of s.q s.n rows)

  pub close-holding : (rows : List (List ℕ)) → All (Row s.q s.n) rows → close_of (holding s rows) t ≡ answer_for rows
  unfolding holding close_of
  close-holding rows h =
      sym (done _ _ _ (close-unrefused (holding s rows) t (well-formed-holding s settings rows h) known))
      ∙ ap (space_answer s.q s.n s.k t (dimension s.q s.n rows)) (holding-used s settings rows h)

  pub close-after : (cs : List Call) → close_of (after (begun s) cs) t ≡ answer_for (accepted (begun s) cs)
  close-after cs = ap (λ r. close_of r t) (after_holds s settings cs) ∙ close-holding (accepted (begun s) cs) (accepted-rows s settings cs)

  pub recovered : (m : List ℕ) → Reduced s.q s.n s.k m → (cs : List Call)
      → All (Mixed s.q s.n (rows_of s.n s.k m)) (accepted (begun s) cs)
      → Recovery s t (index_of s.q s.n s.k t m) cs
  recovered m R cs mixed =
      let rows = accepted (begun s) cs in
      let within = spanned s.q s.n s.k t settings known m R mixed in
      record {
        answers =
            subst (λ a. Answers s.q s.n s.k (index_of s.q s.n s.k t m) (accepted (begun s) cs) (told a))
            (sym (close-after cs))
            (space-answers s.q s.n s.k t settings m R rows within);
        typed = λ v h. close-after cs ∙ space-typed s.q s.n s.k t settings m R rows within v h;
      }
