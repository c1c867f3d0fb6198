-- What further sentences of document 01 promise of the calls, said of spans.
--   reduce-spans   == "The output holds the reduced rows, then zeros; the answer is the dimension": where Reduce is not refused, it
--                     answers a d and a v that are the rows' dimension and identifying vector, and leaves a reduced matrix of d rows with
--                     their span, then zeros
--   close_more     == closing more than k dimensions refuses with 9, the true dimension and the true identifying vector
--   receive-more   == so does Receive
--   receive-agrees == by value Receive answers as its C form does with an answer of the right length
--   reduce-ones, receive-ones, close-ones == order 2: "its count of ones is the dimension", of what each of the three calls answers to
--                     whatever it is given, refusals too
-- And which values two definitions have that contracts cite, so that a reader need not believe the text of these:
--   reduced-matrix-exactly == the reduced matrix of rows over any field, and its number of rows, are the one reduced matrix with their span
--   drawn-exactly          == the matrix that is drawn for an index below the count is the one reduced matrix with that index
-- Assumes nothing.
use Rattle.std.specs.Prelude.{◌≡◌, refl, true, List, ◌++◌, ◌↔◌, ℕ, ◌*◌, ◌-◌, ◌≤◌, ◌<◌, length, replicate}
use Rattle.std.proofs.Common.{ap, ap₂, sym, ◌∙◌, arith}
use Rattle.std.specs.Int.Count.{ones}
use Rattle.refusal.specs.Laws.First.{done}
use Rattle.field.specs.FieldLaws.{Laws}
use Rattle.field.specs.Laws.Decide.{laws}
use Rattle.counts.specs.Gaussian.{gaussian}
use Rattle.settings.specs.Settings.{settings_refusal}
use Rattle.matrix.specs.Matrix.{Reduced, identifying}
use Rattle.matrix.specs.Laws.VectorOnes.{identifying-ones}
use Rattle.linear.specs.Span.{All, Row, SameSpan, rows_of, HasVector}
use Rattle.linear.specs.Eliminate.{join, reduced_of, dimension}
use Rattle.linear.specs.Laws.ReducedOf.{reduced_of-reduced, reduced_of-span, reduced_of-unique, vector-has}
use Rattle.reduction.specs.Padded.{padded}
use Rattle.numbering.specs.Numbering.{is_numbering, index_of, drawn}
use Rattle.numbering.specs.Laws.Either.{either}
use Rattle.reduce.specs.Reduce.{most_rows, reduce_refusal, reduce_of, reduce_buffer, reduction_dimension, reduction_vector}
use Rattle.reduce.specs.Laws.ReduceAccepted.{reduce-accepted, reduce-told}
use Rattle.reduce.specs.Laws.ReduceRows.{input-rows, input-reduced}
use Rattle.receive.specs.Answer.{space_answer, received_dimension, received_vector}
use Rattle.receive.specs.Receive.{receive_of}
use Rattle.receive.proofs.Laws.ReceiveAccepted.{receive-accepted, receive-told}
use Rattle.receive.proofs.Laws.Space.{space-many, ones-unless, told-ones}
use Rattle.receiver.specs.Receiver.{setup, used, close_refusal, close_of}
use Rattle.receiver.specs.Laws.Sound.{sound}
use Rattle.receiver.specs.Laws.TakeAccepted.{close-accepted, close-told}
use Rattle.receiver.specs.declared.Receiver.{Receiver}
use Rattle.receiver.specs.Laws.Held.{settings-laws}
use Rattle.pandrwyg.specs.Exported.{answer_size, exported_of}
use Rattle.pandrwyg.specs.Laws.ExportedAccepted.{exported-receive}
use Rattle.promise_recovery.specs.Calls.{Call, begun, after, accepted}
use Rattle.promise_recovery.specs.Demand.{told}
use Rattle.promise_recovery.proofs.Laws.After.{accepted-rows}
use Rattle.promise_recovery.proofs.Laws.RecoverRows.{receive-rows, close-after}

pub reduced-matrix-exactly : (q : ℕ) → Laws q → (n : ℕ) (rows : List (List ℕ)) → All (Row q n) rows
    → (d : ℕ) (m : List ℕ)
    → (Reduced q n d m × SameSpan q n (rows_of n d m) rows) ↔ ((d ≡ dimension q n rows) × (m ≡ reduced_of q n rows))
reduced-matrix-exactly q law n rows h d m = (
  λ x. reduced_of-unique q law n rows h d m x.0 x.1,
  λ e. rw (e.0, e.1) (reduced_of-reduced q law n rows h, reduced_of-span q law n rows h),
)

pub reduce-spans : (q n r : ℕ) (input output : List ℕ) → reduce_refusal q n r input (length output) ≡ 0
    → (d v : ℕ) × (m : List ℕ)
    × (reduction_dimension (reduce_of q n r input (length output)) ≡ d)
    × (reduction_vector (reduce_of q n r input (length output)) ≡ v)
    × HasVector q n (rows_of n r input) d v
    × (reduce_buffer q n r input output ≡ m ++ replicate (n * n - d * n) 0)
    × Reduced q n d m
    × SameSpan q n (rows_of n d m) (rows_of n r input)
unfolding reduce_buffer padded
reduce-spans q n r input output z =
    let a = reduce-accepted q n r input (length output) z in
    let rows = rows_of n r input in
    let law = laws q a.field in
    let h = input-rows q n r input a.field a.sized a.below in
    let x = (reduced-matrix-exactly q law n rows h (dimension q n rows) (reduced_of q n rows)).1 (refl, refl) in (
      dimension q n rows,
      identifying n (dimension q n rows) (reduced_of q n rows),
      reduced_of q n rows,
      (reduce-told q n r input (length output) _ refl).1 ∙ sym (done _ _ _ z),
      (reduce-told q n r input (length output) _ refl).2 ∙ sym (done _ _ _ z),
      (vector-has q law n rows h _ _).1 (refl, refl),
      sym (done _ _ _ z) ∙ ap (λ x. reduced_of q n rows ++ replicate (n * n - x) 0) x.0.size,
      x.0,
      x.1,
    )

module _ (q n k t : ℕ) (settings : settings_refusal q n k ≡ 0) (known : is_numbering t ≡ true) where
  -- the answer for more than k dimensions
  more : (rows : List (List ℕ)) → All (Row q n) rows → (d v : ℕ) → HasVector q n rows d v → k < d
      → told (space_answer q n k t (dimension q n rows) (reduced_of q n rows)) ≡ record { number = 9; index = 0; dimension = d; vector = v }
  more rows h d v has g =
      let e = (vector-has q (settings-laws q n k settings) n rows h d v).0 has in
      let same : dimension q n rows ≡ d = e.0 in
      ap told (sym (space-many q n k t (dimension q n rows) (reduced_of q n rows) (omega arith) (omega arith)))
      ∙ ap₂ (λ x y. record { number = 9; index = 0; dimension = x; vector = y }) e.0 e.1

  pub close_more : (pack : ℕ) → let s = setup q n k pack in
      (cs : List Call) (d v : ℕ) → HasVector q n (accepted (begun s) cs) d v → k < d
      → told (close_of (after (begun s) cs) t) ≡ record { number = 9; index = 0; dimension = d; vector = v }
  close_more pack cs d v has g =
      let s = setup q n k pack in
      ap told (close-after s t settings known cs) ∙ more (accepted (begun s) cs) (accepted-rows s settings cs) d v has g

  pub receive-more : (rows : List (List ℕ)) → All (Row q n) rows → length rows ≤ most_rows → (d v : ℕ) → HasVector q n rows d v → k < d
      → told (receive_of q n k t (length rows) (join rows)) ≡ record { number = 9; index = 0; dimension = d; vector = v }
  receive-more rows h few d v has g = ap told (receive-rows q n k t settings known rows h few) ∙ more rows h d v has g

pub drawn-exactly : (q n k t : ℕ) → settings_refusal q n k ≡ 0 → (i : ℕ) → i < gaussian q n k
    → (m : List ℕ) → (Reduced q n k m × (index_of q n k t m ≡ i)) ↔ (m ≡ drawn q n k t i)
drawn-exactly q n k t settings i h m =
    let o = either q n k t settings in
    (λ x. sym (o.drawn-of-index m x.0) ∙ ap (drawn q n k t) x.1, λ e. rw e (o.drawn-reduced i h, o.index-of-drawn i h))

pub receive-agrees : (q n k t r : ℕ) (input : List ℕ) → exported_of q n k t r input answer_size ≡ receive_of q n k t r input
receive-agrees = exported-receive

pub reduce-ones : (q n r : ℕ) (input : List ℕ) (size : ℕ)
    → ones (reduction_vector (reduce_of q n r input size)) ≡ reduction_dimension (reduce_of q n r input size)
reduce-ones q n r input size =
    let x = reduce-told q n r input size _ refl in
    ap ones x.2
    ∙ ones-unless (reduce_refusal q n r input size) (dimension q n (rows_of n r input)) _
    (λ z. let a = reduce-accepted q n r input size z in identifying-ones (input-reduced q n r input a.field a.sized a.below))
    ∙ sym x.1

pub receive-ones : (q n k t r : ℕ) (input : List ℕ)
    → ones (received_vector (receive_of q n k t r input)) ≡ received_dimension (receive_of q n k t r input)
receive-ones q n k t r input =
    told-ones q n k t _ _ _ _ (receive-told q n k t r input _ refl)
    (λ z.
    let a = receive-accepted q n k t r input z in
    input-reduced q n r input a.0.choice.settings.size a.0.sized a.1)

pub close-ones : (r : Receiver) → length r.entries ≡ 256 → (t : ℕ)
    → ones (received_vector (close_of r t)) ≡ received_dimension (close_of r t)
close-ones r size t =
    told-ones r.q r.n r.k t _ (used r) (close_refusal r t) _ (close-told r t _ refl)
    (λ z. (sound r size (close-accepted r t z).formed).reduced)
