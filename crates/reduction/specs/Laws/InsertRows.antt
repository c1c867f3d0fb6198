-- The rows of a matrix taken in one after the other; no part of the meaning.
--   Holds            == the bytes hold the reduced rows rs, d of them, then zeros, and `pivots` their leads
--   holds-start      == as `insert` and `insert_rows` ask for them
--   holds-nothing    == no rows held in bytes that are all zeros, likewise
--   holds_rows       == the rows read back
--   holds-reduced    == after all rows of a list were taken into bytes that held none, their reduced rows
--   holds-front      == the bytes of the rows, and how many they are; they are bytes below q, and the rows are read back from them alone
--   holds-asks       == what taking in a row asks of the rows held
--   holds_more       == after row i of a matrix
--   holds-told       == as the contracts say it
--   insert_rows-full  == n rows held are those after all rows
-- Assumes nothing.
use Rattle.std.specs.Prelude.{◌≡◌, refl, List, [], ◌∷◌, ℕ, zero, suc, ◌+◌, ◌*◌, ◌-◌, ◌≤◌, ◌<◌, get_or, take, replicate}
use Rattle.std.proofs.Math.Path.{ap, ap₂}
use Rattle.std.proofs.Common.{sym, ◌∙◌, subst, zero-add, arith, take_at}
use Rattle.std.proofs.Math.Nat.{sub-zero}
use Rattle.std.proofs.Math.ListN.{length}
use Rattle.field.specs.FieldLaws.{Laws}
use Rattle.linear.specs.Span.{All, Row, rows_of}
use Rattle.linear.specs.Eliminate.{join, insert_row, insert_rows, reduced_rows}
use Rattle.linear.specs.Laws.FlatMatrix.{rows-length, rows_join}
use Rattle.linear.specs.Laws.FlatRows.{rows_last, rows-each, rows-joined}
use Rattle.linear.specs.Laws.InsertMany.{Kept, insert-kept, insert_rows-append}
use Rattle.linear.specs.Laws.ReducedOf.{no_rows, reduced_rows-kept}
use Rattle.linear.specs.Laws.ReducedRows.{rows-sized}
use Rattle.reduction.specs.Padded.{padded}
use Rattle.reduction.specs.Laws.Insert.{full-same}
use Rattle.rows.specs.Laws.Steps.{part}
use Rattle.reduction.specs.Laws.Steps.{leads}

pub record Holds (q n : ℕ) (rs : List (List ℕ)) (d : ℕ) (m pivots : List ℕ) : Type 0 where
  pub kept : Kept q n rs
  pub count : d ≡ length rs
  pub bytes : m ≡ padded (n * n) (join rs)
  pub known : take d pivots ≡ leads n rs

pub holds-start : {q : ℕ} (n d : ℕ) (m pivots : List ℕ) → Kept q n (rows_of n d m) → m ≡ padded (n * n) (join (rows_of n d m))
    → take d pivots ≡ leads n (rows_of n d m) → Holds q n (rows_of n d m) d m pivots
holds-start n d m pivots kept bytes known = record { kept = kept; count = sym (rows-length n d m); bytes = bytes; known = known }

pub holds-nothing : (q : ℕ) → Laws q → (n : ℕ) (m : List ℕ) → m ≡ replicate (n * n) 0
    → Kept q n (rows_of n 0 m) × (m ≡ padded (n * n) (join (rows_of n 0 m))) × ([] ≡ leads n (rows_of n 0 m))
unfolding rows_of join padded leads
holds-nothing q laws n m zeros = (no_rows q laws n, zeros ∙ ap (λ x. replicate x 0) (sym (sub-zero (n * n))), refl)

pub holds-told : {q n : ℕ} {rs : List (List ℕ)} {d : ℕ} {m pivots : List ℕ} → Holds q n rs d m pivots → {ss : List (List ℕ)} → rs ≡ ss
    → (d ≡ length ss) × ((m ≡ padded (n * n) (join ss)) × (take d pivots ≡ leads n ss))
holds-told {n = n} c e =
    (c.count ∙ ap length e, (c.bytes ∙ ap (λ x. padded (n * n) (join x)) e, c.known ∙ ap (leads n) e))

insert_rows-more : (q n : ℕ) (rs : List (List ℕ)) (input : List ℕ) (i : ℕ)
    → insert_rows q n rs (rows_of n (suc i) input) ≡ insert_row q n (insert_rows q n rs (rows_of n i input)) (part n (i * n) input)
unfolding insert_rows
insert_rows-more q n rs input i =
    ap (insert_rows q n rs) (rows_last n input i) ∙ insert_rows-append q n rs (rows_of n i input) (part n (i * n) input ∷ [])

module _ (q : ℕ) (laws : Laws q) (n : ℕ) where
  module _ {rs : List (List ℕ)} {d : ℕ} {m pivots : List ℕ} (c : Holds q n rs d m pivots) where
    pub holds_rows : rows_of n d m ≡ rs
    unfolding padded
    holds_rows =
        ap₂ (rows_of n) c.count c.bytes ∙ rows-joined n (replicate (n * n - length (join rs)) 0) (rows-sized q n c.kept.rows)

    pub holds-asks : Kept q n (rows_of n d m) × (m ≡ padded (n * n) (join (rows_of n d m))) × (take d pivots ≡ leads n (rows_of n d m))
    holds-asks = rw holds_rows (c.kept, c.bytes, c.known)

    pub holds-front : (take (d * n) m ≡ join rs) × (length (take (d * n) m) ≡ d * n) × (rows_of n d (take (d * n) m) ≡ rs)
        × ((i : ℕ) → i < length (take (d * n) m) → get_or (take (d * n) m) i 0 < q)
    unfolding padded
    holds-front = (
      front,
      sized,
      ap₂ (rows_of n) c.count front ∙ rows_join n (rows-sized q n c.kept.rows),
      λ i h. rw front (c.kept.reduced.below i (omega (arith, h, sized, ap (λ x. x * n) c.count))),
    )
      where
        size : length (join rs) ≡ d * n
        size = c.kept.reduced.size ∙ ap (λ x. x * n) (sym c.count)

        front : take (d * n) m ≡ join rs
        front = ap (take (d * n)) c.bytes ∙ take_at (join rs) (replicate (n * n - length (join rs)) 0) (d * n) size

        sized : length (take (d * n) m) ≡ d * n
        sized = ap length front ∙ size

  pub holds-reduced : (rows : List (List ℕ)) → All (Row q n) rows → (start : List ℕ) {d : ℕ} {m pivots : List ℕ}
      → d ≡ length (insert_rows q n (rows_of n 0 start) rows)
      → m ≡ padded (n * n) (join (insert_rows q n (rows_of n 0 start) rows))
      → take d pivots ≡ leads n (insert_rows q n (rows_of n 0 start) rows)
      → Holds q n (reduced_rows q n rows) d m pivots
  unfolding rows_of reduced_rows
  holds-reduced rows h start count bytes known =
      record { kept = reduced_rows-kept q laws n rows h; count = count; bytes = bytes; known = known }

  -- v is row i of the input
  pub holds_more : (rs : List (List ℕ)) (input : List ℕ) (i : ℕ) {d : ℕ} {m pivots : List ℕ}
      → Holds q n (insert_rows q n rs (rows_of n i input)) d m pivots → (v : List ℕ) → Row q n v → v ≡ part n (i * n) input
      → (r : ℕ) (after new : List ℕ) → r ≡ length (insert_row q n (rows_of n d m) v)
      → after ≡ padded (n * n) (join (insert_row q n (rows_of n d m) v)) → take r new ≡ leads n (insert_row q n (rows_of n d m) v)
      → Holds q n (insert_rows q n rs (rows_of n (suc i) input)) r after new
  holds_more rs input i {d} {m} c v hv is r after new count bytes known =
      record {
        kept = subst (Kept q n) taken (insert-kept q laws n _ c.kept v hv);
        count = count ∙ ap length now;
        bytes = bytes ∙ ap (λ x. padded (n * n) (join x)) now;
        known = known ∙ ap (leads n) now;
      }
    where
      taken : insert_row q n (insert_rows q n rs (rows_of n i input)) v ≡ insert_rows q n rs (rows_of n (suc i) input)
      taken = ap (insert_row q n (insert_rows q n rs (rows_of n i input))) is ∙ sym (insert_rows-more q n rs input i)

      now : insert_row q n (rows_of n d m) v ≡ insert_rows q n rs (rows_of n (suc i) input)
      now = ap (λ x. insert_row q n x v) (holds_rows c) ∙ taken

  module _ (rs : List (List ℕ)) (input : List ℕ) (count : ℕ) (rows : All (Row q n) (rows_of n count input)) (i d : ℕ) {m pivots : List ℕ}
      (c : Holds q n (insert_rows q n rs (rows_of n i input)) d m pivots) (full : d ≡ n) where
    -- k rows after the first i
    more_same : (k : ℕ) → k + i ≤ count → insert_rows q n rs (rows_of n (k + i) input) ≡ insert_rows q n rs (rows_of n i input)
    more_same zero h = ap (λ x. insert_rows q n rs (rows_of n x input)) (zero-add i)
    more_same (suc k) h =
        let e : suc k + i ≡ suc (k + i) = omega arith in
        ap (λ x. insert_rows q n rs (rows_of n x input)) e ∙ insert_rows-more q n rs input (k + i)
        ∙ ap (λ x. insert_row q n x (part n ((k + i) * n) input)) (more_same k (omega arith))
        ∙ sym
        (full-same q laws n c.kept (sym c.count ∙ full) (part n ((k + i) * n) input)
        (rows-each n input count (k + i) n rows (omega arith) refl))

    pub insert_rows-full : i ≤ count → insert_rows q n rs (rows_of n i input) ≡ insert_rows q n rs (rows_of n count input)
    insert_rows-full h =
        let e : count - i + i ≡ count = omega arith in
        sym (more_same (count - i) (omega arith)) ∙ ap (λ x. insert_rows q n rs (rows_of n x input)) e
