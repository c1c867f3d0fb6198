-- Reduced rows that a flat matrix of room for n rows holds, with zeros after them; no part of the meaning.
--   padded-length, drop-padded == the length of padded bytes, and the zeros at their end
--   held_fits      == the rows held fit
--   held-length, held-zeros == the length, and the zeros after the rows
--   full-same      == a row taken into n rows changes nothing
--   row_room, room-zeros == where there are fewer than n, there is room for one more, and zeros after it
-- Assumes nothing.
use Rattle.std.specs.Prelude.{◌≡◌, List, ℕ, ◌+◌, ◌*◌, ◌-◌, ◌≤◌, ◌<◌, length, drop, replicate}
use Rattle.std.proofs.Common.{ap, sym, ◌∙◌, mul-le-mul_right, arith, length-append}
use Rattle.std.proofs.Math.Decide.{ℕ_discrete}
use Rattle.std.proofs.lemmas.List.{length-replicate}
use Rattle.std.proofs.Math.Seq.{drop-append-add}
use Rattle.basics.specs.Laws.Flat.{row_fits}
use Rattle.basics.specs.Laws.Replicate.{drop-replicate}
use Rattle.field.specs.FieldLaws.{Laws}
use Rattle.linear.specs.Span.{Row, rows_of}
use Rattle.linear.specs.Eliminate.{lead_of, join, residue, monic, insert_row}
use Rattle.linear.specs.Laws.FlatMatrix.{rows-length, join-length}
use Rattle.linear.specs.Laws.InsertSteps.{insert_row-zero, insert_row-other}
use Rattle.linear.specs.Laws.InsertMany.{Kept, insert-kept}
use Rattle.linear.specs.Laws.ReducedOf.{reduced-le}
use Rattle.linear.specs.Laws.ReducedRows.{rows-sized}
use Rattle.reduction.specs.Padded.{padded}
use Rattle.reduction.specs.Laws.PutAmong.{put_among-length}

pub padded-length : (size : ℕ) (l : List ℕ) → length l ≤ size → length (padded size l) ≡ size
unfolding padded
padded-length size l h = length-append l (replicate (size - length l) 0) ∙ omega (arith, length-replicate {A = ℕ} (size - length l) 0)

pub drop-padded : (size k : ℕ) (l : List ℕ) → length l ≤ k → drop k (padded size l) ≡ replicate (size - k) 0
unfolding padded
drop-padded size k l h =
    let e : length l + (k - length l) ≡ k = omega arith in
    let left : size - length l - (k - length l) ≡ size - k = omega arith in
    ap (λ x. drop x (padded size l)) (sym e) ∙ drop-append-add l (replicate (size - length l) 0) (k - length l)
    ∙ drop-replicate (k - length l) (size - length l) 0 ∙ ap (λ x. replicate x 0) left

pub full-same : (q : ℕ) (laws : Laws q) (n : ℕ) {rs : List (List ℕ)} → Kept q n rs → length rs ≡ n → (v : List ℕ) → Row q n v
    → rs ≡ insert_row q n rs v
full-same q laws n {rs} kept full v hv = cases (ℕ_discrete (lead_of n left) n)
  where
    left : List ℕ
    left = residue q n rs v

    result : List (List ℕ)
    result = insert_row q n rs v

    cases : Dec (lead_of n left ≡ n) → rs ≡ result
    cases (yes e) = sym (insert_row-zero q n rs v e)
    cases (no ne) =
        absurd
        (omega (
          arith,
          full,
          reduced-le q n (length result) (join result) (insert-kept q laws n rs kept v hv).reduced,
          ap length (insert_row-other q n rs v ne),
          put_among-length q n (monic q n left) rs,
        ))

module _ (q : ℕ) (laws : Laws q) (n d : ℕ) (m : List ℕ) (kept : Kept q n (rows_of n d m)) (held : m ≡ padded (n * n) (join (rows_of n d m)))
  where
    rows-bytes : length (join (rows_of n d m)) ≡ d * n
    rows-bytes = join-length n (rows-sized q n kept.rows) ∙ ap (λ x. x * n) (rows-length n d m)

    pub held_fits : d ≤ n
    held_fits = omega (arith, reduced-le q n (length (rows_of n d m)) (join (rows_of n d m)) kept.reduced, rows-length n d m)

    bytes_fit : d * n ≤ n * n
    bytes_fit = mul-le-mul_right n held_fits

    pub held-length : length m ≡ n * n
    held-length = ap length held ∙ padded-length (n * n) (join (rows_of n d m)) (omega (arith, rows-bytes, bytes_fit))

    pub held-zeros : (k : ℕ) → d * n ≤ k → drop k m ≡ replicate (n * n - k) 0
    held-zeros k h = ap (drop k) held ∙ drop-padded (n * n) k (join (rows_of n d m)) (omega (arith, rows-bytes))

    module _ (room : d < n) where
      pub row_room : d * n + n ≤ length m
      row_room = omega (arith, row_fits d n n room, held-length)

      pub room-zeros : drop (d * n + n) m ≡ replicate (length m - (d * n + n)) 0
      room-zeros = held-zeros (d * n + n) (omega arith) ∙ ap (λ x. replicate (x - (d * n + n)) 0) (sym held-length)
