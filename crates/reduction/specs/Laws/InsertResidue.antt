-- A row v taken into d reduced rows, with its residue in the place after them; no part of the meaning. The bytes after that are 0.
--   residue-is-row, monic-is-row == the residue is a row, and so is it scaled
--   left-lead     == the lead of what is left in row d is the residue's
--   left-zero, left-nonzero, left-asks == it tells whether the residue is zero; what scaling asks, where it is not
--   scaled-is     == what dividing it by its first entry leaves
--   insert-same   == where the residue is zero the rows stay, with zeros after them
--   scaled-rows, scaled-part, scaled-lead, scaled-asks == the rows and row d once the residue is scaled
--   insert-among == where the residue is not zero, it is put among the rows, scaled
-- Assumes nothing.
use Rattle.std.specs.Prelude.{◌≡◌, List, ◌++◌, ℕ, ◌+◌, ◌*◌, ◌-◌, ◌≤◌, ◌<◌, get_or, drop}
use Rattle.std.proofs.Math.Path.{ap, ap₂, sym}
use Rattle.std.proofs.Common.{◌∙◌, arith, drop-drop, ext_get_or}
use Rattle.std.proofs.Math.ListN.{length, take, replicate}
use Rattle.std.proofs.lemmas.List.{length-replicate, get_or-replicate, replicate-append-replicate}
use Rattle.field.specs.FieldLaws.{Laws}
use Rattle.matrix.specs.Matrix.{lead}
use Rattle.linear.specs.Span.{All, Row, rows_of}
use Rattle.linear.specs.Eliminate.{lead_of, residue, monic, put_among, insert_row, join}
use Rattle.linear.specs.Laws.Elimination.{monic-row}
use Rattle.linear.specs.Laws.FlatMatrix.{rows-length, join-length}
use Rattle.linear.specs.Laws.FlatRows.{lead-part, join-taken}
use Rattle.linear.specs.Laws.InsertSteps.{residue-row, insert_row-zero, insert_row-other, monic-lead}
use Rattle.linear.specs.Laws.InsertMany.{Kept, insert-kept}
use Rattle.matrix.specs.Laws.Lead.{lead-before}
use Rattle.linear.specs.Laws.ReducedRows.{rows-sized}
use Rattle.linear.specs.Laws.RowLead.{lead_of-le}
use Rattle.reduction.specs.Padded.{padded}
use Rattle.rows.specs.Laws.Puts.{put-length, part-put, rows-put, after-put, put-put}
use Rattle.reduction.specs.Laws.PutAmong.{put_among-length}
use Rattle.rows.specs.Laws.Steps.{part, put}

zero_row_lem : (q n : ℕ) (v : List ℕ) → Row q n v → lead_of n v ≡ n → v ≡ replicate n 0
unfolding lead_of
zero_row_lem q n v h e =
    ext_get_or 0 v (replicate n 0) (h.0 ∙ sym (length-replicate n 0))
    (λ i l. lead-before (λ j. get_or v j 0) n i (omega (arith, h.0)) ∙ sym (get_or-replicate n i 0 0 (omega (arith, h.0))))

module _ (q : ℕ) (laws : Laws q) (n d : ℕ) (m : List ℕ) (fits : d * n + n ≤ length m) (kept : Kept q n (rows_of n d m))
    (v : List ℕ) (hv : Row q n v) (zeros : drop (d * n + n) m ≡ replicate (length m - (d * n + n)) 0) where
  abbrev rows : List (List ℕ)
  rows = rows_of n d m

  abbrev left : List ℕ
  left = residue q n rows v

  abbrev result : List (List ℕ)
  result = insert_row q n rows v

  pub residue-is-row : Row q n left
  residue-is-row = residue-row q laws n kept.rows v hv

  pub monic-is-row : Row q n (monic q n left)
  monic-is-row = monic-row q laws n left residue-is-row

  result-length : length (join result) ≡ length result * n
  result-length = join-length n (rows-sized q n (insert-kept q laws n rows kept v hv).rows)

  module _ (now : List ℕ) (is : now ≡ put n (d * n) left m) where
    pub left-part : part n (d * n) now ≡ left
    left-part = ap (part n (d * n)) is ∙ part-put n (d * n) left m residue-is-row.0 fits

    pub left-lead : lead (λ j. get_or now (d * n + j) 0) n ≡ lead_of n left
    left-lead = lead-part n now (d * n) ∙ ap (lead_of n) left-part

    -- p is its lead as the code finds it
    module _ (p : ℕ) (lead_is : p ≡ lead (λ j. get_or now (d * n + j) 0) n) where
      pub left-zero : p ≡ n → lead_of n left ≡ n
      left-zero e = sym left-lead ∙ sym lead_is ∙ e

      module _ (other : p ≡ n → ⊥) where
        pub left-nonzero : lead_of n left ≡ n → ⊥
        left-nonzero e = other (lead_is ∙ left-lead ∙ e)

        pub left-asks : (k : ℕ) → k ≡ n
            → Row q n (take k (drop (d * n) now)) × (p ≡ lead_of n (take k (drop (d * n) now))) × (p < n)
        left-asks k e =
            let here : take k (drop (d * n) now) ≡ left = ap (λ x. take x (drop (d * n) now)) e ∙ left-part in
            rw here (residue-is-row, lead_is ∙ left-lead, omega (arith, lead_is, left-lead, lead_of-le q laws n left))

    -- the row divided by its first entry that is not 0, as it is written back
    pub scaled-is : (k : ℕ) → k ≡ n → (new : List ℕ) → new ≡ monic q n (take k (drop (d * n) now))
        → take (d * n) now ++ (new ++ drop k (drop (d * n) now)) ≡ put n (d * n) (monic q n left) m
    scaled-is k e new New-is =
        ap (λ x. take (d * n) now ++ (new ++ x)) (ap (λ x. drop x (drop (d * n) now)) e ∙ drop-drop n (d * n) now)
        ∙ ap (put n (d * n) new) is ∙ put-put n (d * n) left m residue-is-row.0 fits new
        ∙ ap (λ x. put n (d * n) x m) (New-is ∙ ap (monic q n) (ap (λ x. take x (drop (d * n) now)) e ∙ left-part))

    pub insert-same : lead_of n left ≡ n → (rows ≡ result) × (now ≡ padded (length m) (join result))
    unfolding padded
    insert-same z = (
      same,
      is ∙ ap₂ (λ x y. take (d * n) m ++ (x ++ y)) (zero_row_lem q n left residue-is-row z) zeros
          ∙ ap (λ x. take (d * n) m ++ x) (replicate-append-replicate n (length m - (d * n + n)) 0)
          ∙ ap₂ (λ x y. x ++ replicate y 0) (sym (join-taken n m d) ∙ ap join same) size,
    )
      where
        same : rows ≡ result
        same = sym (insert_row-zero q n rows v z)

        size : n + (length m - (d * n + n)) ≡ length m - length (join result)
        size = omega (arith, result-length, ap (λ x. length x * n) same, ap (λ x. x * n) (rows-length n d m))

  module _ (now : List ℕ) (is : now ≡ put n (d * n) (monic q n left) m) where
    pub scaled-rows : rows_of n d now ≡ rows
    scaled-rows = ap (rows_of n d) is ∙ rows-put n (d * n) (monic q n left) m monic-is-row.0 fits d (omega arith)

    pub scaled-part : part n (d * n) now ≡ monic q n left
    scaled-part = ap (part n (d * n)) is ∙ part-put n (d * n) (monic q n left) m monic-is-row.0 fits

    pub scaled-asks : (d * n + n ≤ length now) × All (Row q n) (rows_of n d now) × Row q n (part n (d * n) now)
    scaled-asks = (
      omega (arith, ap length is, put-length n (d * n) (monic q n left) m monic-is-row.0 fits),
      rw scaled-rows kept.rows,
      rw scaled-part monic-is-row,
    )

    module _ (nonzero : lead_of n left ≡ n → ⊥) where
      pub scaled-lead : lead_of n left ≡ lead_of n (part n (d * n) now)
      scaled-lead =
          sym
          (ap (lead_of n) scaled-part
          ∙ monic-lead q laws n left residue-is-row (omega (arith, lead_of-le q laws n left, nonzero)))

      pub among-result : put_among q n (rows_of n d now) (part n (d * n) now) ≡ result
      among-result = ap₂ (put_among q n) scaled-rows scaled-part ∙ sym (insert_row-other q n rows v nonzero)

      pub one_more : d + 1 ≡ length result
      one_more =
          omega
          (arith, ap length (insert_row-other q n rows v nonzero), put_among-length q n (monic q n left) rows, rows-length n d m)

      pub insert-among : (after : List ℕ) → after ≡ join (put_among q n (rows_of n d now) (part n (d * n) now)) ++ drop (d * n + n) now
          → after ≡ padded (length m) (join result)
      unfolding padded
      insert-among after e =
          e ∙ ap₂ (λ x y. join x ++ y) among-result
          (ap (drop (d * n + n)) is ∙ after-put n (d * n) (monic q n left) m monic-is-row.0 fits (d * n + n) (omega arith) ∙ zeros)
          ∙ ap (λ x. join result ++ replicate x 0) size
        where
          size : length m - (d * n + n) ≡ length m - length (join result)
          size = omega (arith, result-length, ap (λ x. x * n) one_more)
