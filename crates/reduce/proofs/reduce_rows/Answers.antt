-- `reduce::reduce_rows` meets its contract: the reduced rows stand first in the output, and are a reduced matrix with the pivots that
-- the reduction leaves.
use Rattle.std.proofs.Common.{◌≡◌, ℕ, ◌*◌, ◌≤◌, T, List, [], length, replicate, ap, ap₂, sym, ◌∙◌, take, append-nil, arith}
use Rattle.std.proofs.Math.ListN.{length-take}
use Rattle.field.specs.Field.{is_field_size}
use Rattle.field.specs.Laws.Decide.{laws}
use Rattle.matrix.specs.Laws.Tests.{entries_below_lem}
use Rattle.matrix.specs.Matrix.{entries_below, pivot, identifying, Reduced}
use Rattle.linear.specs.Span.{rows_of}
use Rattle.linear.specs.Eliminate.{insert_rows, join, reduced_rows, reduced_of, dimension}
use Rattle.reduction.specs.Padded.{padded}
use Rattle.reduction.specs.Laws.InsertRows.{holds-nothing}
use Rattle.reduction.specs.Laws.Steps.{leads}
use Rattle.reduce.specs.Laws.ReduceRows.{input-most, input-fits, input-front, input-held, input-pivots}
use Rattle.reduce.proofs.reduce_rows.Goals as goal

pub insert_rows-dimension-requires-clause-t : goal.insert_rows-dimension-requires-clause-t
insert_rows-dimension-requires-clause-t c =
    let p = c.requires in
    let asks = holds-nothing _ (laws _ p.0) _ _ p.4 in
    (p.0, asks.0, asks.1)

pub insert_rows-dimension-requires-clause-n_in_bounds : goal.insert_rows-dimension-requires-clause-n_in_bounds
insert_rows-dimension-requires-clause-n_in_bounds c =
    let p = c.requires in
    let asks = holds-nothing _ (laws _ p.0) _ _ p.4 in
    (p.1, asks.2, omega (arith, p.1))

pub insert_rows-dimension-requires-clause-input_len : goal.insert_rows-dimension-requires-clause-input_len
insert_rows-dimension-requires-clause-input_len c = let p = c.requires in (p.2, entries_below_lem _ _ p.3)

-- what the reduction leaves: its rows stand first in the output
module _ (q n r d : ℕ) (rows output : List ℕ)
    (p : T (is_field_size q) × (n ≤ 16) × (length rows ≡ r * n) × T (entries_below q rows) × (output ≡ replicate (n * n) 0))
    (value : d ≡ length (insert_rows q n (rows_of n 0 output) (rows_of n r rows))) where
  counted : d ≡ dimension q n (rows_of n r rows)
  unfolding dimension reduced_rows rows_of
  counted = value

  fit : d * n ≤ 256
  fit = input-fits q n r rows p.0 p.2 p.3 d counted p.1

  module _ (filled : List ℕ) (bytes : filled ≡ padded (n * n) (join (insert_rows q n (rows_of n 0 output) (rows_of n r rows)))) where
    padding : filled ≡ padded (n * n) (reduced_of q n (rows_of n r rows))
    unfolding reduced_of reduced_rows rows_of
    padding = bytes

    front : take (d * n) filled ≡ reduced_of q n (rows_of n r rows)
    front = ap (take (d * n)) (sym (append-nil filled)) ∙ input-front q n r rows p.0 p.2 p.3 d filled [] counted padding

    front-reduced : Reduced q n d (take (d * n) filled)
    front-reduced = rw (sym (append-nil filled)) (input-held q n r rows p.0 p.2 p.3 d filled [] counted padding)

  module _ (pivots : List ℕ) (told : take d pivots ≡ leads n (insert_rows q n (rows_of n 0 output) (rows_of n r rows))) where
    led : take d pivots ≡ leads n (reduced_rows q n (rows_of n r rows))
    unfolding reduced_rows rows_of
    led = told

pub overflow_mul-size : goal.overflow_mul-size
overflow_mul-size c = omega (arith, fit _ _ _ _ _ _ c.requires c.insert_rows-dimension.ensures.value)

pub slice_bounds-vector_of-end : goal.slice_bounds-vector_of-end
slice_bounds-vector_of-end c =
    let left = c.insert_rows-dimension.ensures in
    omega (arith, simp length-take at (front-reduced _ _ _ _ _ _ c.requires left.value _ left.m_after).size)

pub slice_bounds-vector_of-end-2 : goal.slice_bounds-vector_of-end-2
slice_bounds-vector_of-end-2 c = let left = c.insert_rows-dimension.ensures in sym (front-reduced _ _ _ _ _ _ c.requires left.value _ left.m_after).size

pub vector_of-vector-requires : goal.vector_of-vector-requires
vector_of-vector-requires c =
    let p = c.requires in
    let left = c.insert_rows-dimension.ensures in
    let d = counted _ _ _ _ _ _ p left.value in
    let most = input-most c.args.q c.args.n c.args.row_count c.args.rows.now p.0 p.2 p.3 c.insert_rows-dimension.result d in (
      p.1,
      (_, front-reduced _ _ _ _ _ _ p left.value _ left.m_after),
      omega (arith, p.1, most, c.insert_rows-dimension.auto.pivots),
      λ i l.
          input-pivots c.args.q c.args.n c.args.row_count c.args.rows.now p.0 p.2 p.3 c.insert_rows-dimension.result _ d
          (led _ _ _ _ _ _ p left.value _ left.pivots_after) i l
          ∙ ap (λ m. pivot c.args.n m i) (sym (front _ _ _ _ _ _ p left.value _ left.m_after)),
    )

pub returns-clause-value : goal.returns-clause-value
returns-clause-value c =
    let left = c.insert_rows-dimension.ensures in
    let d = counted _ _ _ _ _ _ c.requires left.value in
    ap₂ (λ (d v : ℕ). record { dimension = d; vector = v }) d
    (c.vector_of-vector.ensures ∙ ap₂ (identifying c.args.n) d (front _ _ _ _ _ _ c.requires left.value _ left.m_after))

pub returns-clause-output_after : goal.returns-clause-output_after
returns-clause-output_after c = padding _ _ _ _ _ _ c.requires c.insert_rows-dimension.ensures.value _ c.insert_rows-dimension.ensures.m_after
