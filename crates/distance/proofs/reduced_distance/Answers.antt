-- `distance::reduced_distance` meets its contract: each list is reduced, and the second's reduced rows are taken into the first's.
use Rattle.std.proofs.Common.{◌≡◌, ℕ, ◌*◌, ◌≤◌, List, length, take, sym, arith}
use Rattle.std.proofs.Math.ListN.{length-take}
use Rattle.field.specs.Laws.Decide.{laws}
use Rattle.linear.specs.Span.{rows_of}
use Rattle.linear.specs.Eliminate.{insert_rows, reduced_rows}
use Rattle.reduction.specs.Laws.InsertRows.{Holds, holds-asks, holds-front}
use Rattle.distance.specs.Laws.DistanceAccepted.{DistanceAccepted, list-rows}
use Rattle.distance.specs.Laws.Joint.{distance-low, distance-found}
use Rattle.distance.proofs.reduced_distance.Goals as goal

pub overflow_mul-second_dimension : goal.overflow_mul-second_dimension
overflow_mul-second_dimension c =
    omega (arith, simp length-take at (holds-front _ (laws _ c.requires.distance_accepted.field) _ c.reduced-second_dimension.ensures).1)

pub slice_bounds-insert_rows-end : goal.slice_bounds-insert_rows-end
slice_bounds-insert_rows-end c =
    omega (arith, simp length-take at (holds-front _ (laws _ c.requires.distance_accepted.field) _ c.reduced-second_dimension.ensures).1)

pub slice_bounds-insert_rows-end-2 : goal.slice_bounds-insert_rows-end-2
slice_bounds-insert_rows-end-2 c = sym (holds-front _ (laws _ c.requires.distance_accepted.field) _ c.reduced-second_dimension.ensures).1

pub insert_rows-joint-requires-clause-t : goal.insert_rows-joint-requires-clause-t
insert_rows-joint-requires-clause-t c =
    let field = c.requires.distance_accepted.field in
    let asks = holds-asks _ (laws _ field) _ c.reduced-first_dimension.ensures in
    (field, asks.0, asks.1)

pub insert_rows-joint-requires-clause-n_in_bounds : goal.insert_rows-joint-requires-clause-n_in_bounds
insert_rows-joint-requires-clause-n_in_bounds c =
    let ok = c.requires.distance_accepted in
    let asks = holds-asks _ (laws _ ok.field) _ c.reduced-first_dimension.ensures in
    (omega (arith, ok.narrow), asks.2, omega (arith, ok.narrow))

pub insert_rows-joint-requires-clause-input_len : goal.insert_rows-joint-requires-clause-input_len
insert_rows-joint-requires-clause-input_len c =
    let read = holds-front _ (laws _ c.requires.distance_accepted.field) _ c.reduced-second_dimension.ensures in
    (read.1, read.3)

-- no difference on the way goes below 0
low : {q n r s : ℕ} {input other : List ℕ} → DistanceAccepted q n r input s other → {d e : ℕ} {m o pivots others : List ℕ}
    → Holds q n (reduced_rows q n (rows_of n r input)) d m pivots
    → Holds q n (reduced_rows q n (rows_of n s other)) e o others → (joint : ℕ)
    → joint ≡ length (insert_rows q n (rows_of n d m) (rows_of n e (take (e * n) o))) → (d ≤ joint) × (e ≤ joint) × (joint ≤ 16)
low ok first second joint told =
    let l =
    distance-low _ (laws _ ok.field) _ _ _ (list-rows ok.field ok.first) (list-rows ok.field ok.second) first second joint told
    in (l.0, l.1, omega (arith, l.2, ok.narrow))

pub overflow_mul-result : goal.overflow_mul-result
overflow_mul-result c =
    let l = low c.requires.distance_accepted c.reduced-first_dimension.ensures c.reduced-second_dimension.ensures _ c.insert_rows-joint.ensures.value in
    omega (arith, l.2)

pub overflow_sub-result : goal.overflow_sub-result
overflow_sub-result c =
    let l = low c.requires.distance_accepted c.reduced-first_dimension.ensures c.reduced-second_dimension.ensures _ c.insert_rows-joint.ensures.value in
    omega (arith, l.0)

pub overflow_sub-result-2 : goal.overflow_sub-result-2
overflow_sub-result-2 c =
    let l = low c.requires.distance_accepted c.reduced-first_dimension.ensures c.reduced-second_dimension.ensures _ c.insert_rows-joint.ensures.value in
    omega (arith, l.0, l.1)

pub returns : goal.returns
returns c =
    let ok = c.requires.distance_accepted in
    distance-found _ (laws _ ok.field) _ _ _ (list-rows ok.field ok.first) (list-rows ok.field ok.second) c.reduced-first_dimension.ensures
    c.reduced-second_dimension.ensures _ c.insert_rows-joint.ensures.value
