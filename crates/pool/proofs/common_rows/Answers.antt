-- `pool::common_rows` meets its contract: the stack of both receivers' rows is lent and reduced, and the right halves of the rows that
-- lead there are the rows of the common space.
use Rattle.std.proofs.Common.{rules, ◌≡◌, sym, ◌∙◌, ℕ, arith, length}
use Rattle.reduction.specs.Laws.InsertRows.{holds-nothing}
use Rattle.basics.specs.Laws.Replicate.{take-replicate, zeros-lent, zeros-behind}
use Rattle.pool.specs.Laws.Pooling.{narrow, field-size, field_laws}
use Rattle.pool.specs.Laws.CommonRows.{double-low, count_low, double-square, stack-fits}
use Rattle.pool.specs.Laws.CommonRows.{stack-size, stack-length, stack-below}
use Rattle.pool.specs.Laws.CommonRows.{found-few, found-fits, found-leads, halves-few, halves-told}
use Rattle.pool.proofs.common_rows.Goals as goal

pub overflow_add-count : goal.overflow_add-count
overflow_add-count c =
    let wa : length c.args.a.entries ≡ 256 = search rules in
    let wb : length c.args.b.entries ≡ 256 = search rules in
    omega (arith, count_low _ _ wa wb c.requires.0 c.requires.1 c.requires.2)

pub overflow_mul-rows : goal.overflow_mul-rows
overflow_mul-rows c =
    let wa : length c.args.a.entries ≡ 256 = search rules in
    let wb : length c.args.b.entries ≡ 256 = search rules in
    omega (arith, stack-fits _ _ wa wb c.requires.0 c.requires.1 c.requires.2)

pub slice_bounds-rows-end : goal.slice_bounds-rows-end
slice_bounds-rows-end c =
    let wa : length c.args.a.entries ≡ 256 = search rules in
    let wb : length c.args.b.entries ≡ 256 = search rules in
    omega (arith, stack-fits _ _ wa wb c.requires.0 c.requires.1 c.requires.2, stack-size _ _ wa wb c.requires.0 c.requires.1 c.requires.2 _ c.stacked-rows.ensures)

pub slice_bounds-insert_rows-end : goal.slice_bounds-insert_rows-end
slice_bounds-insert_rows-end c =
    let wa : length c.args.a.entries ≡ 256 = search rules in
    let wb : length c.args.b.entries ≡ 256 = search rules in
    sym (stack-length _ _ wa wb c.requires.0 c.requires.1 c.requires.2 _ c.stacked-rows.ensures)

pub overflow_mul-matrix : goal.overflow_mul-matrix
overflow_mul-matrix c =
    let wa : length c.args.a.entries ≡ 256 = search rules in
    let wb : length c.args.b.entries ≡ 256 = search rules in
    omega (arith, double-square _ _ wa wb c.requires.0 c.requires.1 c.requires.2)

pub slice_bounds-matrix-end : goal.slice_bounds-matrix-end
slice_bounds-matrix-end c =
    let wa : length c.args.a.entries ≡ 256 = search rules in
    let wb : length c.args.b.entries ≡ 256 = search rules in
    double-square _ _ wa wb c.requires.0 c.requires.1 c.requires.2

pub slice_bounds-insert_rows-end-2 : goal.slice_bounds-insert_rows-end-2
slice_bounds-insert_rows-end-2 c =
    let wa : length c.args.a.entries ≡ 256 = search rules in
    let wb : length c.args.b.entries ≡ 256 = search rules in
    sym (zeros-lent _ 1024 (double-square _ _ wa wb c.requires.0 c.requires.1 c.requires.2))

pub insert_rows-d-requires-clause-t : goal.insert_rows-d-requires-clause-t
insert_rows-d-requires-clause-t c =
    let wa : length c.args.a.entries ≡ 256 = search rules in
    let wb : length c.args.b.entries ≡ 256 = search rules in
    let asks = holds-nothing _ (field_laws _ _ wa wb c.requires.0 c.requires.1 c.requires.2) _ _ (take-replicate {A = ℕ} _ 1024 0 (double-square _ _ wa wb c.requires.0 c.requires.1 c.requires.2)) in
    (field-size _ _ wa wb c.requires.0 c.requires.1 c.requires.2, asks.0, asks.1)

pub insert_rows-d-requires-clause-n_in_bounds : goal.insert_rows-d-requires-clause-n_in_bounds
insert_rows-d-requires-clause-n_in_bounds c =
    let wa : length c.args.a.entries ≡ 256 = search rules in
    let wb : length c.args.b.entries ≡ 256 = search rules in
    let asks = holds-nothing _ (field_laws _ _ wa wb c.requires.0 c.requires.1 c.requires.2) _ _ (take-replicate {A = ℕ} _ 1024 0 (double-square _ _ wa wb c.requires.0 c.requires.1 c.requires.2)) in
    let low = double-low _ _ wa wb c.requires.0 c.requires.1 c.requires.2 in
    (low, asks.2, omega (arith, low))

pub insert_rows-d-requires-clause-input_len : goal.insert_rows-d-requires-clause-input_len
insert_rows-d-requires-clause-input_len c =
    let wa : length c.args.a.entries ≡ 256 = search rules in
    let wb : length c.args.b.entries ≡ 256 = search rules in
    (stack-length _ _ wa wb c.requires.0 c.requires.1 c.requires.2 _ c.stacked-rows.ensures, stack-below _ _ wa wb c.requires.0 c.requires.1 c.requires.2 _ c.stacked-rows.ensures)

pub right_halves-requires-clause-n_in_bounds : goal.right_halves-requires-clause-n_in_bounds
right_halves-requires-clause-n_in_bounds c =
    let wa : length c.args.a.entries ≡ 256 = search rules in
    let wb : length c.args.b.entries ≡ 256 = search rules in
    let e = c.insert_rows-d.ensures in
    let small = narrow _ _ wa wb c.requires.0 c.requires.1 c.requires.2 in
    let size = zeros-behind _ 1024 (double-square _ _ wa wb c.requires.0 c.requires.1 c.requires.2) _ (c.insert_rows-d.auto.m ∙ zeros-lent _ 1024 (double-square _ _ wa wb c.requires.0 c.requires.1 c.requires.2)) in (
      omega (arith, found-fits _ _ wa wb c.requires.0 c.requires.1 c.requires.2 _ c.stacked-rows.ensures _ _ _ _ (e.value, (e.m_after, e.pivots_after)), size),
      omega (arith, found-few _ _ wa wb c.requires.0 c.requires.1 c.requires.2 _ c.stacked-rows.ensures _ _ _ _ (e.value, (e.m_after, e.pivots_after)), small, c.insert_rows-d.auto.pivots),
      c.requires.3,
      small,
    )

pub right_halves-requires-clause-pivots_value : goal.right_halves-requires-clause-pivots_value
right_halves-requires-clause-pivots_value c =
    let wa : length c.args.a.entries ≡ 256 = search rules in
    let wb : length c.args.b.entries ≡ 256 = search rules in
    let e = c.insert_rows-d.ensures in
    found-leads _ _ wa wb c.requires.0 c.requires.1 c.requires.2 _ c.stacked-rows.ensures _ _ _ _ (e.value, (e.m_after, e.pivots_after)) _

pub right_halves-requires-clause-m_len_bound : goal.right_halves-requires-clause-m_len_bound
right_halves-requires-clause-m_len_bound c =
    let wa : length c.args.a.entries ≡ 256 = search rules in
    let wb : length c.args.b.entries ≡ 256 = search rules in
    let e = c.insert_rows-d.ensures in
    halves-few _ _ wa wb c.requires.0 c.requires.1 c.requires.2 _ c.stacked-rows.ensures _ _ _ _ (e.value, (e.m_after, e.pivots_after)) _

pub returns-clause-value : goal.returns-clause-value
returns-clause-value c =
    let wa : length c.args.a.entries ≡ 256 = search rules in
    let wb : length c.args.b.entries ≡ 256 = search rules in
    let e = c.insert_rows-d.ensures in
    (halves-told _ _ wa wb c.requires.0 c.requires.1 c.requires.2 _ c.stacked-rows.ensures _ _ _ _ (e.value, (e.m_after, e.pivots_after)) _ _ _ (c.right_halves.ensures.value, c.right_halves.ensures.out_after)).0

pub returns-clause-out_after : goal.returns-clause-out_after
returns-clause-out_after c =
    let wa : length c.args.a.entries ≡ 256 = search rules in
    let wb : length c.args.b.entries ≡ 256 = search rules in
    let e = c.insert_rows-d.ensures in
    (halves-told _ _ wa wb c.requires.0 c.requires.1 c.requires.2 _ c.stacked-rows.ensures _ _ _ _ (e.value, (e.m_after, e.pivots_after)) _ _ _ (c.right_halves.ensures.value, c.right_halves.ensures.out_after)).1
