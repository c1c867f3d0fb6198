-- `pool::joined` meets its contract: the first receiver's rows are taken into zeros, the second's into what these leave, and the bytes
-- then hold the reduced rows of both, with zeros up to the end of the array.
use Rattle.std.proofs.Common.{rules, ◌≡◌, sym, ℕ, arith, length}
use Rattle.basics.specs.Laws.Replicate.{take-replicate, drop-replicate, zeros-lent}
use Rattle.reduction.specs.Laws.InsertRows.{holds-nothing}
use Rattle.pool.specs.Laws.Pooling.{field-size, field_laws, narrow, first_fits, second_fits, square-fits, first-length, second-length}
use Rattle.pool.specs.Laws.Pooling.{first_below, second_below}
use Rattle.pool.specs.Laws.Join.{first_taken, again-length, again-lent, again-asks, second-taken}
use Rattle.pool.proofs.joined.Goals as goal

pub overflow_mul-size : goal.overflow_mul-size
overflow_mul-size c =
    let wa : length c.args.a.entries ≡ 256 = search rules in
    let wb : length c.args.b.entries ≡ 256 = search rules in
    omega (arith, square-fits _ _ wa wb c.requires.0 c.requires.1 c.requires.2)

pub overflow_mul-first : goal.overflow_mul-first
overflow_mul-first c =
    let wa : length c.args.a.entries ≡ 256 = search rules in
    let wb : length c.args.b.entries ≡ 256 = search rules in
    omega (arith, first_fits _ _ wa wb c.requires.0 c.requires.1 c.requires.2)

pub shared_ref_as_front-insert_rows : goal.shared_ref_as_front-insert_rows
shared_ref_as_front-insert_rows c =
    let wa : length c.args.a.entries ≡ 256 = search rules in
    let wb : length c.args.b.entries ≡ 256 = search rules in
    first_fits _ _ wa wb c.requires.0 c.requires.1 c.requires.2

pub slice_bounds-entries-end : goal.slice_bounds-entries-end
slice_bounds-entries-end c =
    let wa : length c.args.a.entries ≡ 256 = search rules in
    let wb : length c.args.b.entries ≡ 256 = search rules in
    square-fits _ _ wa wb c.requires.0 c.requires.1 c.requires.2

pub slice_bounds-insert_rows-end-2 : goal.slice_bounds-insert_rows-end-2
slice_bounds-insert_rows-end-2 c =
    let wa : length c.args.a.entries ≡ 256 = search rules in
    let wb : length c.args.b.entries ≡ 256 = search rules in
    sym (zeros-lent _ 256 (square-fits _ _ wa wb c.requires.0 c.requires.1 c.requires.2))

pub insert_rows-held-requires-clause-t : goal.insert_rows-held-requires-clause-t
insert_rows-held-requires-clause-t c =
    let wa : length c.args.a.entries ≡ 256 = search rules in
    let wb : length c.args.b.entries ≡ 256 = search rules in
    let asks = holds-nothing _ (field_laws _ _ wa wb c.requires.0 c.requires.1 c.requires.2) _ _ (take-replicate {A = ℕ} _ 256 0 (square-fits _ _ wa wb c.requires.0 c.requires.1 c.requires.2)) in
    (field-size _ _ wa wb c.requires.0 c.requires.1 c.requires.2, asks.0, asks.1)

pub insert_rows-held-requires-clause-n_in_bounds : goal.insert_rows-held-requires-clause-n_in_bounds
insert_rows-held-requires-clause-n_in_bounds c =
    let wa : length c.args.a.entries ≡ 256 = search rules in
    let wb : length c.args.b.entries ≡ 256 = search rules in
    let asks = holds-nothing _ (field_laws _ _ wa wb c.requires.0 c.requires.1 c.requires.2) _ _ (take-replicate {A = ℕ} _ 256 0 (square-fits _ _ wa wb c.requires.0 c.requires.1 c.requires.2)) in
    let small = narrow _ _ wa wb c.requires.0 c.requires.1 c.requires.2 in
    (small, asks.2, omega (arith, small))

pub insert_rows-held-requires-clause-input_len : goal.insert_rows-held-requires-clause-input_len
insert_rows-held-requires-clause-input_len c =
    let wa : length c.args.a.entries ≡ 256 = search rules in
    let wb : length c.args.b.entries ≡ 256 = search rules in
    (first-length _ _ wa wb c.requires.0 c.requires.1 c.requires.2, first_below _ _ wa wb c.requires.0 c.requires.1 c.requires.2)

pub overflow_mul-second : goal.overflow_mul-second
overflow_mul-second c =
    let wa : length c.args.a.entries ≡ 256 = search rules in
    let wb : length c.args.b.entries ≡ 256 = search rules in
    omega (arith, second_fits _ _ wa wb c.requires.0 c.requires.1 c.requires.2)

pub shared_ref_as_front-insert_rows-2 : goal.shared_ref_as_front-insert_rows-2
shared_ref_as_front-insert_rows-2 c =
    let wa : length c.args.a.entries ≡ 256 = search rules in
    let wb : length c.args.b.entries ≡ 256 = search rules in
    second_fits _ _ wa wb c.requires.0 c.requires.1 c.requires.2

pub slice_bounds-entries-end-2 : goal.slice_bounds-entries-end-2
slice_bounds-entries-end-2 c =
    let wa : length c.args.a.entries ≡ 256 = search rules in
    let wb : length c.args.b.entries ≡ 256 = search rules in
    let e = c.insert_rows-held.ensures in
    let held = first_taken _ _ wa wb c.requires.0 c.requires.1 c.requires.2 _ _ _ _ e.value e.m_after e.pivots_after in
    omega (arith, square-fits _ _ wa wb c.requires.0 c.requires.1 c.requires.2, again-length _ _ wa wb c.requires.0 c.requires.1 c.requires.2 held _ (drop-replicate _ 256 0))

pub slice_bounds-insert_rows-end-5 : goal.slice_bounds-insert_rows-end-5
slice_bounds-insert_rows-end-5 c =
    let wa : length c.args.a.entries ≡ 256 = search rules in
    let wb : length c.args.b.entries ≡ 256 = search rules in
    let e = c.insert_rows-held.ensures in
    let held = first_taken _ _ wa wb c.requires.0 c.requires.1 c.requires.2 _ _ _ _ e.value e.m_after e.pivots_after in
    sym (again-lent _ _ wa wb c.requires.0 c.requires.1 c.requires.2 held _ (drop-replicate _ 256 0))

pub insert_rows-dimension-requires-clause-t : goal.insert_rows-dimension-requires-clause-t
insert_rows-dimension-requires-clause-t c =
    let wa : length c.args.a.entries ≡ 256 = search rules in
    let wb : length c.args.b.entries ≡ 256 = search rules in
    let e = c.insert_rows-held.ensures in
    let held = first_taken _ _ wa wb c.requires.0 c.requires.1 c.requires.2 _ _ _ _ e.value e.m_after e.pivots_after in
    let asks = again-asks _ _ wa wb c.requires.0 c.requires.1 c.requires.2 held _ (drop-replicate _ 256 0) in
    (field-size _ _ wa wb c.requires.0 c.requires.1 c.requires.2, asks.0, asks.1)

pub insert_rows-dimension-requires-clause-n_in_bounds : goal.insert_rows-dimension-requires-clause-n_in_bounds
insert_rows-dimension-requires-clause-n_in_bounds c =
    let wa : length c.args.a.entries ≡ 256 = search rules in
    let wb : length c.args.b.entries ≡ 256 = search rules in
    let e = c.insert_rows-held.ensures in
    let held = first_taken _ _ wa wb c.requires.0 c.requires.1 c.requires.2 _ _ _ _ e.value e.m_after e.pivots_after in
    let asks = again-asks _ _ wa wb c.requires.0 c.requires.1 c.requires.2 held _ (drop-replicate _ 256 0) in
    let small = narrow _ _ wa wb c.requires.0 c.requires.1 c.requires.2 in
    (omega (arith, small, c.insert_rows-held.auto.pivots), asks.2, omega (arith, small))

pub insert_rows-dimension-requires-clause-input_len : goal.insert_rows-dimension-requires-clause-input_len
insert_rows-dimension-requires-clause-input_len c =
    let wa : length c.args.a.entries ≡ 256 = search rules in
    let wb : length c.args.b.entries ≡ 256 = search rules in
    (second-length _ _ wa wb c.requires.0 c.requires.1 c.requires.2, second_below _ _ wa wb c.requires.0 c.requires.1 c.requires.2)

pub returns : goal.returns
returns c =
    let wa : length c.args.a.entries ≡ 256 = search rules in
    let wb : length c.args.b.entries ≡ 256 = search rules in
    let e = c.insert_rows-held.ensures in
    let held = first_taken _ _ wa wb c.requires.0 c.requires.1 c.requires.2 _ _ _ _ e.value e.m_after e.pivots_after in
    let f = c.insert_rows-dimension.ensures in
    second-taken _ _ wa wb c.requires.0 c.requires.1 c.requires.2 held _ (drop-replicate _ 256 0) _ _ f.value f.m_after
