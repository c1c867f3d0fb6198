-- `distance::reduced` meets its contract: zeros hold no rows.
use Rattle.std.proofs.Common.{arith}
use Rattle.field.specs.Laws.Decide.{laws}
use Rattle.matrix.specs.Laws.Tests.{entries_below_lem}
use Rattle.reduction.specs.Laws.InsertRows.{holds-nothing, holds-reduced}
use Rattle.distance.specs.Laws.DistanceAccepted.{list-rows}
use Rattle.distance.proofs.reduced.Goals as goal

pub insert_rows-dimension-requires-clause-t : goal.insert_rows-dimension-requires-clause-t
insert_rows-dimension-requires-clause-t c =
    let field = c.requires.list.0 in
    let asks = holds-nothing _ (laws _ field) _ _ c.requires.zeros in
    (field, asks.0, asks.1)

pub insert_rows-dimension-requires-clause-n_in_bounds : goal.insert_rows-dimension-requires-clause-n_in_bounds
insert_rows-dimension-requires-clause-n_in_bounds c =
    let narrow = c.requires.list.1 in
    let asks = holds-nothing _ (laws _ c.requires.list.0) _ _ c.requires.zeros in
    (narrow, asks.2, omega (arith, narrow))

pub insert_rows-dimension-requires-clause-input_len : goal.insert_rows-dimension-requires-clause-input_len
insert_rows-dimension-requires-clause-input_len c = let list = c.requires.list.2 in (list.sized, entries_below_lem _ _ list.below)

pub returns : goal.returns
returns c =
    let list = c.requires.list in
    let left = c.insert_rows-dimension.ensures in
    holds-reduced _ (laws _ list.0) _ _ (list-rows list.0 list.2) _ left.value left.m_after left.pivots_after
