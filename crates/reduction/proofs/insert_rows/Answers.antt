-- A row of the input is handed over as a slice; n rows stay as they are.
use Rattle.std.proofs.Common.{◌≡◌, List, ℕ, ◌+◌, ◌*◌, ◌-◌, ◌<◌, length, get_or, take, drop, ap, add-one, arith}
use Rattle.field.specs.Laws.Decide.{laws}
use Rattle.linear.specs.Span.{All, Row, rows_of}
use Rattle.linear.specs.Eliminate.{insert_rows}
use Rattle.linear.specs.Laws.Every.{all_of}
use Rattle.linear.specs.Laws.FlatRows.{rows-each, rows-valid}
use Rattle.reduction.specs.Laws.InsertRows.{holds-start, holds-asks, holds_more, holds-told, insert_rows-full}
use Rattle.reduction.proofs.insert_rows.Goals as goal

module _ (q n count : ℕ) (input : List ℕ) (h : (length input ≡ count * n) × ((i : ℕ) → i < length input → get_or input i 0 < q)) where
  valid : All (Row q n) (rows_of n count input)
  valid = rows-valid n q input count (omega (arith, h.0)) (all_of 0 input h.1)

  -- row i as the slice that is handed over
  row : (i : ℕ) → i < count → Row q n (take (i * n + n - i * n) (drop (i * n) input))
  row i b = rows-each n input count i (i * n + n - i * n) valid b (omega arith)

pub loop-i-init : goal.loop-i-init
unfolding rows_of insert_rows
loop-i-init c = holds-start _ _ _ _ c.requires.t.1 c.requires.t.2 c.requires.n_in_bounds.1

pub returns-then-held-n : goal.returns-then-held-n
returns-then-held-n c =
    let a = c.args in
    let t = c.requires.t in
    let told =
    holds-told c.loop-i.invariant
    (insert_rows-full a.q (laws a.q t.0) a.n (rows_of a.n a.d a.m.now) a.input.now a.count (valid a.q a.n a.count a.input.now c.requires.input_len) c.loop-i.i c.loop-i.held
    c.loop-i.invariant (omega arith) (omega arith)) in
    record { value = told.0; m_after = told.1.0; pivots_after = told.1.1 }

pub loop-i-preserved : goal.loop-i-preserved
loop-i-preserved c =
    let a = c.args in
    let start : ℕ = c.loop-i.i * a.n in
    let size : start + a.n - start ≡ a.n = omega arith in
    rw add-one
    (holds_more a.q (laws a.q c.requires.t.0) a.n (rows_of a.n a.d a.m.now) a.input.now c.loop-i.i c.loop-i.invariant _
    (row a.q a.n a.count a.input.now c.requires.input_len c.loop-i.i c.loop-i-test.true)
    (ap (λ x. take x (drop start a.input.now)) size) c.insert-held.result _ _
    c.insert-held.ensures.value c.insert-held.ensures.m_after c.insert-held.ensures.pivots_after)

pub insert-held-requires-clause-t : goal.insert-held-requires-clause-t
insert-held-requires-clause-t c =
    let a = c.args in
    let asks = holds-asks a.q (laws a.q c.requires.t.0) a.n c.loop-i.invariant in
    (c.requires.t.0, asks.0, asks.1, row a.q a.n a.count a.input.now c.requires.input_len c.loop-i.i c.loop-i-test.true)

pub insert-held-requires-clause-n_in_bounds : goal.insert-held-requires-clause-n_in_bounds
insert-held-requires-clause-n_in_bounds c =
    let a = c.args in
    let asks = holds-asks a.q (laws a.q c.requires.t.0) a.n c.loop-i.invariant in
    (omega (arith, c.requires.n_in_bounds.0), asks.2, c.requires.n_in_bounds.2)

pub returns : goal.returns
returns c =
    let a = c.args in
    let e : c.loop-i.i ≡ a.count = omega arith in
    let told = holds-told c.loop-i.invariant (ap (λ x. insert_rows a.q a.n (rows_of a.n a.d a.m.now) (rows_of a.n x a.input.now)) e) in
    record { value = told.0; m_after = told.1.0; pivots_after = told.1.1 }
