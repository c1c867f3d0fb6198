-- The rows above are cleared, then row d is raised to its place, and so is its lead.
use Rattle.std.proofs.Common.{List, ℕ, ◌∷◌, ◌++◌, ◌+◌, ◌*◌, ◌≤◌, take, drop, ap, ap₂, sym, ◌∙◌, arith}
use Rattle.field.specs.Laws.Decide.{laws}
use Rattle.linear.specs.Span.{rows_of}
use Rattle.linear.specs.Eliminate.{join}
use Rattle.linear.specs.Laws.FlatMatrix.{rows-length}
use Rattle.rows.specs.Laws.Steps.{part, raised}
use Rattle.reduction.specs.Laws.Steps.{leads, above, cleared}
use Rattle.reduction.specs.Laws.PutAmong.{above-le, put_among-bytes}
use Rattle.reduction.specs.Laws.Leads.{leads-among, raised-leads}
use Rattle.reduction.proofs.put_among.Goals as goal

-- the place where the row goes is among the rows
among : (q n d : ℕ) (m : List ℕ) → above n (rows_of n d m) (part n (d * n) m) ≤ d
among q n d m = omega (arith, above-le q n (part n (d * n) m) (rows_of n d m), rows-length n d m)

pub raise-requires : goal.raise-requires
raise-requires c =
    let a = c.args in
    (omega (arith, c.clear_above-at.ensures.value, among a.q a.n a.d a.m.now), omega (arith, c.requires.t.1))

pub returns-clause-m_after : goal.returns-clause-m_after
returns-clause-m_after c =
    let a = c.args in
    let front : List ℕ = join (cleared a.q a.n (rows_of a.n a.d a.m.now) (part a.n (a.d * a.n) a.m.now)) in
    c.raise.ensures
    ∙ ap (raised a.n (a.d * a.n) (c.clear_above-at.result * a.n)) c.clear_above-at.ensures.m_after
    ∙ ap (λ x. raised a.n (a.d * a.n) (x * a.n) (front ++ drop (x * a.n) a.m.now)) c.clear_above-at.ensures.value
    ∙ put_among-bytes a.q a.n a.d a.m.now

pub returns-clause-pivots_after : goal.returns-clause-pivots_after
returns-clause-pivots_after c =
    let a = c.args in
    let b = c.requires.d_in_bounds in
    let rows : List (List ℕ) = rows_of a.n a.d a.m.now in
    let w : List ℕ = part a.n (a.d * a.n) a.m.now in
    let inside : c.clear_above-at.result ≤ a.d = omega (arith, c.clear_above-at.ensures.value, among a.q a.n a.d a.m.now) in
    ap (take (a.d + 1)) c.raise-2.ensures
    ∙ raised-leads a.d c.clear_above-at.result a.p a.pivots.now inside b.0
    ∙ ap₂ (λ x y. take x y ++ (a.p ∷ drop x y)) c.clear_above-at.ensures.value b.1
    ∙ ap (λ x. take (above a.n rows w) (leads a.n rows) ++ (x ∷ drop (above a.n rows w) (leads a.n rows))) b.4
    ∙ sym (leads-among a.q (laws a.q c.requires.t.0) a.n w c.requires.t.3 c.requires.t.2)
