-- The row that i has come to is handed over as a slice, and its lead is read from `pivots`.
use Rattle.std.proofs.Common.{◌≡◌, List, ℕ, ◌+◌, ◌*◌, ◌-◌, ◌<◌, length, take, drop, replicate, ap, ◌∙◌, add-one, arith, length-drop, length-take-le}
use Rattle.basics.specs.Laws.Flat.{row_fits}
use Rattle.reduction.specs.Laws.LeadsRead.{lead-taken}
use Rattle.double_rows.specs.Laws.Fill.{halves-grow}
use Rattle.double_rows.specs.Laws.Stack.{halved-start, halved-room, halved-step}
use Rattle.double_rows.proofs.right_halves.Goals as goal

handed : (n at : ℕ) (m : List ℕ) → take (at + n + n - at) (drop at m) ≡ take (n + n) (drop at m)
handed n at m = let e : at + n + n - at ≡ n + n = omega arith in ap (λ x. take x (drop at m)) e

pub loop-i-init : goal.loop-i-init
loop-i-init c =
    halved-start c.args.n c.args.m.now _ (c.clear.ensures ∙ ap (λ x. replicate x 0) c.requires.n_in_bounds.2)

pub put_half-count-requires : goal.put_half-count-requires
put_half-count-requires c =
    let a = c.args in
    let b = c.requires.n_in_bounds in
    let i = c.loop-i.i in
    let at = i * (a.n + a.n) in
    let below : i < a.d = omega (arith, length-take-le a.d a.pivots.now b.1) in
    let fits = row_fits i a.d (a.n + a.n) below in
    let lead = lead-taken (a.n + a.n) a.d a.m.now a.pivots.now c.requires.pivots_value i below in (
      ap length (handed a.n at a.m.now)
          ∙ length-take-le (a.n + a.n) (drop at a.m.now) (omega (arith, fits, b.0, length-drop at a.m.now)),
      λ h.
          omega (
            arith,
            b.2,
            halved-room a.n a.m.now i a.d c.loop-i.count c.loop-i.out c.loop-i.invariant below b.0 (omega (arith, lead))
                c.requires.m_len_bound,
          ),
      omega (arith, c.loop-i.invariant.many, halves-grow a.n a.m.now i a.d (omega (arith, below)), c.requires.m_len_bound),
      b.3,
    )

pub loop-i-preserved : goal.loop-i-preserved
loop-i-preserved c =
    let a = c.args in
    let b = c.requires.n_in_bounds in
    let i = c.loop-i.i in
    let below : i < a.d = omega (arith, length-take-le a.d a.pivots.now b.1) in
    rw add-one
    (halved-step a.n a.m.now i a.d c.loop-i.count c.loop-i.out c.loop-i.invariant below b.0 c.requires.m_len_bound _
    (handed a.n (i * (a.n + a.n)) a.m.now) _ (lead-taken (a.n + a.n) a.d a.m.now a.pivots.now c.requires.pivots_value i below) _ _
    c.put_half-count.ensures.value c.put_half-count.ensures.out_after)
