-- What is known after the row, whether it extends the rows above or not.
use Rattle.std.proofs.Common.{◌-◌, ◌^◌, ◌/◌, ◌≤◌, refl, ◌∙◌, sym, add-one, arith, pow_mono, pow_pos}
use Rattle.std.specs.Int.Count.{count_trailing_zeros}
use Rattle.walk.proofs.Laws.Ended.{extends-of, ended-broken, ended-sound, room_for}
use Rattle.walk.proofs.Walk.end_row.Goals as goal

pub returns-then-not-extends : goal.returns-then-not-extends
returns-then-not-extends c =
    let a = c.args in
    ended-broken 32 a.n a.self a.row _ refl (sym c.extends.ensures ∙ c.if-not-extends.true) _ c.bound_with-bound.ensures

pub add_pivot-requires : goal.add_pivot-requires
add_pivot-requires c =
    let a = c.args in
    let p = count_trailing_zeros 32 a.row.code / 2 in
    let x = extends-of _ _ _ (sym c.extends.ensures ∙ c.if-not-extends.false) in
    let wide : 2 ^ a.n ≤ 2 ^ 16 = pow_mono c.requires.0 in (
      c.requires.0,
      x.inside,
      omega (arith, room_for a.n a.self.vector a.self.least p c.requires.1 x.inside x.right, pow_pos (a.n - 1 - p), wide),
    )

pub returns : goal.returns
returns c =
    let a = c.args in
    rw add-one
    (ended-sound 32 a.n a.self a.row _ refl (sym c.extends.ensures ∙ c.if-not-extends.false) _ _ c.bound_with-bound.ensures
    c.add_pivot.ensures)
