-- `receiver::Receiver::taken_in` meets its contract: the lent entries hold the receiver's rows, and what the reduction leaves in
-- them, with the zeros after them, is the receiver with the row taken in.
use Rattle.std.proofs.Common.{rules, ◌≡◌, sym, arith, length}
use Rattle.settings.specs.Laws.Accepted.{accepted}
use Rattle.receiver.specs.Receiver.{used}
use Rattle.receiver.specs.Laws.Sound.{sound}
use Rattle.receiver.specs.Laws.TakeAccepted.{accepted-row}
use Rattle.receiver.proofs.Laws.TakenIn.{lent_fits, lent-size, lent-kept, lent-held, lent-leads, taken-raised, taken-held}
use Rattle.receiver.proofs.Receiver.taken_in.Goals as goal

pub overflow_mul-size : goal.overflow_mul-size
overflow_mul-size c =
    let whole : length c.args.self.entries ≡ 256 = search rules in
    omega (arith, lent_fits _ whole (sound _ whole c.requires.0.formed))

pub pivot_columns-requires : goal.pivot_columns-requires
pivot_columns-requires c =
    let whole : length c.args.self.entries ≡ 256 = search rules in
    let s = sound _ whole c.requires.0.formed in
    let n = (accepted _ _ _ s.settings).narrow in
    (n, omega (arith, n, s.fits), (c.args.self.q, (used c.args.self, (s.reduced, c.requires.2))))

pub slice_bounds-entries-end : goal.slice_bounds-entries-end
slice_bounds-entries-end c =
    let whole : length c.args.self.entries ≡ 256 = search rules in
    omega (arith, lent_fits _ whole (sound _ whole c.requires.0.formed), whole)

pub slice_bounds-insert-end : goal.slice_bounds-insert-end
slice_bounds-insert-end c =
    let whole : length c.args.self.entries ≡ 256 = search rules in
    sym (lent-size _ whole (sound _ whole c.requires.0.formed))

pub insert-dimension-requires-clause-t : goal.insert-dimension-requires-clause-t
insert-dimension-requires-clause-t c =
    let whole : length c.args.self.entries ≡ 256 = search rules in
    let s = sound _ whole c.requires.0.formed in
    ((accepted _ _ _ s.settings).size, lent-kept _ whole s, lent-held _ whole s, accepted-row _ _ c.requires.0)

pub insert-dimension-requires-clause-n_in_bounds : goal.insert-dimension-requires-clause-n_in_bounds
insert-dimension-requires-clause-n_in_bounds c =
    let whole : length c.args.self.entries ≡ 256 = search rules in
    let s = sound _ whole c.requires.0.formed in
    let n = (accepted _ _ _ s.settings).narrow in (
      omega (arith, n),
      lent-leads _ whole s _ (omega (arith, n, s.fits)) (c.pivot_columns.ensures _ _ s.reduced c.requires.2),
      omega (arith, n),
    )

pub returns-then-before-dimension : goal.returns-then-before-dimension
returns-then-before-dimension c =
    let whole : length c.args.self.entries ≡ 256 = search rules in
    let left = c.insert-dimension.ensures in
    taken-raised _ whole (sound _ whole c.requires.0.formed) _ (accepted-row _ _ c.requires.0) _ _ left.value left.m_after c.requires.1
    c.if-before-dimension.true

pub returns : goal.returns
returns c =
    let whole : length c.args.self.entries ≡ 256 = search rules in
    let left = c.insert-dimension.ensures in
    taken-held _ whole (sound _ whole c.requires.0.formed) _ (accepted-row _ _ c.requires.0) _ _ left.value left.m_after c.requires.1
    c.if-before-dimension.false
