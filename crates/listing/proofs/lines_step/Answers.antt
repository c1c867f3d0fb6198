-- Nothing where the settings are refused or no line is left, else the lines up to the chunk's end.
use Rattle.std.proofs.Common.{◌≡◌, ◌∙◌, ap, sym, arith}
use Rattle.refusal.specs.Laws.First.{number-positive}
use Rattle.settings.specs.Laws.Accepted.{entry-of-accepted}
use Rattle.settings.specs.Laws.Listable.{listable}
use Rattle.listing.specs.Steps.{refusal_of, count_of, lines_end}
use Rattle.listing.specs.Laws.Steps.{is_live, refused-dead, past-dead, end-within, dead-step, live-step}
use Rattle.listing.proofs.lines_step.Goals as goal

pub returns-in_default : goal.returns-in_default
returns-in_default c = dead-step _ _ (refused-dead _ (λ z. number-positive _ (c.in_default.ensures ∙ z)))

pub coefficient-count-requires : goal.coefficient-count-requires
coefficient-count-requires c =
    let p = c.args.progress in
    let unrefused : refusal_of p ≡ 0 = sym c.in-Ok.ensures in
    let a = (listable _ _ _ unrefused).settings in
    (a.size, a.narrow, omega (arith, a.dimension, a.narrow))

pub returns-then-count-index : goal.returns-then-count-index
returns-then-count-index c =
    let p = c.args.progress in
    let unrefused : refusal_of p ≡ 0 = sym c.in-Ok.ensures in
    let counted : c.coefficient-count.result ≡ count_of p =
    c.coefficient-count.ensures ∙ entry-of-accepted _ _ _ (listable _ _ _ unrefused).settings in
    dead-step _ _ (past-dead _ (rw counted at c.if-count-index.true))

pub write_lines-size-requires : goal.write_lines-size-requires
write_lines-size-requires c =
    let p = c.args.progress in
    let unrefused : refusal_of p ≡ 0 = sym c.in-Ok.ensures in
    let lawful = listable _ _ _ unrefused in
    let counted : c.coefficient-count.result ≡ count_of p =
    c.coefficient-count.ensures ∙ entry-of-accepted _ _ _ lawful.settings in
    let inside = rw counted at c.if-count-index.false in
    let within = end-within (count_of p) p.index.0 inside in
    let to = c.lines_end-to.ensures ∙ ap (λ count. lines_end count p.index.0) counted in
    (lawful, omega arith, omega arith, omega arith, omega (arith, c.requires))

pub returns : goal.returns
returns c =
    let p = c.args.progress in
    let unrefused : refusal_of p ≡ 0 = sym c.in-Ok.ensures in
    let counted : c.coefficient-count.result ≡ count_of p =
    c.coefficient-count.ensures ∙ entry-of-accepted _ _ _ (listable _ _ _ unrefused).settings in
    let ends = c.lines_end-to.ensures ∙ ap (λ count. lines_end count p.index.0) counted in
    live-step p _ _ _ _ (is_live p unrefused (rw counted at c.if-count-index.false)) ends c.write_lines-size.ensures.0
    c.write_lines-size.ensures.1
