-- An empty chunk ends the listing, and 1,026 steps do.
use Rattle.std.proofs.Common.{rules, ◌≡◌, ◌+◌, ◌∙◌, ap, sym, arith}
use Rattle.std.proofs.lemmas.Result.{err_from_is_err_and}
use Rattle.listing.specs.Steps.{most_steps, state_after}
use Rattle.listing.specs.Theorems.{chunk-empty, finished}
use Rattle.listing.specs.Laws.Steps.{after_none, after-further}
use Rattle.list.proofs.write_listing.Goals as goal

pub loop-steps-init : goal.loop-steps-init
loop-steps-init g c = after_none _

pub returns-then-size-eq0 : goal.returns-then-size-eq0
returns-then-size-eq0 g c =
    let l = c.loop-steps in (
      c.step-stepped.ensures.0 ∙ after-further l.steps c.args.begin l.state l.invariant,
      c.step-stepped.ensures.0 ∙ (chunk-empty l.state (sym c.step-stepped.ensures.1 ∙ c.if-size-eq0.true)).1,
    )

pub loop-steps-preserved : goal.loop-steps-preserved
loop-steps-preserved g c =
    let l = c.loop-steps in
    c.step-stepped.ensures.0 ∙ after-further l.steps c.args.begin l.state l.invariant

pub returns : goal.returns
returns g c =
    let l = c.loop-steps in
    let all : l.steps ≡ most_steps = omega arith in
    let reached = l.invariant ∙ ap (λ m. state_after m c.args.begin) all in
    (reached, reached ∙ finished c.args.begin)

pub returns-in_err-map_err : goal.returns-in_err-map_err
returns-in_err-map_err g c =
    let p = err_from_is_err_and c.from_residual.result c.from_residual.ensures.1 in
    let l = c.loop-steps in
    let e : c.in_err-map_err.field-0.0 ≡ record { state = c.step-stepped.result.state; steps = l.steps + 1 } = search rules in
    let f : c.in_err-map_err.field-0.0.state ≡ c.step-stepped.result.state = ap (λ x. x.state) e in
    let h : c.in_err-map_err.field-0.0.steps ≡ l.steps + 1 = ap (λ x. x.steps) e in
    rw (p.1, p.2, f, h) (c.step-stepped.ensures.0 ∙ after-further l.steps c.args.begin l.state l.invariant)
