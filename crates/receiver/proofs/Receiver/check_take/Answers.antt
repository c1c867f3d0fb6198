-- `receiver::Receiver::check_take` meets its contract: the tests in their order, each passed or answered.
use Rattle.std.proofs.Common.{rules, ◌≡◌, ap, sym, ◌∙◌, arith, length, eq-eqb, ne_eqb, lt-ltb, le-ltb}
use Rattle.std.proofs.lemmas.Result.{err_from_is_err_and}
use Rattle.refusal.specs.Refusal.{number}
use Rattle.refusal.specs.Laws.First.{test-refused, test-passed, first-none}
use Rattle.receiver.specs.Receiver.{take_refusal}
use Rattle.receiver.specs.Laws.Sound.{sound}
use Rattle.receiver.specs.Laws.Held.{settings-laws}
use Rattle.receiver.proofs.Laws.Formed.{found, missing}
use Rattle.receiver.proofs.Receiver.check_take.Goals as goal

pub returns-in_err-vector-clause-refusal : goal.returns-in_err-vector-clause-refusal
unfolding take_refusal
returns-in_err-vector-clause-refusal c =
    let p = err_from_is_err_and c.from_residual.result c.from_residual.ensures.1 in
    let f = missing _ _ c.formed.ensures _ _ c.in_err-vector.ensures.value in
    rw (p.1, p.2) (ap number f.1 ∙ sym (test-refused _ _ _ tt f.0))

pub returns-then-pack-self-clause-refusal : goal.returns-then-pack-self-clause-refusal
unfolding take_refusal
returns-then-pack-self-clause-refusal c =
    let f = found _ _ c.formed.ensures _ _ c.in_ok-vector.ensures.value in
    sym (test-passed _ _ _ f.0 ∙ test-refused _ _ _ tt (ne_eqb c.args.pack c.args.self.pack (λ z. omega (arith, z, c.if-pack-self.true))))

pub returns-then-row-self-clause-refusal : goal.returns-then-row-self-clause-refusal
unfolding take_refusal
returns-then-row-self-clause-refusal c =
    let f = found _ _ c.formed.ensures _ _ c.in_ok-vector.ensures.value in
    sym
    (test-passed _ _ _ f.0
    ∙ test-passed _ _ _ (eq-eqb _ _ (omega (arith, c.if-pack-self.false)))
    ∙ test-refused _ _ _ tt (ne_eqb _ _ c.if-row-self.true))

pub returns-then-self-greatest-clause-refusal : goal.returns-then-self-greatest-clause-refusal
unfolding take_refusal
returns-then-self-greatest-clause-refusal c =
    let whole : length c.args.self.entries ≡ 256 = search rules in
    let f = found _ _ c.formed.ensures _ _ c.in_ok-vector.ensures.value in
    let large = (settings-laws _ _ _ (sound _ whole f.0).settings).one_below in
    sym
    (test-passed _ _ _ f.0
    ∙ test-passed _ _ _ (eq-eqb _ _ (omega (arith, c.if-pack-self.false)))
    ∙ test-passed _ _ _ (eq-eqb _ _ c.if-row-self.false)
    ∙ test-refused _ _ _ tt (sym (c.greatest-greatest.ensures _ (omega (arith, large))) ∙ le-ltb _ _ c.if-self-greatest.true))

pub returns-clause-refusal : goal.returns-clause-refusal
unfolding take_refusal
returns-clause-refusal c =
    let whole : length c.args.self.entries ≡ 256 = search rules in
    let f = found _ _ c.formed.ensures _ _ c.in_ok-vector.ensures.value in
    let large = (settings-laws _ _ _ (sound _ whole f.0).settings).one_below in
    sym
    (test-passed _ _ _ f.0
    ∙ test-passed _ _ _ (eq-eqb _ _ (omega (arith, c.if-pack-self.false)))
    ∙ test-passed _ _ _ (eq-eqb _ _ c.if-row-self.false)
    ∙ test-passed _ _ _ (sym (c.greatest-greatest.ensures _ (omega (arith, large))) ∙ lt-ltb _ _ c.if-self-greatest.false)
    ∙ first-none)
