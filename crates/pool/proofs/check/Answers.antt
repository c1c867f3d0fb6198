-- `pool::check` meets its contract: the tests in their order, each passed or answered.
use Rattle.std.proofs.Common.{rules, ◌≡◌, sym, ◌∙◌, ◌*◌, arith, length, eq-eqb, ne_eqb}
use Rattle.refusal.specs.Laws.First.{test-refused, test-passed, first-none}
use Rattle.receiver.specs.Laws.Sound.{sound, used-fit}
use Rattle.pool.specs.Pool.{pool_refusal}
use Rattle.pool.proofs.check.Goals as goal

pub returns-then-not-is_formed : goal.returns-then-not-is_formed
unfolding pool_refusal
returns-then-not-is_formed c = sym (test-refused _ _ _ tt (sym c.if-not-is_formed.ensures))

pub returns-then-not-is_formed-2 : goal.returns-then-not-is_formed-2
unfolding pool_refusal
returns-then-not-is_formed-2 c =
    sym (test-passed _ _ _ (sym c.if-not-is_formed.ensures) ∙ test-refused _ _ _ tt (cc))

pub returns-then-not-alike : goal.returns-then-not-alike
unfolding pool_refusal
returns-then-not-alike c =
    sym
    (test-passed _ _ _ (sym c.if-not-is_formed.ensures)
    ∙ test-passed _ _ _ (sym c.if-not-is_formed-2.ensures)
    ∙ test-refused _ _ _ tt (sym c.if-not-alike.ensures))

pub overflow_mul-size : goal.overflow_mul-size
overflow_mul-size c =
    let a = c.args.a in
    let whole : length a.entries ≡ 256 = search rules in
    omega (arith, used-fit a.q a.n a.k a.n (sound a whole (sym c.if-not-is_formed.ensures)).settings (omega arith))

pub returns-then-joint-size : goal.returns-then-joint-size
unfolding pool_refusal
returns-then-joint-size c =
    sym
    (test-passed _ _ _ (sym c.if-not-is_formed.ensures)
    ∙ test-passed _ _ _ (sym c.if-not-is_formed-2.ensures)
    ∙ test-passed _ _ _ (sym c.if-not-alike.ensures)
    ∙ test-refused _ _ _ tt (ne_eqb _ _ c.if-joint-size.true))

pub returns-then-common-size : goal.returns-then-common-size
unfolding pool_refusal
returns-then-common-size c =
    sym
    (test-passed _ _ _ (sym c.if-not-is_formed.ensures)
    ∙ test-passed _ _ _ (sym c.if-not-is_formed-2.ensures)
    ∙ test-passed _ _ _ (sym c.if-not-alike.ensures)
    ∙ test-passed _ _ _ (eq-eqb _ _ c.if-joint-size.false)
    ∙ test-refused _ _ _ tt (ne_eqb c.args.common (c.args.a.n * c.args.a.n) (λ z. omega (arith, z, c.if-common-size.true))))

pub returns : goal.returns
unfolding pool_refusal
returns c =
    sym
    (test-passed _ _ _ (sym c.if-not-is_formed.ensures)
    ∙ test-passed _ _ _ (sym c.if-not-is_formed-2.ensures)
    ∙ test-passed _ _ _ (sym c.if-not-alike.ensures)
    ∙ test-passed _ _ _ (eq-eqb _ _ c.if-joint-size.false)
    ∙ test-passed _ _ _ (eq-eqb _ _ (omega (arith, c.if-common-size.false)))
    ∙ first-none)
