-- `receive::space_answer` meets its contract: the dimension is below k, above it, or k.
use Rattle.std.proofs.Common.{◌≡◌, Ok, Err, ap, ap₂, sym, ◌∙◌, arith}
use Rattle.matrix.specs.Matrix.{identifying}
use Rattle.receive.proofs.Laws.Space.{space-few, space-many, space-whole}
use Rattle.receive.specs.declared.Unreceived.TheVariants.{TooFew, TooMany}
use Rattle.receive.proofs.space_answer.Goals as goal

pub returns-then-space-k : goal.returns-then-space-k
returns-then-space-k c = ap (λ s. Err (TooFew s)) c.requires.2 ∙ space-few _ _ _ _ _ _ (omega (arith, c.if-space-k.true))

pub returns-then-k-space : goal.returns-then-k-space
returns-then-k-space c =
    ap (λ s. Err (TooMany s)) c.requires.2 ∙ space-many _ _ _ _ _ _ (omega (arith, c.if-space-k.false)) (omega (arith, c.if-k-space.true))

pub rank-index-requires : goal.rank-index-requires
rank-index-requires c =
    let same : c.args.space.dimension ≡ c.args.k = omega arith in (
      c.requires.0,
      rw (sym same) c.requires.1,
      ap (λ s. s.vector) c.requires.2 ∙ ap (λ k. identifying c.args.n k c.args.matrix.now) same,
    )

pub returns : goal.returns
returns c =
    ap₂ (λ i s. Ok (i, s)) c.rank-index.ensures c.requires.2
    ∙ space-whole _ _ _ _ _ _ (omega (arith, c.if-space-k.false)) (omega (arith, c.if-k-space.false))
