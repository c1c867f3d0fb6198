-- `pool::stacked` meets its contract: the first receiver's rows are written at the front, the second's behind them.
use Rattle.std.proofs.Common.{rules, ◌≡◌, true, false, ap, ap₂, ◌∙◌, ℕ, List, ◌++◌, ◌+◌, ◌*◌, ◌≤◌, arith, length, take, mul-le-mul}
use Rattle.linear.specs.Span.{rows_of}
use Rattle.linear.specs.Eliminate.{join}
use Rattle.reduction.specs.Padded.{padded}
use Rattle.spaces.specs.Spaces.{wide_rows, stacked}
use Rattle.double_rows.specs.Laws.Fill.{padded-none, padded-taken, padded-size, padded-again, wide-length}
use Rattle.receiver.specs.Receiver.{well_formed, held_rows}
use Rattle.receiver.specs.declared.Receiver.{Receiver}
use Rattle.pool.specs.Pool.{alike}
use Rattle.pool.specs.Laws.Pooling.{narrow, first-low, first_fits, second_fits, first-length, stack-joined}
use Rattle.pool.proofs.stacked.Goals as goal

module _ (a b : Receiver) (whole-a : length a.entries ≡ 256) (whole-b : length b.entries ≡ 256) (formed-a : well_formed a ≡ true)
    (formed-b : well_formed b ≡ true) (same : alike a b ≡ true) where
  small : a.n ≤ 16
  small = narrow a b whole-a whole-b formed-a formed-b same

  -- the rows of the first receiver, of double width
  double-a : a.dimension * (a.n + a.n) ≤ 512
  double-a =
      mul-le-mul {n₁ = a.dimension} {m₁ = a.n + a.n} {n₂ = 16} {m₂ = 32}
      (omega (arith, first-low a b whole-a whole-b formed-a formed-b same, small)) (omega (arith, small))

  -- what is written of the first receiver, and of the second
  front : List ℕ
  front = join (wide_rows true a.n (rows_of a.n a.dimension (take (a.dimension * a.n) a.entries)))

  behind : List ℕ
  behind = join (wide_rows false a.n (rows_of a.n b.dimension (take (b.dimension * a.n) b.entries)))

  module _ (out : List ℕ) (wrote : out ≡ padded 1024 front) where
    front_length : length front ≡ a.dimension * (a.n + a.n)
    unfolding front
    front_length =
        wide-length true a.n a.dimension _
        (omega (arith, first-length a b whole-a whole-b formed-a formed-b same))

    sized : length out ≡ 1024
    sized = padded-size 1024 _ front _ wrote front_length (omega (arith, double-a))

    again : out ≡ padded (length out) (take (a.dimension * (a.n + a.n)) out)
    again = padded-again 1024 _ front _ wrote front_length (omega (arith, double-a))

    both : padded (length out) (take (a.dimension * (a.n + a.n)) out ++ behind)
        ≡ padded 1024 (join (stacked a.n (held_rows a) (held_rows b)))
    unfolding front behind
    both =
        ap₂ (λ (x : ℕ) (y : List ℕ). padded x (y ++ behind)) sized
        (padded-taken 1024 _ front _ wrote front_length (omega (arith, double-a)))
        ∙ ap (padded 1024) (stack-joined a b whole-a whole-b formed-a formed-b same)

pub overflow_add-middle : goal.overflow_add-middle
overflow_add-middle c =
    let wa : length c.args.a.entries ≡ 256 = search rules in
    let wb : length c.args.b.entries ≡ 256 = search rules in
    omega (arith, small _ _ wa wb c.requires.0 c.requires.1 c.requires.2)

pub overflow_mul-middle : goal.overflow_mul-middle
overflow_mul-middle c =
    let wa : length c.args.a.entries ≡ 256 = search rules in
    let wb : length c.args.b.entries ≡ 256 = search rules in
    omega (arith, double-a _ _ wa wb c.requires.0 c.requires.1 c.requires.2)

pub overflow_mul-first : goal.overflow_mul-first
overflow_mul-first c =
    let wa : length c.args.a.entries ≡ 256 = search rules in
    let wb : length c.args.b.entries ≡ 256 = search rules in
    omega (arith, first_fits _ _ wa wb c.requires.0 c.requires.1 c.requires.2)

pub shared_ref_as_front-stack : goal.shared_ref_as_front-stack
shared_ref_as_front-stack c =
    let wa : length c.args.a.entries ≡ 256 = search rules in
    let wb : length c.args.b.entries ≡ 256 = search rules in
    first_fits _ _ wa wb c.requires.0 c.requires.1 c.requires.2

pub stack-requires-clause-out_value : goal.stack-requires-clause-out_value
stack-requires-clause-out_value c = padded-none 1024

pub overflow_mul-second : goal.overflow_mul-second
overflow_mul-second c =
    let wa : length c.args.a.entries ≡ 256 = search rules in
    let wb : length c.args.b.entries ≡ 256 = search rules in
    omega (arith, second_fits _ _ wa wb c.requires.0 c.requires.1 c.requires.2)

pub shared_ref_as_front-stack-2 : goal.shared_ref_as_front-stack-2
shared_ref_as_front-stack-2 c =
    let wa : length c.args.a.entries ≡ 256 = search rules in
    let wb : length c.args.b.entries ≡ 256 = search rules in
    second_fits _ _ wa wb c.requires.0 c.requires.1 c.requires.2

pub stack-requires-2-clause-out_value : goal.stack-requires-2-clause-out_value
unfolding front
stack-requires-2-clause-out_value c =
    let wa : length c.args.a.entries ≡ 256 = search rules in
    let wb : length c.args.b.entries ≡ 256 = search rules in
    again _ _ wa wb c.requires.0 c.requires.1 c.requires.2 _ c.stack.ensures

pub returns : goal.returns
unfolding front behind
returns c =
    let wa : length c.args.a.entries ≡ 256 = search rules in
    let wb : length c.args.b.entries ≡ 256 = search rules in
    c.stack-2.ensures ∙ both _ _ wa wb c.requires.0 c.requires.1 c.requires.2 _ c.stack.ensures
