-- The distance of spaces is one: it obeys the laws of a metric, over any field and for lists of any length. Order 10: "it is 0 exactly for
-- equal spans, the same either way round, and never more than the sum of the two distances by way of a third list."
--   distance-true      == with both dimensions it is twice the joint dimension: no difference was cut off at 0
--   distance-zero      == it is 0 exactly for equal spans
--   distance-symmetric == it is the same either way round
--   grows-less         == what is joined to a larger span raises it no more than a smaller one
--   distance-triangle  == it is at most the sum of the two distances by way of a third list
--   distance-within    == where one span lies within the other, it is the difference of the dimensions
--   distance-common    == with twice the common dimension it is both dimensions
--   distance_most      == it is at most n
--   distance-same      == it depends on the spans alone
-- Assumes nothing.
use Rattle.std.specs.Prelude.{◌≡◌, List, ◌++◌, ◌↔◌, ℕ, ◌+◌, ◌*◌, ◌≤◌}
use native.Mathlib.Omega.{arith}
use Rattle.field.specs.FieldLaws.{Laws}
use Rattle.linear.specs.Span.{All, Row, SameSpan}
use Rattle.linear.specs.Eliminate.{dimension}
use Rattle.linear.specs.Laws.Every.{all_append}
use Rattle.linear.specs.Laws.ReducedOf.{dimension-le}
use Rattle.spaces.specs.Spaces.{Within, common_rows, joint_dimension, common_dimension}
use Rattle.spaces.specs.Distance.{distance}
use Rattle.spaces.specs.Laws.Joint.{first-within, last_within}
use Rattle.spaces.specs.Laws.Common.{common-rows, common-both, common-dimension}
use Rattle.spaces.specs.Laws.Growing.{dimension-grows, dimension-fills, joint-grows, joint-swap, joint-within}
use Rattle.spaces.specs.Laws.Growing.{first-least, last-least}
use Rattle.spaces.specs.Laws.Dimensions.{dimensions-sum}

module _ (q : ℕ) (laws : Laws q) (n : ℕ) where
  module _ (us vs : List (List ℕ)) (hu : All (Row q n) us) (hv : All (Row q n) vs) where
    pub distance-true : distance q n us vs + dimension q n us + dimension q n vs ≡ 2 * joint_dimension q n us vs
    unfolding distance
    distance-true = omega (arith, first-least q laws n us vs hu hv, last-least q laws n us vs hu hv)

    pub distance-common : dimension q n us + dimension q n vs ≡ distance q n us vs + 2 * common_dimension q n us vs
    distance-common = omega (arith, distance-true, dimensions-sum q laws n us vs hu hv)

    pub distance_most : distance q n us vs ≤ n
    unfolding joint_dimension
    distance_most = omega (arith, distance-true, distance-common, dimension-le q laws n (us ++ vs) (all_append hu hv))

    pub distance-within : Within q n us vs → distance q n us vs + dimension q n us ≡ dimension q n vs
    distance-within inside = omega (arith, distance-true, joint-within q laws n us vs hu hv inside)

    -- both lists have the joint dimension
    same-dimensions : distance q n us vs ≡ 0 → (dimension q n us ≡ joint_dimension q n us vs) × (dimension q n vs ≡ joint_dimension q n us vs)
    same-dimensions e =
        let first = first-least q laws n us vs hu hv in
        let last = last-least q laws n us vs hu hv in
        (omega (arith, distance-true), omega (arith, distance-true))

    pub distance-zero : (distance q n us vs ≡ 0) ↔ SameSpan q n us vs
    unfolding SameSpan Within joint_dimension
    distance-zero = (
      λ e v.
          let both = all_append hu hv in
          let u = dimension-fills q laws n us (us ++ vs) hu both (first-within q laws n us vs hu hv) (same-dimensions e).0 v in
          let w = dimension-fills q laws n vs (us ++ vs) hv both (last_within q laws n us vs hu hv) (same-dimensions e).1 v in
          (λ s. w.1 (u.0 s), λ s. u.1 (w.0 s)),
      λ s.
          omega (
            arith,
            distance-within (λ v. (s v).0),
            dimension-grows q laws n vs us hv hu (λ v. (s v).1),
          ),
    )

  pub distance-symmetric : (us vs : List (List ℕ)) → All (Row q n) us → All (Row q n) vs → distance q n us vs ≡ distance q n vs us
  distance-symmetric us vs hu hv =
      omega (arith, distance-true us vs hu hv, distance-true vs us hv hu, joint-swap q laws n us vs hu hv)

  -- a larger span has no less in common with a third
  common-grows : (us ws vs : List (List ℕ)) → All (Row q n) us → All (Row q n) ws → All (Row q n) vs → Within q n us ws
      → common_dimension q n us vs ≤ common_dimension q n ws vs
  unfolding Within
  common-grows us ws vs hu hw hv inside =
      omega (
        arith,
        common-dimension q laws n us vs hu hv,
        common-dimension q laws n ws vs hw hv,
        dimension-grows q laws n (common_rows q n us vs) (common_rows q n ws vs) (common-rows q laws n us vs hu hv)
            (common-rows q laws n ws vs hw hv)
            (λ v s.
            let both = (common-both q laws n us vs hu hv v).0 s in
            (common-both q laws n ws vs hw hv v).1 (inside v both.0, both.1)),
      )

  pub grows-less : (us ws vs : List (List ℕ)) → All (Row q n) us → All (Row q n) ws → All (Row q n) vs → Within q n us ws
      → joint_dimension q n ws vs + dimension q n us ≤ joint_dimension q n us vs + dimension q n ws
  grows-less us ws vs hu hw hv inside =
      omega (
        arith,
        dimensions-sum q laws n us vs hu hv,
        dimensions-sum q laws n ws vs hw hv,
        common-grows us ws vs hu hw hv inside,
      )

  pub distance-triangle : (us ws vs : List (List ℕ)) → All (Row q n) us → All (Row q n) ws → All (Row q n) vs
      → distance q n us vs ≤ distance q n us ws + distance q n ws vs
  unfolding joint_dimension
  distance-triangle us ws vs hu hw hv =
      let both = all_append hu hw in
      omega (
        arith,
        distance-true us vs hu hv,
        distance-true us ws hu hw,
        distance-true ws vs hw hv,
        joint-grows q laws n us (us ++ ws) vs hu both hv (first-within q laws n us ws hu hw),
        grows-less ws (us ++ ws) vs hw both hv (last_within q laws n us ws hu hw),
      )

  pub distance-same : (us others vs : List (List ℕ)) → All (Row q n) us → All (Row q n) others → All (Row q n) vs
      → SameSpan q n us others → distance q n us vs ≡ distance q n others vs
  distance-same us others vs hu ho hv same =
      let apart = (distance-zero us others hu ho).1 same in
      omega (
        arith,
        distance-triangle us others vs hu ho hv,
        distance-triangle others us vs ho hu hv,
        distance-symmetric us others hu ho,
      )
