-- How the dimension grows with the span; no part of the meaning.
--   among-within    == a list all of whose rows are among those of another has its span within that list's
--   dimension-grows == a span within another has no larger dimension
--   dimension-fills == and where it has the same dimension it is the same span
--   joint-swap      == the joint dimension is the same either way round
--   joint-grows, joint-same == the joint dimension with a larger span is no smaller; it depends on the spans alone
--   first-least, last-least == either list has no larger dimension than both
--   joint-within    == where one span lies within the other, the joint dimension is the other's
-- Assumes nothing.
use Rattle.std.specs.Prelude.{◌≡◌, List, ◌++◌, ℕ, ◌≤◌}
use native.Mathlib.Omega.{arith}
use Rattle.field.specs.FieldLaws.{Laws}
use Rattle.linear.specs.Span.{All, Among, Row, InSpan, SameSpan, rows_of}
use Rattle.linear.specs.Eliminate.{reduced_of, dimension}
use Rattle.linear.specs.Laws.Every.{all_map, all_among, among-all, all_append}
use Rattle.linear.specs.Laws.Mixture.{span-each}
use Rattle.linear.specs.Laws.ReducedOf.{reduced_of-reduced, reduced_of-span}
use Rattle.linear.specs.Laws.SameMatrix.{within-dimension}
use Rattle.spaces.specs.Spaces.{Within, joint_dimension}
use Rattle.spaces.specs.Laws.Joint.{within-each, each_within, first-within, last_within, both-within}

module _ (q : ℕ) (laws : Laws q) (n : ℕ) where
  pub among-within : (us ws : List (List ℕ)) → All (Row q n) ws → ((row : List ℕ) → Among row us → Among row ws) → Within q n us ws
  among-within us ws hw among =
      each_within q laws n us ws hw (among-all us (λ row a. all_among (span-each q laws n ws hw) (among row a)))

  module _ (us ws : List (List ℕ)) (hu : All (Row q n) us) (hw : All (Row q n) ws) (inside : Within q n us ws) where
    no_more : (dimension q n us ≤ dimension q n ws) × (dimension q n us ≡ dimension q n ws → reduced_of q n us ≡ reduced_of q n ws)
    unfolding SameSpan
    no_more =
        within-dimension q laws n us hu (dimension q n ws) (reduced_of q n ws) (reduced_of-reduced q laws n ws hw)
        (all_map (λ v. (reduced_of-span q laws n ws hw v).1) (within-each q laws n us ws hu inside))

    pub dimension-grows : dimension q n us ≤ dimension q n ws
    dimension-grows = no_more.0

    pub dimension-fills : dimension q n us ≡ dimension q n ws → SameSpan q n us ws
    unfolding SameSpan Within
    dimension-fills e v = (inside v, λ s. (reduced_of-span q laws n us hu v).0 (back ((reduced_of-span q laws n ws hw v).1 s)))
      where
        back : InSpan q n (rows_of n (dimension q n ws) (reduced_of q n ws)) v
            → InSpan q n (rows_of n (dimension q n us) (reduced_of q n us)) v
        back = rw (e, no_more.1 e) (λ s. s)

  pub joint-grows : (us ws vs : List (List ℕ)) → All (Row q n) us → All (Row q n) ws → All (Row q n) vs → Within q n us ws
      → joint_dimension q n us vs ≤ joint_dimension q n ws vs
  unfolding joint_dimension Within
  joint-grows us ws vs hu hw hv inside =
      dimension-grows (us ++ vs) (ws ++ vs) (all_append hu hv) (all_append hw hv)
      (both-within q laws n us vs (ws ++ vs) hu hv (all_append hw hv) (λ v s. first-within q laws n ws vs hw hv v (inside v s))
      (last_within q laws n ws vs hw hv))

  pub joint-same : (us others vs : List (List ℕ)) → All (Row q n) us → All (Row q n) others → All (Row q n) vs → SameSpan q n us others
      → joint_dimension q n us vs ≡ joint_dimension q n others vs
  unfolding SameSpan Within
  joint-same us others vs hu ho hv same =
      omega (arith, joint-grows us others vs hu ho hv (λ v. (same v).0), joint-grows others us vs ho hu hv (λ v. (same v).1))

  module _ (us vs : List (List ℕ)) (hu : All (Row q n) us) (hv : All (Row q n) vs) where
    swapped : joint_dimension q n us vs ≤ joint_dimension q n vs us
    unfolding joint_dimension
    swapped =
        dimension-grows (us ++ vs) (vs ++ us) (all_append hu hv) (all_append hv hu)
        (both-within q laws n us vs (vs ++ us) hu hv (all_append hv hu) (last_within q laws n vs us hv hu)
        (first-within q laws n vs us hv hu))

  pub joint-swap : (us vs : List (List ℕ)) → All (Row q n) us → All (Row q n) vs → joint_dimension q n us vs ≡ joint_dimension q n vs us
  joint-swap us vs hu hv = omega (arith, swapped us vs hu hv, swapped vs us hv hu)

  module _ (us vs : List (List ℕ)) (hu : All (Row q n) us) (hv : All (Row q n) vs) where
    pub first-least : dimension q n us ≤ joint_dimension q n us vs
    unfolding joint_dimension
    first-least = dimension-grows us (us ++ vs) hu (all_append hu hv) (first-within q laws n us vs hu hv)

    pub last-least : dimension q n vs ≤ joint_dimension q n us vs
    unfolding joint_dimension
    last-least = dimension-grows vs (us ++ vs) hv (all_append hu hv) (last_within q laws n us vs hu hv)

    pub joint-within : Within q n us vs → joint_dimension q n us vs ≡ dimension q n vs
    unfolding joint_dimension Within
    joint-within inside =
        omega (
          arith,
          last-least,
          dimension-grows (us ++ vs) vs (all_append hu hv) hv (both-within q laws n us vs vs hu hv hv inside (λ v s. s)),
        )
