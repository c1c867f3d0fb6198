-- The laws of the distance, by the dimensions that lists have; no part of the meaning. A value is told that is the distance of two lists.
--   told-dimensions == the lists and both together have dimensions
--   told-true, told-within, told-common == what the value is with these
-- Assumes nothing.
use Rattle.std.specs.Prelude.{◌≡◌, refl, List, ◌++◌, ◌↔◌, ℕ, ◌+◌, ◌*◌}
use Rattle.std.proofs.Common.{arith}
use Rattle.field.specs.FieldLaws.{Laws}
use Rattle.linear.specs.Span.{All, Row, HasDimension}
use Rattle.linear.specs.Eliminate.{dimension}
use Rattle.linear.specs.Laws.Every.{all_append}
use Rattle.linear.specs.Laws.ReducedOf.{dimension-has}
use Rattle.spaces.specs.Spaces.{Within, CommonSpace, joint_dimension}
use Rattle.spaces.specs.Distance.{distance}
use Rattle.spaces.proofs.Laws.Unique.{common-unique}
use Rattle.spaces.proofs.Laws.Distance.{distance-true, distance-within, distance-common}

module _ (q : ℕ) (laws : Laws q) (n : ℕ) (us vs : List (List ℕ)) (hu : All (Row q n) us) (hv : All (Row q n) vs) where
  first : (d : ℕ) → HasDimension q n us d ↔ (dimension q n us ≡ d)
  first = dimension-has q laws n us hu

  second : (e : ℕ) → HasDimension q n vs e ↔ (dimension q n vs ≡ e)
  second = dimension-has q laws n vs hv

  both : (j : ℕ) → HasDimension q n (us ++ vs) j ↔ (joint_dimension q n us vs ≡ j)
  unfolding joint_dimension
  both = dimension-has q laws n (us ++ vs) (all_append hu hv)

  pub told-dimensions : (d e j : ℕ) × HasDimension q n us d × HasDimension q n vs e × HasDimension q n (us ++ vs) j
  told-dimensions =
      (dimension q n us, dimension q n vs, joint_dimension q n us vs, (first _).1 refl, (second _).1 refl, (both _).1 refl)

  module _ (value : ℕ) (is : value ≡ distance q n us vs) where
    pub told-true : (d e j : ℕ) → HasDimension q n us d → HasDimension q n vs e → HasDimension q n (us ++ vs) j → value + d + e ≡ 2 * j
    told-true d e j u v w = omega (arith, (first d).0 u, (second e).0 v, (both j).0 w, distance-true q laws n us vs hu hv)

    pub told-within : Within q n us vs → (d e : ℕ) → HasDimension q n us d → HasDimension q n vs e → value + d ≡ e
    told-within inside d e u v = omega (arith, (first d).0 u, (second e).0 v, distance-within q laws n us vs hu hv inside)

    pub told-common : (d e c : ℕ) (m : List ℕ) → HasDimension q n us d → HasDimension q n vs e → CommonSpace q n us vs c m
        → d + e ≡ value + 2 * c
    told-common d e c m u v shared =
        omega (
          arith,
          (first d).0 u,
          (second e).0 v,
          (common-unique q laws n us vs hu hv c m shared).0,
          distance-common q laws n us vs hu hv,
        )
