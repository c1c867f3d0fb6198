-- No matrix but its own is that of the joint space of two lists of rows, or of their common space.
--   joint-unique  == the joint space has one matrix
--   common-unique == the common space has one
-- Assumes nothing.
use Rattle.std.specs.Prelude.{◌≡◌, List, ℕ}
use Rattle.field.specs.FieldLaws.{Laws}
use Rattle.linear.specs.Span.{All, Row, SameSpan}
use Rattle.linear.specs.Laws.ReducedRows.{reduced-rows}
use Rattle.linear.specs.Laws.Unique.{reduced-unique}
use Rattle.spaces.specs.Spaces.{Within, JointSpace, joint_of, joint_dimension, CommonSpace, common_of, common_dimension}
use Rattle.spaces.specs.Laws.Joint.{joint-space}
use Rattle.spaces.specs.Laws.Common.{common-space}

module _ (q : ℕ) (laws : Laws q) (n : ℕ) where
  module _ (us vs : List (List ℕ)) (hu : All (Row q n) us) (hv : All (Row q n) vs) where
    pub joint-unique : (d : ℕ) (m : List ℕ) → JointSpace q n us vs d m → (d ≡ joint_dimension q n us vs) × (m ≡ joint_of q n us vs)
    unfolding SameSpan Within
    joint-unique d m c =
        let own = joint-space q laws n us vs hu hv in
        reduced-unique q laws n c.reduced own.reduced
        (λ v. (
          c.smallest _ (reduced-rows q n own.reduced) own.first own.second v,
          own.smallest _ (reduced-rows q n c.reduced) c.first c.second v,
        ))

    pub common-unique : (d : ℕ) (m : List ℕ) → CommonSpace q n us vs d m → (d ≡ common_dimension q n us vs) × (m ≡ common_of q n us vs)
    unfolding SameSpan
    common-unique d m c =
        let own = common-space q laws n us vs hu hv in
        reduced-unique q laws n c.reduced own.reduced
        (λ v. (λ s. (own.both v).1 ((c.both v).0 s), λ s. (c.both v).1 ((own.both v).0 s)))
