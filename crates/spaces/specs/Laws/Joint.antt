-- The joint space of two lists of rows is what its name says: the smallest space that contains both.
--   within-each, each_within == a span lies within another exactly where its rows do
--   first-within, last_within == the span of either list lies within that of both
--   both-within     == and that of both within every span that contains them
--   joint-space     == the matrix is that of the joint space
-- Assumes nothing.
use Rattle.std.specs.Prelude.{List, ◌++◌, ℕ}
use Rattle.field.specs.FieldLaws.{Laws}
use Rattle.linear.specs.Span.{All, Row, InSpan, SameSpan, rows_of}
use Rattle.linear.specs.Laws.Every.{all_map, all_append}
use Rattle.linear.specs.Laws.Element.{scalars}
use Rattle.linear.specs.Laws.Entries.{at}
use Rattle.linear.specs.Laws.Coefficients.{span-spanned, spanned-span}
use Rattle.linear.specs.Laws.Mixture.{span-row, span-each, span-through}
use Rattle.linear.specs.Laws.ReducedOf.{reduced_of-reduced, reduced_of-span}
use Rattle.spaces.specs.Spaces.{Within, JointSpace, joint_of, joint_dimension}
use Rattle.spaces.specs.Laws.Append.{spanned-first, spanned-last}

module _ (q : ℕ) (laws : Laws q) (n : ℕ) where
  pub within-each : (us ws : List (List ℕ)) → All (Row q n) us → Within q n us ws → All (InSpan q n ws) us
  unfolding Within
  within-each us ws hu w = all_map w (span-each q laws n us hu)

  pub each_within : (us ws : List (List ℕ)) → All (Row q n) ws → All (InSpan q n ws) us → Within q n us ws
  unfolding Within
  each_within us ws hw each = span-through q laws n ws us hw each

  pub first-within : (us vs : List (List ℕ)) → All (Row q n) us → All (Row q n) vs → Within q n us (us ++ vs)
  unfolding Within
  first-within us vs hu hv v s =
      spanned-span q laws n (all_append hu hv) (span-row q laws n us hu v s)
      (spanned-first (scalars q laws) (at q laws) vs (span-spanned q laws n v hu s))

  pub last_within : (us vs : List (List ℕ)) → All (Row q n) us → All (Row q n) vs → Within q n vs (us ++ vs)
  unfolding Within
  last_within us vs hu hv v s =
      spanned-span q laws n (all_append hu hv) (span-row q laws n vs hv v s)
      (spanned-last (scalars q laws) (at q laws) us vs (span-spanned q laws n v hv s))

  pub both-within : (us vs ws : List (List ℕ)) → All (Row q n) us → All (Row q n) vs → All (Row q n) ws
      → Within q n us ws → Within q n vs ws → Within q n (us ++ vs) ws
  both-within us vs ws hu hv hw first second =
      each_within (us ++ vs) ws hw (all_append (within-each us ws hu first) (within-each vs ws hv second))

  module _ (us vs : List (List ℕ)) (hu : All (Row q n) us) (hv : All (Row q n) vs) where
    pub joint-space : JointSpace q n us vs (joint_dimension q n us vs) (joint_of q n us vs)
    unfolding joint_dimension joint_of SameSpan Within
    joint-space =
        record {
          reduced = reduced_of-reduced q laws n (us ++ vs) h;
          first = λ v s. (same v).1 (first-within us vs hu hv v s);
          second = λ v s. (same v).1 (last_within us vs hu hv v s);
          smallest = λ ws hw first second v s. both-within us vs ws hu hv hw first second v ((same v).0 s);
        }
      where
        h : All (Row q n) (us ++ vs)
        h = all_append hu hv

        same : SameSpan q n (rows_of n (joint_dimension q n us vs) (joint_of q n us vs)) (us ++ vs)
        same = reduced_of-span q laws n (us ++ vs) h
