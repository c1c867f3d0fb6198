-- The distance, found by taking the reduced rows of the second list into those of the first; no part of the meaning.
--   reduced-joint  == the joint dimension is found so
--   distance-found == and by it the distance, of bytes that hold either list reduced
--   distance-low   == no difference on the way goes below 0
-- Assumes nothing.
use Rattle.std.specs.Prelude.{◌≡◌, ℕ, ◌*◌, ◌-◌, ◌≤◌, take}
use Rattle.std.proofs.Math.Path.{ap, ap₂}
use Rattle.std.proofs.Common.{sym, ◌∙◌, arith}
use mathlib.Core.List.{List, []}
use Rattle.std.proofs.Math.ListN.{length}
use Rattle.field.specs.FieldLaws.{Laws}
use Rattle.linear.specs.Span.{All, Row, rows_of}
use Rattle.linear.specs.Eliminate.{insert_rows, reduced_rows, dimension}
use Rattle.linear.specs.Laws.Every.{all_append}
use Rattle.linear.specs.Laws.InsertMany.{insert_rows-append}
use Rattle.linear.specs.Laws.ReducedOf.{reduced_rows-kept, reduced_rows-span, dimension-le}
use Rattle.spaces.specs.Spaces.{joint_dimension}
use Rattle.spaces.specs.Distance.{distance}
use Rattle.spaces.specs.Laws.Growing.{joint-same, joint-swap, first-least, last-least}
use Rattle.reduction.specs.Laws.InsertRows.{Holds, holds_rows, holds-front}

module _ (q : ℕ) (laws : Laws q) (n : ℕ) (us vs : List (List ℕ)) (hu : All (Row q n) us) (hv : All (Row q n) vs) where
  -- the second list's reduced rows
  reduced : All (Row q n) (reduced_rows q n vs)
  reduced = (reduced_rows-kept q laws n vs hv).rows

  reduced-joint : length (insert_rows q n (reduced_rows q n us) (reduced_rows q n vs)) ≡ joint_dimension q n us vs
  unfolding reduced_rows joint_dimension dimension
  reduced-joint =
      ap length (sym (insert_rows-append q n [] us (reduced_rows q n vs)))
      ∙ joint-swap q laws n us (reduced_rows q n vs) hu reduced
      ∙ joint-same q laws n (reduced_rows q n vs) vs us reduced hv hu (reduced_rows-span q laws n vs hv)
      ∙ joint-swap q laws n vs us hv hu

  module _ {d e : ℕ} {m other pivots others : List ℕ} (first : Holds q n (reduced_rows q n us) d m pivots)
      (second : Holds q n (reduced_rows q n vs) e other others) (joint : ℕ)
      (told : joint ≡ length (insert_rows q n (rows_of n d m) (rows_of n e (take (e * n) other)))) where
    joint-is : joint ≡ joint_dimension q n us vs
    joint-is =
        told
        ∙ ap₂ (λ x y. length (insert_rows q n x y)) (holds_rows q laws n first) (holds-front q laws n second).2
        ∙ reduced-joint

    pub distance-low : (d ≤ joint) × (e ≤ joint) × (joint ≤ n)
    unfolding dimension joint_dimension
    distance-low =
        let u = first-least q laws n us vs hu hv in
        let v = last-least q laws n us vs hu hv in
        let least = dimension-le q laws n _ (all_append hu hv) in
        (omega (arith, u, joint-is, first.count), omega (arith, v, joint-is, second.count), omega (arith, least, joint-is))

    pub distance-found : 2 * joint - d - e ≡ distance q n us vs
    unfolding distance dimension
    distance-found =
        ap₂ (λ x y. 2 * joint - x - y) first.count second.count
        ∙ ap (λ x. 2 * x - dimension q n us - dimension q n vs) joint-is
