-- How far one row replaced moves a span, over any field and for lists of any length. Order 10: ".. and replacing one by any other row by at
-- most 2."
--   distance-replaced == with one row replaced, at any place and by any other, the distance is at most 2
-- Assumes nothing.
use Rattle.std.specs.Prelude.{List, ◌∷◌, ◌++◌, ℕ, ◌≤◌}
use Rattle.std.proofs.Common.{arith}
use Rattle.field.specs.FieldLaws.{Laws}
use Rattle.linear.specs.Span.{All, more, Row}
use Rattle.linear.specs.Laws.Every.{all_append}
use Rattle.spaces.specs.Distance.{distance}
use Rattle.spaces.proofs.Laws.Distance.{distance-symmetric, distance-triangle}
use Rattle.spaces.proofs.Laws.DistanceRow.{distance-row}

module _ (q : ℕ) (laws : Laws q) (n : ℕ) where
  pub distance-replaced : (us ws : List (List ℕ)) (x y : List ℕ) → All (Row q n) us → All (Row q n) ws → Row q n x → Row q n y
      → distance q n (us ++ (x ∷ ws)) (us ++ (y ∷ ws)) ≤ 2
  distance-replaced us ws x y hu hw hx hy =
      let others = all_append hu hw in
      let one = all_append hu (more hx hw) in
      let other = all_append hu (more hy hw) in
      omega (
        arith,
        distance-triangle q laws n (us ++ (x ∷ ws)) (us ++ ws) (us ++ (y ∷ ws)) one others other,
        distance-symmetric q laws n (us ++ ws) (us ++ (y ∷ ws)) others other,
        (distance-row q laws n us ws x hu hw hx).0,
        (distance-row q laws n us ws y hu hw hy).0,
      )
