-- Rows taken into reduced rows, one after the other; no part of the meaning.
--   Kept q n rs          == rs are rows, reduced when joined
--   insert_rows-kept      == so are they after more rows are taken in
--   insert_rows-spanned   == they lie in every span in which rs and the rows taken in lie
--   insert_rows-old, insert_rows-new == rs and the rows taken in lie in their span
--   insert_rows-append    == two lists taken in, one after the other
-- Assumes nothing.
use Rattle.std.specs.Prelude.{◌≡◌, refl, List, [], ◌∷◌, ◌++◌, ℕ, length}
use Rattle.field.specs.FieldLaws.{Laws}
use Rattle.matrix.specs.Matrix.{Reduced}
use Rattle.linear.specs.Span.{All, none, more, Row, InSpan, SameSpan}
use Rattle.linear.specs.Eliminate.{insert_row, insert_rows, join}
use Rattle.linear.specs.Laws.Every.{all_map, all_head, all_tail}
use Rattle.linear.specs.Laws.Mixture.{span-each, span-through}
use Rattle.linear.specs.Laws.Insert.{insert-rows, insert-reduced, insert-span}

pub record Kept (q n : ℕ) (rs : List (List ℕ)) : Type 0 where
  pub rows : All (Row q n) rs
  pub reduced : Reduced q n (length rs) (join rs)

pub insert_rows-append : (q n : ℕ) (rs vs ws : List (List ℕ)) → insert_rows q n rs (vs ++ ws) ≡ insert_rows q n (insert_rows q n rs vs) ws
unfolding insert_rows
insert_rows-append q n rs [] ws = refl
insert_rows-append q n rs (v ∷ vs) ws = insert_rows-append q n (insert_row q n rs v) vs ws

module _ (q : ℕ) (laws : Laws q) (n : ℕ) where
  pub insert-kept : (rs : List (List ℕ)) → Kept q n rs → (v : List ℕ) → Row q n v → Kept q n (insert_row q n rs v)
  insert-kept rs k v hv =
      record {
        rows = insert-rows q laws n rs k.rows k.reduced v hv;
        reduced = insert-reduced q laws n rs k.rows k.reduced v hv;
      }

  -- the span after one more row, as rows that lie in it
  insert-in : (rs : List (List ℕ)) → Kept q n rs → (v : List ℕ) → Row q n v → All (InSpan q n (v ∷ rs)) (insert_row q n rs v)
  unfolding SameSpan
  insert-in rs k v hv =
      all_map (λ r. (insert-span q laws n rs k.rows k.reduced v hv r).0)
      (span-each q laws n (insert_row q n rs v) (insert-kept rs k v hv).rows)

  insert-out : (rs : List (List ℕ)) → Kept q n rs → (v : List ℕ) → Row q n v → All (InSpan q n (insert_row q n rs v)) (v ∷ rs)
  unfolding SameSpan
  insert-out rs k v hv =
      all_map (λ r. (insert-span q laws n rs k.rows k.reduced v hv r).1) (span-each q laws n (v ∷ rs) (more hv k.rows))

  pub insert_rows-kept : (rs : List (List ℕ)) → Kept q n rs → {vs : List (List ℕ)} → All (Row q n) vs → Kept q n (insert_rows q n rs vs)
  unfolding insert_rows
  insert_rows-kept rs k none = k
  insert_rows-kept rs k (more {x = v} h hs) = insert_rows-kept (insert_row q n rs v) (insert-kept rs k v h) hs

  pub insert_rows-spanned : (others : List (List ℕ)) → All (Row q n) others → (rs : List (List ℕ)) → Kept q n rs → All (InSpan q n others) rs
      → {vs : List (List ℕ)} → All (Row q n) vs → All (InSpan q n others) vs → All (InSpan q n others) (insert_rows q n rs vs)
  unfolding insert_rows
  insert_rows-spanned others g rs k s none none = s
  insert_rows-spanned others g rs k s (more {x = v} h hs) (more t ts) =
      insert_rows-spanned others g (insert_row q n rs v) (insert-kept rs k v h)
      (all_map (span-through q laws n others (v ∷ rs) g (more t s)) (insert-in rs k v h)) hs ts

  -- where the rows after the first step lie in the span, so do those before it
  insert_rows-through : (rs : List (List ℕ)) → Kept q n rs → (v : List ℕ) → Row q n v → {vs : List (List ℕ)} → All (Row q n) vs
      → All (InSpan q n (insert_rows q n (insert_row q n rs v) vs)) (insert_row q n rs v)
      → All (InSpan q n (insert_rows q n (insert_row q n rs v) vs)) (v ∷ rs)
  insert_rows-through rs k v h {vs} hs s =
      all_map
      (span-through q laws n (insert_rows q n (insert_row q n rs v) vs) (insert_row q n rs v)
      (insert_rows-kept (insert_row q n rs v) (insert-kept rs k v h) hs).rows s) (insert-out rs k v h)

  pub insert_rows-old : (rs : List (List ℕ)) → Kept q n rs → {vs : List (List ℕ)} → All (Row q n) vs
      → All (InSpan q n (insert_rows q n rs vs)) rs
  unfolding insert_rows
  insert_rows-old rs k none = span-each q laws n rs k.rows
  insert_rows-old rs k (more {x = v} h hs) =
      all_tail (insert_rows-through rs k v h hs (insert_rows-old (insert_row q n rs v) (insert-kept rs k v h) hs))

  pub insert_rows-new : (rs : List (List ℕ)) → Kept q n rs → {vs : List (List ℕ)} → All (Row q n) vs
      → All (InSpan q n (insert_rows q n rs vs)) vs
  unfolding insert_rows
  insert_rows-new rs k none = none
  insert_rows-new rs k (more {x = v} h hs) =
      more (all_head (insert_rows-through rs k v h hs (insert_rows-old (insert_row q n rs v) (insert-kept rs k v h) hs)))
      (insert_rows-new (insert_row q n rs v) (insert-kept rs k v h) hs)
