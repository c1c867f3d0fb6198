-- The rows of a flat matrix, one after the other, as a loop walks them; no part of the meaning.
--   lead-part    == the search for a lead within a flat matrix finds the lead of the part
--   rows_from n d m i == of the d rows of the matrix m with n columns, those from row i on
--   rows_all, rows_next, rows_none == from the first row on all rows; from row i on row i, and the rows after it; past the last row none
--   drop-next    == the bytes after row i
--   rows_last    == one row more at the end
--   rows_at, rows-each == row i, and what holds of every row
--   rows-valid   == bytes below q make rows
--   rows_drop    == the rows from row i on, as a list
--   join-append  == two lists of rows joined
--   join-taken   == the first k rows joined are the first k·n bytes
--   rows-joined  == rows of length n, joined and with bytes after them, are read back
-- Assumes nothing.
use Rattle.std.specs.Prelude.{◌≡◌, length, drop}
use Rattle.std.proofs.Math.Path.{refl, ap, ap₂, sym}
use Rattle.std.proofs.Common.{◌∙◌, subst, le_of_suc-le-suc, not-suc-le-zero, zero-mul, length-take-le, take_at, drop_at, take-add, drop-drop, get_or-take}
use mathlib.Core.List.{List, [], ◌∷◌, ◌++◌, append_assoc}
use Prim.Native.Nat.{ℕ, zero, suc, ◌+◌, ◌*◌, ◌-◌, ◌<◌, ◌≤◌}
use Rattle.std.proofs.Math.Nat.{sub-zero, suc-sub-suc}
use native.Mathlib.Omega.{arith}
use Rattle.std.proofs.Math.ListN.{get_or, take, length-drop}
use Rattle.std.proofs.Math.Seq.{get_or-drop}
use Rattle.matrix.specs.Matrix.{lead}
use Rattle.linear.specs.Span.{All, none, more, Row, rows_of}
use Rattle.linear.specs.Eliminate.{join, lead_of}
use Rattle.linear.specs.Laws.Every.{all-at, all_take, all_drop}
use Rattle.matrix.specs.Laws.Lead.{lead-same}
use Rattle.linear.specs.Laws.FlatMatrix.{rows-length}

pub join-append : (rs ss : List (List ℕ)) → join (rs ++ ss) ≡ join rs ++ join ss
unfolding join
join-append [] ss = refl
join-append (r ∷ rs) ss = ap (λ (x : List ℕ). r ++ x) (join-append rs ss) ∙ sym (append_assoc r (join rs) (join ss))

abbrev pub rows_from : ℕ → ℕ → List ℕ → ℕ → List (List ℕ)
rows_from n d m i = rows_of n (d - i) (drop (i * n) m)

module _ (n : ℕ) where
  pub lead-part : (m : List ℕ) (start : ℕ) → lead (λ j. get_or m (start + j) 0) n ≡ lead_of n (take n (drop start m))
  unfolding lead_of
  lead-part m start =
      lead-same (λ j. get_or m (start + j) 0) (λ j. get_or (take n (drop start m)) j 0) n
      (λ j h. sym (get_or-take n (drop start m) j 0 h ∙ get_or-drop start m j 0))

  pub drop-next : (m : List ℕ) (i : ℕ) → drop n (drop (i * n) m) ≡ drop (suc i * n) m
  drop-next m i = let e : i * n + n ≡ suc i * n = omega arith in drop-drop n (i * n) m ∙ ap (λ x. drop x m) e

  drop-first : (m : List ℕ) (i : ℕ) → drop (i * n) (drop n m) ≡ drop (suc i * n) m
  drop-first m i = let e : n + i * n ≡ suc i * n = omega arith in drop-drop (i * n) n m ∙ ap (λ x. drop x m) e

  pub rows_all : (m : List ℕ) (d : ℕ) → rows_of n d m ≡ rows_from n d m 0
  rows_all m d = ap₂ (λ x y. rows_of n x (drop y m)) (sym (sub-zero d)) (sym (zero-mul n))

  pub rows_none : (m : List ℕ) (d i : ℕ) → i ≡ d → rows_from n d m i ≡ []
  unfolding rows_of
  rows_none m d i e = let z : d - i ≡ 0 = omega arith in ap (λ k. rows_of n k (drop (i * n) m)) z

  pub rows_next : (m : List ℕ) (d i : ℕ) → i < d
      → rows_from n d m i ≡ take n (drop (i * n) m) ∷ rows_from n d m (suc i)
  unfolding rows_of
  rows_next m d i h =
      let e : d - i ≡ suc (d - suc i) = omega arith in
      ap (λ k. rows_of n k (drop (i * n) m)) e ∙ ap (λ x. take n (drop (i * n) m) ∷ rows_of n (d - suc i) x) (drop-next m i)

  pub rows_last : (m : List ℕ) (k : ℕ) → rows_of n (suc k) m ≡ rows_of n k m ++ (take n (drop (k * n) m) ∷ [])
  unfolding rows_of
  rows_last m zero = ap (λ x. take n (drop x m) ∷ []) (sym (zero-mul n))
  rows_last m (suc k) =
      ap (λ (x : List (List ℕ)). take n m ∷ x) (rows_last (drop n m) k)
      ∙ ap (λ x. take n m ∷ (rows_of n k (drop n m) ++ (take n x ∷ []))) (drop-first m k)

  pub rows_at : (m : List ℕ) (k i : ℕ) → i < k → get_or (rows_of n k m) i [] ≡ take n (drop (i * n) m)
  unfolding rows_of
  rows_at m zero i h = absurd (not-suc-le-zero h)
  rows_at m (suc k) zero h = ap (λ x. take n (drop x m)) (sym (zero-mul n))
  rows_at m (suc k) (suc i) h = rows_at (drop n m) k i (le_of_suc-le-suc h) ∙ ap (take n) (drop-first m i)

  pub rows-each : {P : List ℕ → Type 0} (m : List ℕ) (d i k : ℕ) → All P (rows_of n d m) → i < d → k ≡ n → P (take k (drop (i * n) m))
  rows-each {P} m d i k all h e =
      subst P (rows_at m d i h ∙ ap (λ x. take x (drop (i * n) m)) (sym e)) (all-at all [] i (omega (arith, rows-length n d m)))

  pub rows-valid : (q : ℕ) (m : List ℕ) (k : ℕ) → k * n ≤ length m → All (λ a. a < q) m → All (Row q n) (rows_of n k m)
  unfolding rows_of
  rows-valid q m zero h b = none
  rows-valid q m (suc k) h b =
      more (length-take-le n m (omega arith), all_take n b) (rows-valid q (drop n m) k (omega (arith, length-drop n m)) (all_drop n b))

  pub rows_drop : (m : List ℕ) (k i : ℕ) → drop i (rows_of n k m) ≡ rows_from n k m i
  unfolding rows_of
  rows_drop m k zero = rows_all m k
  rows_drop m zero (suc i) = let e : zero - suc i ≡ 0 = omega arith in ap (λ x. rows_of n x (drop (suc i * n) m)) (sym e)
  rows_drop m (suc k) (suc i) =
      rows_drop (drop n m) k i ∙ ap₂ (λ x y. rows_of n x y) (sym (suc-sub-suc k i)) (drop-first m i)

  pub join-taken : (m : List ℕ) (k : ℕ) → join (rows_of n k m) ≡ take (k * n) m
  unfolding rows_of join
  join-taken m zero = ap (λ x. take x m) (sym (zero-mul n))
  join-taken m (suc k) =
      let e : n + k * n ≡ suc k * n = omega arith in
      ap (λ (x : List ℕ). take n m ++ x) (join-taken (drop n m) k) ∙ sym (take-add n (k * n) m) ∙ ap (λ x. take x m) e

  pub rows-joined : {rows : List (List ℕ)} (rest : List ℕ) → All (λ r. length r ≡ n) rows
      → rows_of n (length rows) (join rows ++ rest) ≡ rows
  unfolding rows_of join
  rows-joined rest none = refl
  rows-joined rest (more {x = r} {xs = rows} h hs) =
      ap (λ m. rows_of n (suc (length rows)) m) (append_assoc r (join rows) rest)
      ∙ ap₂ (λ x y. x ∷ y) (take_at r (join rows ++ rest) n h)
      (ap (rows_of n (length rows)) (drop_at r (join rows ++ rest) n h) ∙ rows-joined rest hs)
