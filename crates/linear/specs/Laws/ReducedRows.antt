-- A reduced matrix and its rows.
--   reduced-rows    == the rows of a reduced matrix are rows
--   rows-sized      == rows have length n
--   join-below      == the entries of joined rows are below q
--   reduced-echelon == they are reduced as Echelon says
--   echelon-reduced == rows that are reduced so, joined, are a reduced matrix
-- Assumes nothing.
use Rattle.std.specs.Prelude.{◌≡◌, List, [], length, get_or, drop}
use Rattle.std.proofs.Common.{sym, ◌∙◌, subst, subst₂, arith, length-drop, length-take-le}
use Prim.Native.Nat.{ℕ, zero, suc, ◌*◌, ◌<◌}
use Rattle.field.specs.FieldLaws.{Laws}
use Rattle.matrix.specs.Matrix.{Reduced, entry, pivot}
use Rattle.linear.specs.Span.{All, none, more, Row, rows_of}
use Rattle.linear.specs.Eliminate.{join, lead_of}
use Rattle.linear.specs.Laws.Every.{all_map, all-at, all_of, all_append, all_take, all_drop}
use Rattle.linear.specs.Laws.EchelonRows.{Stepped, stepped-echelon, echelon-stepped}
use Rattle.linear.specs.Laws.Element.{scalars}
use Rattle.linear.specs.Laws.Entries.{at_one, one_at, one-within, at, EchelonRows, at_zero, zero-at}
use Rattle.linear.specs.Laws.RowLead.{at_before}
use Rattle.linear.specs.Laws.FlatMatrix.{rows-length, join-rows, join-length, join-pivot, join-at-pivot}

module _ (q n : ℕ) where
  rows_cut : (k : ℕ) (m : List ℕ) → length m ≡ k * n → All (λ a. a < q) m → All (Row q n) (rows_of n k m)
  unfolding rows_of
  rows_cut zero m e b = none
  rows_cut (suc k) m e b =
      more (length-take-le n m (omega arith), all_take n b) (rows_cut k (drop n m) (length-drop n m ∙ omega arith) (all_drop n b))

  pub reduced-rows : {k : ℕ} {m : List ℕ} → Reduced q n k m → All (Row q n) (rows_of n k m)
  reduced-rows {k} {m} R = rows_cut k m R.size (all_of 0 m (λ i h. R.below i (omega (arith, R.size))))

  pub rows-sized : {rows : List (List ℕ)} → All (Row q n) rows → All (λ r. length r ≡ n) rows
  rows-sized = all_map (λ r h. h.0)

  pub join-below : {rows : List (List ℕ)} → All (Row q n) rows → All (λ a. a < q) (join rows)
  unfolding join
  join-below none = none
  join-below (more h hs) = all_append h.1 (join-below hs)

module _ (q : ℕ) (laws : Laws q) (n : ℕ) where
  joined-stepped : (rows : List (List ℕ)) → All (Row q n) rows → Reduced q n (length rows) (join rows)
      → Stepped (scalars q laws) (at q laws) (lead_of n) [] rows
  joined-stepped rows h R =
      record {
        before = λ i l. at_before q laws n (get_or rows i []);
        one = λ i l. at_one q laws n (get_or rows i []) (lead_of n (get_or rows i [])) (here i l i l ∙ R.pivot-one i l);
        rise = λ i l. subst₂ ◌<◌ (join-pivot n sized i (omega arith)) (join-pivot n sized (suc i) l) (R.pivots-rise i l);
        alone = λ i l a g ne. at_zero q laws n (get_or rows a []) (lead_of n (get_or rows i [])) (here a g i l ∙ R.pivot-alone i l a g ne);
      }
    where
      sized : All (λ r. length r ≡ n) rows
      sized = rows-sized q n h

      inside : (i : ℕ) → i < length rows → lead_of n (get_or rows i []) < n
      inside i l = subst (λ x. x < n) (join-pivot n sized i l) (R.no-zero-row i l)

      here : (a : ℕ) → a < length rows → (i : ℕ) → i < length rows
          → get_or (get_or rows a []) (lead_of n (get_or rows i [])) 0 ≡ entry n (join rows) a (pivot n (join rows) i)
      here a g i l = sym (join-at-pivot n sized a g i l (inside i l))

  pub reduced-echelon : {k : ℕ} {m : List ℕ} → Reduced q n k m → EchelonRows q laws n 0 (rows_of n k m)
  reduced-echelon {k} {m} R =
      stepped-echelon _ _ _ [] (rows_of n k m) 0 (λ h. omega arith) (joined-stepped (rows_of n k m) (reduced-rows q n R) joined)
    where
      joined : Reduced q n (length (rows_of n k m)) (join (rows_of n k m))
      joined = subst₂ (Reduced q n) (sym (rows-length n k m)) (sym (join-rows n k m R.size)) R

  pub echelon-reduced : {lo : ℕ} (rows : List (List ℕ)) → All (Row q n) rows → EchelonRows q laws n lo rows
      → Reduced q n (length rows) (join rows)
  echelon-reduced rows h ech =
      record {
        size = join-length n sized;
        below = λ i l. all-at (join-below q n h) 0 i (omega (arith, join-length n sized));
        no-zero-row = λ i l. subst (λ x. x < n) (sym (join-pivot n sized i l)) (inside i l);
        pivot-one = λ i l. here i l i l ∙ one_at q laws n (all-at h [] i l) (lead_of n (get_or rows i [])) (S.one i l);
        pivots-rise = λ i l. subst₂ ◌<◌ (sym (join-pivot n sized i (omega arith))) (sym (join-pivot n sized (suc i) l)) (S.rise i l);
        pivot-alone = λ i l a g ne. here a g i l ∙ zero-at q laws n (all-at h [] a g) (lead_of n (get_or rows i [])) (S.alone i l a g ne);
      }
    where
      sized : All (λ r. length r ≡ n) rows
      sized = rows-sized q n h

      S : Stepped (scalars q laws) (at q laws) (lead_of n) [] rows
      S = echelon-stepped _ _ _ [] ech

      inside : (i : ℕ) → i < length rows → lead_of n (get_or rows i []) < n
      inside i l = one-within q laws n (all-at h [] i l) (lead_of n (get_or rows i [])) (S.one i l)

      here : (a : ℕ) → a < length rows → (i : ℕ) → i < length rows
          → entry n (join rows) a (pivot n (join rows) i) ≡ get_or (get_or rows a []) (lead_of n (get_or rows i [])) 0
      here a g i l = join-at-pivot n sized a g i l (inside i l)
