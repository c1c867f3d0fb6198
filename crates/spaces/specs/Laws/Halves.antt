-- Rows of width n + n and their halves, with entries as elements of the field.
--   stacked-rows    == the stack's rows are rows of width n + n
--   twice-image, widened-image == they are the rows beside themselves, and beside zero
--   halves-rows     == right halves are rows of width n
--   halves-image    == beside zero on their left they are the rows that lead in the right half
--   halves-echelon  == right halves of reduced rows are reduced
-- Assumes nothing.
use Rattle.std.specs.Prelude.{◌≡◌, Bool, ℕ, suc, ◌+◌, ◌-◌, ◌≤◌, ◌<◌, replicate}
use Rattle.std.proofs.Math.Path.{refl, ap, sym, subst}
use Rattle.std.proofs.Common.{◌∙◌, arith, length-append, length-drop, get_or-drop}
use Rattle.std.proofs.Math.Bool.{true, false}
use mathlib.Core.List.{List, [], ◌∷◌, ◌++◌}
use borrow.Author.Tests.{ltb-true, ltb-false, le-ltb}
use Rattle.std.proofs.Math.Dec.{ltb}
use Rattle.std.proofs.Math.ListN.{get_or, drop, get_or-append}
use Rattle.std.proofs.Math.Seq.{get_or-append-add}
use Rattle.basics.specs.Choice.{pick}
use Rattle.field.specs.FieldLaws.{Laws}
use Rattle.linear.specs.Span.{All, none, more, Row}
use Rattle.linear.specs.Eliminate.{lead_of}
use Rattle.linear.specs.Laws.Every.{all_append, all_drop}
use Rattle.linear.specs.Laws.Echelon.{empty, under}
use Rattle.linear.specs.Laws.Element.{scalars, element}
use Rattle.linear.specs.Laws.Entries.{at, EchelonRows, at_zero}
use Rattle.linear.specs.Laws.RowLead.{at_before, lead-at}
use Rattle.linear.specs.Laws.Mixture.{zero_row_lem, zero-entry}
use Rattle.spaces.specs.Spaces.{wide, wide_rows, stacked, right_halves}
use Rattle.spaces.specs.Laws.Image.{Image, no_rows, row}
use Rattle.spaces.specs.Laws.Beside.{beside, beside-left, beside-right, beside-is}
use Rattle.spaces.specs.Laws.RightRows.{right_rows}

module _ (q : ℕ) (laws : Laws q) (n : ℕ) where
  open scalars q laws use {nought, unit}

  -- two rows side by side
  pub beside-row : {u w : List ℕ} → Row q n u → Row q n w → Row q (n + n) (u ++ w)
  beside-row {u} {w} hu hw = (length-append u w ∙ omega (arith, hu.0, hw.0), all_append hu.1 hw.1)

  pub at-beside : (u w : List ℕ) → Row q n u → (j : ℕ) → at q laws (u ++ w) j ≡ beside n (at q laws u) (at q laws w) j
  unfolding at
  at-beside u w hu =
      beside-is n (at q laws u) (at q laws w) (at q laws (u ++ w))
      (λ j h. ap (element q laws) (get_or-append u w 0 j (omega (arith, hu.0))))
      (λ j. ap (element q laws) (ap (λ x. get_or (u ++ w) (x + j) 0) (sym hu.0) ∙ get_or-append-add u w j 0))

  -- the row on the right: the row itself, or zero
  other_row : (doubled : Bool) {r : List ℕ} → Row q n r → Row q n (pick doubled r (replicate n 0))
  other_row true h = h
  other_row false h = zero_row_lem q laws n

  wide_rows_lem : (doubled : Bool) {rs : List (List ℕ)} → All (Row q n) rs → All (Row q (n + n)) (wide_rows doubled n rs)
  unfolding wide_rows wide
  wide_rows_lem doubled none = none
  wide_rows_lem doubled (more h hs) = more (beside-row h (other_row doubled h)) (wide_rows_lem doubled hs)

  pub stacked-rows : {us vs : List (List ℕ)} → All (Row q n) us → All (Row q n) vs → All (Row q (n + n)) (stacked n us vs)
  unfolding stacked
  stacked-rows hu hv = all_append (wide_rows_lem true hu) (wide_rows_lem false hv)

  pub twice-image : {us : List (List ℕ)} → All (Row q n) us → Image (scalars q laws) (at q laws) (λ v. beside n v v) us (wide_rows true n us)
  unfolding wide_rows wide
  twice-image none = no_rows
  twice-image (more {x = u} h hs) = row (at-beside u u h) (twice-image hs)

  at-widened : (v : List ℕ) → Row q n v → (j : ℕ) → at q laws (v ++ replicate n 0) j ≡ beside n (at q laws v) (λ i. nought) j
  at-widened v hv =
      let zeros = at q laws (replicate n 0) in
      beside-is n (at q laws v) (λ i. nought) (at q laws (v ++ replicate n 0))
      (λ j h. at-beside v (replicate n 0) hv j ∙ beside-left n (at q laws v) zeros j h)
      (λ j.
      at-beside v (replicate n 0) hv (n + j) ∙ beside-right n (at q laws v) zeros j
      ∙ at_zero q laws n (replicate n 0) j (zero-entry n j))

  pub widened-image : {vs : List (List ℕ)} → All (Row q n) vs
      → Image (scalars q laws) (at q laws) (λ v. beside n v (λ i. nought)) vs (wide_rows false n vs)
  unfolding wide_rows wide
  widened-image none = no_rows
  widened-image (more {x = v} h hs) = row (at-widened v h) (widened-image hs)

  -- the right half of a row
  half-row : {r : List ℕ} → Row q (n + n) r → Row q n (drop n r)
  half-row {r} h = (length-drop n r ∙ omega (arith, h.0), all_drop n h.1)

  at-half : (r : List ℕ) (j : ℕ) → at q laws (drop n r) j ≡ at q laws r (n + j)
  unfolding at
  at-half r j = ap (element q laws) (get_or-drop n r j 0)

  pub halves-rows : {rs : List (List ℕ)} → All (Row q (n + n)) rs → All (Row q n) (right_halves n rs)
  unfolding right_halves
  halves-rows none = none
  halves-rows (more {x = r} {xs = rs} h hs) = cases (ltb (lead_of (n + n) r) n) (halves-rows hs)
    where
      cases : (b : Bool) → All (Row q n) (right_halves n rs) → All (Row q n) (pick b (right_halves n rs) (drop n r ∷ right_halves n rs))
      cases true a = a
      cases false a = more (half-row h) a

  pub halves-image : (rs : List (List ℕ))
      → Image (scalars q laws) (at q laws) (λ v. beside n (λ i. nought) v) (right_halves n rs) (right_rows (lead_of (n + n)) n rs)
  unfolding right_halves right_rows
  halves-image [] = no_rows
  halves-image (r ∷ rs) = cases (ltb (lead_of (n + n) r) n) refl (halves-image rs)
    where
      cases : (b : Bool) → ltb (lead_of (n + n) r) n ≡ b
          → Image (scalars q laws) (at q laws) (λ v. beside n (λ i. nought) v) (right_halves n rs) (right_rows (lead_of (n + n)) n rs)
          → Image (scalars q laws) (at q laws) (λ v. beside n (λ i. nought) v) (pick b (right_halves n rs) (drop n r ∷ right_halves n rs))
          (pick b (right_rows (lead_of (n + n)) n rs) (r ∷ right_rows (lead_of (n + n)) n rs))
      cases true e i = i
      cases false e i =
          row
          (beside-is n (λ j. nought) (at q laws (drop n r)) (at q laws r)
          (λ j h. at_before q laws (n + n) r j (omega (arith, ltb-false (lead_of (n + n) r) n e))) (λ j. sym (at-half r j)))
          i

  -- a row that leads in its right half, with 1 there, has its right half's lead n further left
  half-lead : (r : List ℕ) → Row q (n + n) r → n ≤ lead_of (n + n) r → at q laws r (lead_of (n + n) r) ≡ unit
      → lead_of n (drop n r) ≡ lead_of (n + n) r - n
  half-lead r h l one =
      lead-at q laws n (drop n r) (half-row h) (lead_of (n + n) r - n)
      (λ j g. at-half r j ∙ at_before q laws (n + n) r (n + j) (omega arith))
      (at-half r (lead_of (n + n) r - n) ∙ ap (at q laws r) (omega arith) ∙ one)

  -- r is 0 at the leads of all right halves
  halves-clear : (r : List ℕ) {rs : List (List ℕ)} {lo : ℕ} → n ≤ lo → All (Row q (n + n)) rs → EchelonRows q laws (n + n) lo rs
      → All (λ s. at q laws r (lead_of (n + n) s) ≡ nought) rs
      → All (λ s. at q laws (drop n r) (lead_of n s) ≡ nought) (right_halves n rs)
  unfolding right_halves
  halves-clear r l none empty none = none
  halves-clear r l (more {x = s} h hs) (under g before one clear rest) (more z zs) =
      rw (le-ltb (lead_of (n + n) s) n (omega arith))
      (more
      (at-half r (lead_of n (drop n s))
      ∙ ap (at q laws r) (ap (λ x. n + x) (half-lead s h (omega arith) one) ∙ omega arith) ∙ z)
      (halves-clear r (omega arith) hs rest zs))

  pub halves-echelon : {rs : List (List ℕ)} {lo : ℕ} → All (Row q (n + n)) rs → EchelonRows q laws (n + n) lo rs
      → EchelonRows q laws n (lo - n) (right_halves n rs)
  unfolding right_halves
  halves-echelon none empty = empty
  halves-echelon {lo} (more {x = r} {xs = rs} h hs) (under g before one clear rest) =
      cases (ltb (lead_of (n + n) r) n) refl (halves-echelon hs rest)
    where
      cases : (b : Bool) → ltb (lead_of (n + n) r) n ≡ b → EchelonRows q laws n (suc (lead_of (n + n) r) - n) (right_halves n rs)
          → EchelonRows q laws n (lo - n) (pick b (right_halves n rs) (drop n r ∷ right_halves n rs))
      cases true e ech =
          let l : lead_of (n + n) r < n = ltb-true (lead_of (n + n) r) n e in
          subst (λ x. EchelonRows q laws n x (right_halves n rs)) (omega arith) ech
      cases false e ech =
          let l : n ≤ lead_of (n + n) r = ltb-false (lead_of (n + n) r) n e in
          let p : lead_of n (drop n r) ≡ lead_of (n + n) r - n = half-lead r h l one in
          under {lo = lo - n} {r = drop n r} (omega arith) (at_before q laws n (drop n r))
          (at-half r (lead_of n (drop n r)) ∙ ap (at q laws r) (omega arith) ∙ one) (halves-clear r (omega arith) hs rest clear)
          (subst (λ x. EchelonRows q laws n x (right_halves n rs)) (omega arith) ech)
