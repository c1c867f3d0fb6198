-- The entries of a row as elements of the field; no part of the meaning.
--   at q laws r j   == the entry of the row r at column j, as an element
--   Spans q laws rows v == the rows span the row v, over the field
--   EchelonRows q laws n lo rows == the rows are reduced, as Echelon says
--   row_below       == every entry of a row is below q
--   row-beyond      == past its n entries a row is 0
--   row_same        == two rows with the same entries are equal
--   row-tabulate    == a table of n numbers below q is a row
--   at-tabulate     == its entries
--   at-zero, zero-at, at_one, one_at == an entry is 0 or 1 as an element where it is so as a number, and back
--   one-within      == an entry 1 stands before the row's end
-- Assumes nothing.
use Rattle.std.specs.Prelude.{◌≡◌, List, ◌⊎◌}
use Rattle.std.proofs.Math.Path.{ap, sym}
use Rattle.std.proofs.Common.{◌∙◌, inl, inr, arith}
use Prim.Native.Nat.{ℕ, zero, suc, ◌≤◌, ◌<◌, Fin}
use Rattle.std.proofs.Math.ListN.{get_or, get_or-eq_default}
use Rattle.std.proofs.Math.Seq.{ext_get_or}
use Rattle.basics.specs.Laws.Order.{le-or-lt}
use Rattle.basics.specs.Table.{tabulate}
use Rattle.basics.specs.Laws.Table.{table_at}
use Rattle.basics.specs.Laws.TableSize.{tabulate-length, tabulate-beyond}
use Rattle.field.specs.FieldLaws.{Laws}
use Rattle.linear.specs.Span.{All, none, more, Row}
use Rattle.linear.specs.Laws.Every.{all_of}
use Rattle.linear.specs.Eliminate.{lead_of}
use Rattle.linear.specs.Laws.FieldSpan.{Spanned}
use Rattle.linear.specs.Laws.Echelon.{Echelon}
use Rattle.linear.specs.Laws.Element.{scalars, element, element-injective, element-zero, element-one}

module _ (q : ℕ) (laws : Laws q) where
  unfoldable pub at : List ℕ → ℕ → Fin q
  at r j = element q laws (get_or r j 0)

  abbrev pub Spans : List (List ℕ) → List ℕ → Type 0
  Spans rows v = Spanned (scalars q laws) at rows (at v)

  abbrev pub EchelonRows : (n lo : ℕ) → List (List ℕ) → Type 0
  EchelonRows n lo rows = Echelon (scalars q laws) at (lead_of n) lo rows

module _ (q : ℕ) (laws : Laws q) (n : ℕ) where
  open scalars q laws use {nought, unit, unit-nonzero}

  below_at : {v : List ℕ} → All (λ a. a < q) v → (j : ℕ) → get_or v j 0 < q
  below_at none j = omega (arith, laws.one_below)
  below_at (more h hs) zero = h
  below_at (more h hs) (suc j) = below_at hs j

  pub row_below : {r : List ℕ} → Row q n r → (j : ℕ) → get_or r j 0 < q
  row_below h j = below_at h.1 j

  pub row-beyond : {r : List ℕ} → Row q n r → (j : ℕ) → n ≤ j → get_or r j 0 ≡ 0
  row-beyond {r} h j l = get_or-eq_default r 0 (omega (arith, h.0))

  pub row_same : (r s : List ℕ) → Row q n r → Row q n s → ((j : ℕ) → at q laws r j ≡ at q laws s j) → r ≡ s
  unfolding at
  row_same r s hr hs e =
      ext_get_or 0 r s (hr.0 ∙ sym hs.0)
      (λ j h. element-injective q laws (get_or r j 0) (get_or s j 0) (row_below hr j) (row_below hs j) (e j))

  pub row-tabulate : (f : ℕ → ℕ) → ((j : ℕ) → f j < q) → Row q n (tabulate f 0 n)
  row-tabulate f h =
      (tabulate-length f 0 n, all_of 0 (tabulate f 0 n) (λ j l. rw (table_at f n j (omega (arith, tabulate-length f 0 n))) (h j)))

  pub at-tabulate : (f : ℕ → ℕ) → ((j : ℕ) → n ≤ j → f j ≡ 0) → (j : ℕ) → at q laws (tabulate f 0 n) j ≡ element q laws (f j)
  unfolding at
  at-tabulate f beyond j = ap (element q laws) (cases (le-or-lt n j))
    where
      cases : (n ≤ j) ⊎ (j < n) → get_or (tabulate f 0 n) j 0 ≡ f j
      cases (inl h) = tabulate-beyond f 0 n j 0 h ∙ sym (beyond j h)
      cases (inr h) = table_at f n j h

  pub at_zero : (r : List ℕ) (j : ℕ) → get_or r j 0 ≡ 0 → at q laws r j ≡ nought
  unfolding at
  at_zero r j e = ap (element q laws) e ∙ element-zero q laws

  pub zero-at : {r : List ℕ} → Row q n r → (j : ℕ) → at q laws r j ≡ nought → get_or r j 0 ≡ 0
  unfolding at
  zero-at {r} h j e =
      element-injective q laws (get_or r j 0) 0 (row_below h j) (omega (arith, laws.one_below)) (e ∙ sym (element-zero q laws))

  pub at_one : (r : List ℕ) (j : ℕ) → get_or r j 0 ≡ 1 → at q laws r j ≡ unit
  unfolding at
  at_one r j e = ap (element q laws) e ∙ element-one q laws

  pub one_at : {r : List ℕ} → Row q n r → (j : ℕ) → at q laws r j ≡ unit → get_or r j 0 ≡ 1
  unfolding at
  one_at {r} h j e = element-injective q laws (get_or r j 0) 1 (row_below h j) laws.one_below (e ∙ sym (element-one q laws))

  pub one-within : {r : List ℕ} → Row q n r → (j : ℕ) → at q laws r j ≡ unit → j < n
  one-within {r} h j e = cases (le-or-lt n j)
    where
      cases : (n ≤ j) ⊎ (j < n) → j < n
      cases (inl l) = absurd (unit-nonzero (sym e ∙ at_zero r j (row-beyond h j l)))
      cases (inr l) = l
