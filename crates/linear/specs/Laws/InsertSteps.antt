-- The functions of Eliminate, step by step, as Residual and Among tell them; no part of the meaning.
--   residue-row, residue-residual == the residue of a row is a row, and is a Residual
--   put_among-rows, put_among-among == a row put among rows gives rows, and is Among there
--   monic-one, monic-before, monic-lead == a nonzero row scaled is 1 at its lead and 0 before it, and keeps its lead
--   monic-spanned, monic-spans == it is spanned exactly where the row is
--   insert_row-zero, insert_row-other == what insert_row is where the residue is zero, and where it is not
-- Assumes nothing.
use Rattle.std.specs.Prelude.{◌≡◌, List, ◌∷◌, ◌⊎◌}
use Rattle.std.proofs.Math.Path.{ap, subst}
use Rattle.std.proofs.Common.{sym, ◌∙◌, inl, inr, arith, lt-ltb, le-ltb, eq-eqb, ne_eqb}
use Prim.Native.Nat.{ℕ, ◌≤◌, ◌<◌, Fin}
use Rattle.basics.specs.Choice.{pick}
use Rattle.basics.specs.Laws.Order.{le-or-lt}
use Rattle.field.specs.FieldLaws.{Laws}
use Rattle.linear.specs.Span.{All, none, more, Row}
use Rattle.linear.specs.Eliminate.{lead_of, eliminate, residue, monic, put_among, insert_row, insert_residue}
use Rattle.linear.specs.Laws.Scalars.{unit-times}
use Rattle.linear.specs.Laws.FieldSpan.{spanned-scale}
use Rattle.linear.specs.Laws.Echelon.{empty, under}
use Rattle.linear.specs.Laws.Residual.{Residual, done, off, taken_off-kept}
use Rattle.linear.specs.Laws.PutAmong.{Among, last, here, above}
use Rattle.linear.specs.Laws.Element.{scalars}
use Rattle.linear.specs.Laws.Entries.{at, Spans, EchelonRows}
use Rattle.linear.specs.Laws.RowLead.{at_before, at-lead-nonzero, lead-at}
use Rattle.linear.specs.Laws.Elimination.{eliminate-row, eliminate-takes, monic-row, at-monic}

module _ (q n : ℕ) where
  put_among-above : (r w : List ℕ) (rows : List (List ℕ)) → lead_of n r < lead_of n w
      → put_among q n (r ∷ rows) w ≡ eliminate q n w r ∷ put_among q n rows w
  unfolding put_among
  put_among-above r w rows h = ap (λ b. pick b (eliminate q n w r ∷ put_among q n rows w) (w ∷ r ∷ rows)) (lt-ltb (lead_of n r) (lead_of n w) h)

  put_among-here : (r w : List ℕ) (rows : List (List ℕ)) → lead_of n w ≤ lead_of n r → put_among q n (r ∷ rows) w ≡ w ∷ r ∷ rows
  unfolding put_among
  put_among-here r w rows h = ap (λ b. pick b (eliminate q n w r ∷ put_among q n rows w) (w ∷ r ∷ rows)) (le-ltb (lead_of n r) (lead_of n w) h)

  pub insert_row-zero : (rows : List (List ℕ)) (v : List ℕ) → lead_of n (residue q n rows v) ≡ n → insert_row q n rows v ≡ rows
  unfolding insert_row insert_residue
  insert_row-zero rows v e =
      ap (λ b. pick b rows (put_among q n rows (monic q n (residue q n rows v)))) (eq-eqb (lead_of n (residue q n rows v)) n e)

  pub insert_row-other : (rows : List (List ℕ)) (v : List ℕ) → (lead_of n (residue q n rows v) ≡ n → ⊥)
      → insert_row q n rows v ≡ put_among q n rows (monic q n (residue q n rows v))
  unfolding insert_row insert_residue
  insert_row-other rows v e =
      ap (λ b. pick b rows (put_among q n rows (monic q n (residue q n rows v)))) (ne_eqb (lead_of n (residue q n rows v)) n e)

module _ (q : ℕ) (laws : Laws q) (n : ℕ) where
  open scalars q laws use {nought, unit, ◌⊗◌, inverse, times-nought, times-comm, times-assoc, times-inverse}

  pub residue-row : {rows : List (List ℕ)} → All (Row q n) rows → (v : List ℕ) → Row q n v → Row q n (residue q n rows v)
  unfolding residue
  residue-row none v hv = hv
  residue-row (more {x = r} h hs) v hv = residue-row hs (eliminate q n r v) (eliminate-row q laws n r v h hv)

  pub residue-residual : {rows : List (List ℕ)} → All (Row q n) rows → (v : List ℕ) → Row q n v
      → Residual (scalars q laws) (at q laws) (lead_of n) rows v (residue q n rows v)
  unfolding residue
  residue-residual none v hv = done
  residue-residual (more {x = r} h hs) v hv =
      off (eliminate-takes q laws n r v h hv) (residue-residual hs (eliminate q n r v) (eliminate-row q laws n r v h hv))

  module _ (v : List ℕ) (hv : Row q n v) (h : lead_of n v < n) where
    pub monic-one : at q laws (monic q n v) (lead_of n v) ≡ unit
    monic-one = at-monic q laws n v hv (lead_of n v) ∙ times-comm _ _ ∙ times-inverse _ (at-lead-nonzero q laws n v hv h)

    pub monic-before : (j : ℕ) → at q laws v j ≡ nought → at q laws (monic q n v) j ≡ nought
    monic-before j z = at-monic q laws n v hv j ∙ ap (λ x. inverse (at q laws v (lead_of n v)) ⊗ x) z ∙ times-nought _

    pub monic-lead : lead_of n (monic q n v) ≡ lead_of n v
    monic-lead =
        lead-at q laws n (monic q n v) (monic-row q laws n v hv) (lead_of n v) (λ j g. monic-before j (at_before q laws n v j g)) monic-one

    pub monic-spanned : {rows : List (List ℕ)} → Spans q laws rows v → Spans q laws rows (monic q n v)
    monic-spanned s =
        spanned-scale (scalars q laws) (at q laws) (at q laws (monic q n v)) (inverse (at q laws v (lead_of n v))) s (at-monic q laws n v hv)

    pub monic-spans : {rows : List (List ℕ)} → Spans q laws rows (monic q n v) → Spans q laws rows v
    monic-spans s =
        spanned-scale (scalars q laws) (at q laws) (at q laws v) d s (λ j. sym (ap (λ x. d ⊗ x) (at-monic q laws n v hv j) ∙ undone j))
      where
        d : Fin q
        d = at q laws v (lead_of n v)

        inverts : d ⊗ inverse d ≡ unit
        inverts = times-inverse d (at-lead-nonzero q laws n v hv h)

        undone : (j : ℕ) → d ⊗ (inverse d ⊗ at q laws v j) ≡ at q laws v j
        undone j = sym (times-assoc _ _ _) ∙ ap (λ x. x ⊗ at q laws v j) inverts ∙ unit-times (scalars q laws) _

  module _ (w : List ℕ) (hw : Row q n w) where
    pub put_among-rows : {rows : List (List ℕ)} → All (Row q n) rows → All (Row q n) (put_among q n rows w)
    unfolding put_among
    put_among-rows none = more hw none
    put_among-rows (more {x = r} {xs = rows} h hs) = cases (put_among-rows hs) (le-or-lt (lead_of n w) (lead_of n r))
      where
        cases : All (Row q n) (put_among q n rows w) → (lead_of n w ≤ lead_of n r) ⊎ (lead_of n r < lead_of n w)
            → All (Row q n) (put_among q n (r ∷ rows) w)
        cases ih (inl g) = subst (All (Row q n)) (sym (put_among-here q n r w rows g)) (more hw (more h hs))
        cases ih (inr g) = subst (All (Row q n)) (sym (put_among-above q n r w rows g)) (more (eliminate-row q laws n w r hw h) ih)

    pub put_among-among : {lo : ℕ} {rows : List (List ℕ)} → EchelonRows q laws n lo rows → All (Row q n) rows
        → Among (scalars q laws) (at q laws) (lead_of n) w rows (put_among q n rows w)
    unfolding put_among
    put_among-among empty none = last
    put_among-among (under {r = r} {rows = rows} l before one clear rest) (more h hs) =
        cases (put_among-among rest hs) (le-or-lt (lead_of n w) (lead_of n r))
      where
        kept : (j : ℕ) → j < lead_of n w → at q laws (eliminate q n w r) j ≡ at q laws r j
        kept j b =
            taken_off-kept (scalars q laws) (at q laws) (at q laws r (lead_of n w)) (eliminate-takes q laws n w r hw h) j
            (at_before q laws n w j b)

        cases : Among (scalars q laws) (at q laws) (lead_of n) w rows (put_among q n rows w)
            → (lead_of n w ≤ lead_of n r) ⊎ (lead_of n r < lead_of n w)
            → Among (scalars q laws) (at q laws) (lead_of n) w (r ∷ rows) (put_among q n (r ∷ rows) w)
        cases ih (inl g) = subst (Among (scalars q laws) (at q laws) (lead_of n) w (r ∷ rows)) (sym (put_among-here q n r w rows g)) (here g)
        cases ih (inr g) =
            subst (Among (scalars q laws) (at q laws) (lead_of n) w (r ∷ rows)) (sym (put_among-above q n r w rows g))
            (above g
            (lead-at q laws n (eliminate q n w r) (eliminate-row q laws n w r hw h) (lead_of n r)
            (λ j b. kept j (omega arith) ∙ before j b) (kept (lead_of n r) g ∙ one))
            (eliminate-takes q laws n w r hw h) ih)
