-- A row taken into reduced rows. In all of it rs are rows, reduced when joined, and v is a row.
--   residue-zero   == v is in the span exactly where its residue is zero
--   insert-rows, insert-reduced == insert_row gives rows, reduced when joined
--   insert-span    == they span what v and rs span
--   insert-held    == where v is in the span, nothing changes
--   insert-raised  == where it is not, there is one row more
-- Assumes nothing.
use Rattle.std.specs.Prelude.{◌≡◌, List, ◌∷◌, ◌↔◌, ℕ, suc, ◌<◌, length}
use Rattle.std.proofs.Common.{ap, sym, ◌∙◌, subst, arith}
use Rattle.std.proofs.Math.Decide.{ℕ_discrete}
use Rattle.field.specs.FieldLaws.{Laws}
use Rattle.matrix.specs.Matrix.{Reduced}
use Rattle.linear.specs.Span.{All, more, Row, InSpan, SameSpan}
use Rattle.linear.specs.Eliminate.{lead_of, residue, monic, put_among, insert_row, join}
use Rattle.linear.specs.Laws.Every.{all_map, all_both}
use Rattle.linear.specs.Laws.FieldSpan.{spanned-top, spanned-each, spanned-below, spanned-nought}
use Rattle.linear.specs.Laws.Echelon.{echelon-nought}
use Rattle.linear.specs.Laws.Residual.{residual-cleared, residual-spanned, residual-spans}
use Rattle.linear.specs.Laws.PutAmong.{Among, among-length, among-echelon, among-spanned, among-spans, among-spans-new}
use Rattle.linear.specs.Laws.Element.{scalars}
use Rattle.linear.specs.Laws.Entries.{at, Spans, EchelonRows}
use Rattle.linear.specs.Laws.Coefficients.{span-spanned, spanned-span}
use Rattle.linear.specs.Laws.Mixture.{span_same}
use Rattle.linear.specs.Laws.FlatMatrix.{rows_join}
use Rattle.linear.specs.Laws.ReducedRows.{rows-sized, reduced-echelon, echelon-reduced}
use Rattle.linear.specs.Laws.RowLead.{at_before, lead_of-le, lead-none, none-lead}
use Rattle.linear.specs.Laws.Elimination.{monic-row}
use Rattle.linear.specs.Laws.InsertSteps.{residue-row, residue-residual, put_among-rows, put_among-among}
use Rattle.linear.specs.Laws.InsertSteps.{insert_row-zero, insert_row-other}
use Rattle.linear.specs.Laws.InsertSteps.{monic-one, monic-before, monic-lead, monic-spanned, monic-spans}

module _ (q : ℕ) (laws : Laws q) (n : ℕ) (rs : List (List ℕ)) (h : All (Row q n) rs) (R : Reduced q n (length rs) (join rs)) where
  open scalars q laws use {nought, unit}

  echelon : EchelonRows q laws n 0 rs
  echelon = subst (EchelonRows q laws n 0) (rows_join n (rows-sized q n h)) (reduced-echelon q laws n R)

  module _ (v : List ℕ) (hv : Row q n v) where
    abbrev w : List ℕ
    w = residue q n rs v

    hw : Row q n w
    hw = residue-row q laws n h v hv

    spanned-residue : (others : List (List ℕ)) → All (Spans q laws others) rs
        → Spans q laws others v ↔ Spans q laws others w
    spanned-residue others each =
        let t = residue-residual q laws n h v hv in
        (residual-spanned (scalars q laws) (at q laws) (lead_of n) each t, residual-spans (scalars q laws) (at q laws) (lead_of n) each t)

    cleared : All (λ s. at q laws w (lead_of n s) ≡ nought) rs
    cleared = residual-cleared (scalars q laws) (at q laws) (lead_of n) echelon (residue-residual q laws n h v hv)

    each : All (Spans q laws rs) rs
    each = spanned-each (scalars q laws) (at q laws) rs

    pub residue-zero : InSpan q n rs v ↔ (lead_of n (residue q n rs v) ≡ n)
    residue-zero = (there, back)
      where
        there : InSpan q n rs v → lead_of n w ≡ n
        there s = lead-none q laws n w hw (echelon-nought _ _ _ echelon ((spanned-residue rs each).0 (span-spanned q laws n v h s)) cleared)

        back : lead_of n w ≡ n → InSpan q n rs v
        back e = spanned-span q laws n h hv ((spanned-residue rs each).1 (spanned-nought _ _ rs (at q laws w) (none-lead q laws n w hw e)))

    pub insert-held : InSpan q n rs v → insert_row q n rs v ≡ rs
    insert-held s = insert_row-zero q n rs v (residue-zero.0 s)

    -- what is to be shown of the rows that come out
    record Taken (out : List (List ℕ)) : Type 0 where
      rows : All (Row q n) out
      reduced : EchelonRows q laws n 0 out
      spanned : All (Spans q laws (v ∷ rs)) out
      spans : All (Spans q laws out) (v ∷ rs)

    below : All (Spans q laws (v ∷ rs)) rs
    below = all_map (λ r s. spanned-below (scalars q laws) (at q laws) s) each

    taken-zero : lead_of n w ≡ n → Taken rs
    taken-zero e =
        record { rows = h; reduced = echelon; spanned = below; spans = more (span-spanned q laws n v h (residue-zero.1 e)) each }

    taken-other : lead_of n w < n → Taken (put_among q n rs (monic q n w))
    taken-other lt =
        record {
          rows = put_among-rows q laws n u hu h;
          reduced =
              among-echelon (scalars q laws) (at q laws) (lead_of n) u (at_before q laws n u) one echelon (omega arith)
              (all_map (λ s z. monic-before q laws n w hw lt (lead_of n s) z) cleared) among;
          spanned =
              among-spanned _ _ _ u
              (monic-spanned q laws n w hw lt ((spanned-residue (v ∷ rs) below).0 (spanned-top (scalars q laws) (at q laws) v rs)))
              below among;
          spans = more ((spanned-residue (put_among q n rs u) old).1 (monic-spans q laws n w hw lt new)) old;
        }
      where
        u : List ℕ
        u = monic q n w

        hu : Row q n u
        hu = monic-row q laws n w hw

        among : Among (scalars q laws) (at q laws) (lead_of n) u rs (put_among q n rs u)
        among = put_among-among q laws n u hu echelon h

        one : at q laws u (lead_of n u) ≡ unit
        one = ap (at q laws u) (monic-lead q laws n w hw lt) ∙ monic-one q laws n w hw lt

        all : All (Spans q laws (put_among q n rs u)) (put_among q n rs u)
        all = spanned-each (scalars q laws) (at q laws) (put_among q n rs u)

        new : Spans q laws (put_among q n rs u) u
        new = among-spans-new _ _ _ u all among

        old : All (Spans q laws (put_among q n rs u)) rs
        old = among-spans _ _ _ u all among

    taken : Taken (insert_row q n rs v)
    taken = cases (ℕ_discrete (lead_of n w) n)
      where
        cases : Dec (lead_of n w ≡ n) → Taken (insert_row q n rs v)
        cases (yes e) = subst Taken (sym (insert_row-zero q n rs v e)) (taken-zero e)
        cases (no ne) = subst Taken (sym (insert_row-other q n rs v ne)) (taken-other (omega (arith, lead_of-le q laws n w)))

    pub insert-rows : All (Row q n) (insert_row q n rs v)
    insert-rows = taken.rows

    pub insert-reduced : Reduced q n (length (insert_row q n rs v)) (join (insert_row q n rs v))
    insert-reduced = echelon-reduced q laws n (insert_row q n rs v) insert-rows taken.reduced

    pub insert-span : SameSpan q n (insert_row q n rs v) (v ∷ rs)
    insert-span =
        span_same q laws n (insert_row q n rs v) (v ∷ rs) insert-rows (more hv h)
        (all_both (λ r hr s. spanned-span q laws n (more hv h) hr s) insert-rows taken.spanned)
        (all_both (λ r hr s. spanned-span q laws n insert-rows hr s) (more hv h) taken.spans)

    pub insert-raised : (InSpan q n rs v → ⊥) → length (insert_row q n rs v) ≡ suc (length rs)
    insert-raised outside =
        ap length (insert_row-other q n rs v (λ e. outside (residue-zero.1 e)))
        ∙ among-length _ _ _ _ (put_among-among q laws n (monic q n w) (monic-row q laws n w hw) echelon h)
