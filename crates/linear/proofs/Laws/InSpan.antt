-- Whether a row is in the span of reduced rows, as a test.
--   reduced-kept    == the rows of a reduced matrix are rows, reduced when joined
--   in-span-kept    == the test holds exactly of the rows in the span of such rows
--   in-span-exactly == the same of the rows of a reduced matrix
-- Assumes nothing.
use Rattle.std.proofs.Common.{sym, subst₂, eq-eqb, eqb-true}
use Rattle.std.specs.Prelude.{List, ◌↔◌, ℕ, T}
use Rattle.basics.specs.Laws.Choice.{is_true, holds}
use Rattle.field.specs.Field.{is_field_size}
use Rattle.field.specs.FieldLaws.{Laws}
use Rattle.field.specs.Laws.Decide.{laws}
use Rattle.matrix.specs.Matrix.{Reduced}
use Rattle.linear.specs.Span.{Row, InSpan, rows_of}
use Rattle.linear.specs.Eliminate.{lead_of, residue, in_span}
use Rattle.linear.specs.Laws.FlatMatrix.{rows-length, join-rows}
use Rattle.linear.specs.Laws.ReducedRows.{reduced-rows}
use Rattle.linear.specs.Laws.Insert.{residue-zero}
use Rattle.linear.specs.Laws.InsertMany.{Kept}

pub reduced-kept : (q n d : ℕ) (m : List ℕ) → Reduced q n d m → Kept q n (rows_of n d m)
reduced-kept q n d m R =
    record {
      rows = reduced-rows q n R;
      reduced = subst₂ (Reduced q n) (sym (rows-length n d m)) (sym (join-rows n d m R.size)) R;
    }

pub in-span-kept : (q : ℕ) → Laws q → (n : ℕ) (rs : List (List ℕ)) → Kept q n rs → (v : List ℕ) → Row q n v
    → T (in_span q n rs v) ↔ InSpan q n rs v
unfolding in_span
in-span-kept q known n rs kept v hv =
    let left = lead_of n (residue q n rs v) in
    let zero = residue-zero q known n rs kept.rows kept.reduced v hv in
    ((λ t. zero.1 (eqb-true left n (is_true _ t))), (λ s. holds _ (eq-eqb left n (zero.0 s))))

pub in-span-exactly : (q n d : ℕ) (m v : List ℕ) → T (is_field_size q) → Reduced q n d m → Row q n v
    → T (in_span q n (rows_of n d m) v) ↔ InSpan q n (rows_of n d m) v
in-span-exactly q n d m v field R hv = in-span-kept q (laws q field) n (rows_of n d m) (reduced-kept q n d m R) v hv
