-- A row of polynomials, scaled; no part of the meaning.
--   scaled-sum   == c times a row is the row and c + 1 times it
-- Assumes nothing.
use Rattle.std.specs.Prelude.{◌≡◌, List, ◌++◌, ℕ, ◌+◌, ◌<◌, T}
use Rattle.std.proofs.Common.{ap, ◌∙◌, append-nil, arith, drop_of_length-le, take_all}
use Rattle.std.specs.Int.Bits.{bit_xor}
use Rattle.basics.specs.Laws.TableLaws.{tabulate-same}
use Rattle.field.specs.Field.{is_polynomial}
use Rattle.field.specs.FieldLaws.{Laws}
use Rattle.field.specs.Laws.Polynomials.{one_more}
use Rattle.linear.specs.Span.{Row}
use Rattle.linear.specs.Laws.Entries.{row_below}
use Rattle.rows.specs.Laws.Steps.{part, put, plus_multiple, plus_multiple_at, multiple, multiple_at}

module _ (q n c : ℕ) (laws : Laws q) (size : T (is_polynomial q)) (element : c < q) (v : List ℕ) (row : Row q n v) where
  pub whole : part n 0 v ≡ v
  whole = take_all n v (omega (arith, row.0))

  put_whole : (w : List ℕ) → put n 0 w v ≡ w
  put_whole w = ap (λ x. w ++ x) (drop_of_length-le v {i = 0 + n} (omega (arith, row.0))) ∙ append-nil w

  sum-multiple : plus_multiple q n (bit_xor c 1) v v ≡ multiple q n c v
  unfolding plus_multiple multiple
  sum-multiple =
      tabulate-same (plus_multiple_at q (bit_xor c 1) v v) (multiple_at q c v) 0 n
      (λ j h l. (one_more q size c element _ (row_below q laws n row j)).1)

  pub scaled-sum : put n 0 (plus_multiple q n (bit_xor c 1) (part n 0 v) (part n 0 v)) v ≡ multiple q n c v
  scaled-sum = put_whole _ ∙ ap (λ x. plus_multiple q n (bit_xor c 1) x x) whole ∙ sum-multiple
