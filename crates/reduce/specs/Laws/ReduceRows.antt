-- `reduce::reduce_rows`: the reduced matrix of the rows, at the front of the bytes that it is reduced in; no part of the meaning.
--   input-rows    == the rows of an input that is not refused are rows
--   input-reduced == their reduced matrix is Reduced, with as many rows as their dimension
--   input-most, input-fits == it has at most n rows, and its bytes are at most 256
--   input-front   == they stand first where they are followed by zeros and whatever else
--   input-held, input-within == so what stands first is Reduced, and ends within the bytes
--   input-pivots  == the columns of its pivots, as the reduction leaves them
-- Assumes nothing.
use Rattle.std.specs.Prelude.{◌≡◌, List, ◌++◌, ℕ, ◌*◌, ◌≤◌, ◌<◌, ◌-◌, T, replicate}
use Rattle.std.proofs.Math.Path.{ap, sym}
use Rattle.std.proofs.Common.{◌∙◌, append_assoc, mul-le-mul, arith, get_or-take}
use Rattle.std.proofs.Math.ListN.{length, get_or, take, length-take}
use Rattle.std.proofs.Math.Seq.{take_at}
use Rattle.field.specs.Laws.Decide.{laws}
use Rattle.field.specs.Field.{is_field_size}
use Rattle.matrix.specs.Matrix.{entries_below, pivot, Reduced}
use Rattle.matrix.specs.Laws.Tests.{entries_below_lem}
use Rattle.linear.specs.Span.{All, Row, rows_of}
use Rattle.linear.specs.Laws.Every.{all_of}
use Rattle.linear.specs.Eliminate.{reduced_rows, reduced_of, dimension}
use Rattle.linear.specs.Laws.FlatMatrix.{join-pivot}
use Rattle.linear.specs.Laws.FlatRows.{rows-valid}
use Rattle.linear.specs.Laws.ReducedOf.{reduced_rows-kept, reduced_of-reduced, dimension-le}
use Rattle.linear.specs.Laws.ReducedRows.{rows-sized}
use Rattle.reduction.specs.Padded.{padded}
use Rattle.reduction.specs.Laws.LeadsRead.{leads-at}
use Rattle.reduction.specs.Laws.Steps.{leads}

module _ (q n r : ℕ) (input : List ℕ) (field : T (is_field_size q)) (sized : length input ≡ r * n) (below : T (entries_below q input)) where
  pub input-rows : All (Row q n) (rows_of n r input)
  input-rows = rows-valid n q input r (omega arith) (all_of 0 input (entries_below_lem q input below))

  pub input-reduced : Reduced q n (dimension q n (rows_of n r input)) (reduced_of q n (rows_of n r input))
  input-reduced = reduced_of-reduced q (laws q field) n (rows_of n r input) input-rows

  pub input-most : (d : ℕ) → d ≡ dimension q n (rows_of n r input) → d ≤ n
  input-most d e = omega (arith, dimension-le q (laws q field) n (rows_of n r input) input-rows)

  pub input-fits : (d : ℕ) → d ≡ dimension q n (rows_of n r input) → n ≤ 16 → d * n ≤ 256
  input-fits d e h =
      mul-le-mul {n₁ = d} {m₁ = n} {n₂ = 16} {m₂ = 16} (omega (arith, input-most d e)) h

  pub input-front : (d : ℕ) (filled rest : List ℕ) → d ≡ dimension q n (rows_of n r input)
      → filled ≡ padded (n * n) (reduced_of q n (rows_of n r input)) → take (d * n) (filled ++ rest) ≡ reduced_of q n (rows_of n r input)
  unfolding padded
  input-front d filled rest e f =
      let m = reduced_of q n (rows_of n r input) in
      ap (λ x. take (d * n) (x ++ rest)) f
      ∙ ap (take (d * n)) (append_assoc m (replicate (n * n - length m) 0) rest)
      ∙ take_at m (replicate (n * n - length m) 0 ++ rest) (d * n) (input-reduced.size ∙ ap (λ x. x * n) (sym e))

  pub input-held : (d : ℕ) (filled rest : List ℕ) → d ≡ dimension q n (rows_of n r input)
      → filled ≡ padded (n * n) (reduced_of q n (rows_of n r input)) → Reduced q n d (take (d * n) (filled ++ rest))
  input-held d filled rest e f = rw (input-front d filled rest e f, e) input-reduced

  pub input-within : (d : ℕ) (filled rest : List ℕ) → d ≡ dimension q n (rows_of n r input)
      → filled ≡ padded (n * n) (reduced_of q n (rows_of n r input)) → d * n ≤ length (filled ++ rest)
  input-within d filled rest e f = omega (arith, simp length-take at (input-held d filled rest e f).size)

  pub input-pivots : (d : ℕ) (pivots : List ℕ) → d ≡ dimension q n (rows_of n r input)
      → take d pivots ≡ leads n (reduced_rows q n (rows_of n r input))
      → (i : ℕ) → i < d → get_or pivots i 0 ≡ pivot n (reduced_of q n (rows_of n r input)) i
  unfolding dimension reduced_of
  input-pivots d pivots e known i h =
      let rows = reduced_rows q n (rows_of n r input) in
      let kept = reduced_rows-kept q (laws q field) n (rows_of n r input) input-rows in
      sym (get_or-take d pivots i 0 h) ∙ ap (λ x. get_or x i 0) known ∙ leads-at n rows i (omega (arith, e))
      ∙ sym (join-pivot n (rows-sized q n kept.rows) i (omega (arith, e)))
