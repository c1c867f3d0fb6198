-- A row behind another in lent bytes, eliminated with the rows of a matrix, one after the other; no part of the meaning.
--   placed-front, placed-behind == a row copied to the front is read there, and what stands behind it is as it was
--   copied-part, copied-length == a row copied behind a place for another is read there, and the length stays
--   Trying           == the residue, by the rows from row i on, of the row behind is by all rows that of the one that stood there before
--   trying_start, trying-more, trying-end == before the first row, one row more, after the last
--   trying-row       == row i is a row
-- Assumes nothing.
use Rattle.std.specs.Prelude.{◌≡◌, refl, take}
use Rattle.std.proofs.Math.Path.{ap, sym, subst}
use Rattle.std.proofs.Common.{◌∙◌, arith}
use mathlib.Core.List.{List}
use Prim.Native.Nat.{ℕ, suc, ◌+◌, ◌*◌, ◌≤◌, ◌<◌}
use Rattle.std.proofs.Math.ListN.{length}
use Rattle.std.proofs.Math.Seq.{paste}
use Rattle.field.specs.FieldLaws.{Laws}
use Rattle.linear.specs.Span.{All, Row, rows_of}
use Rattle.linear.specs.Eliminate.{eliminate, residue}
use Rattle.linear.specs.Laws.Elimination.{eliminate-row}
use Rattle.linear.specs.Laws.FlatRows.{rows_from, rows_all, rows_next, rows_none, rows-each}
use Rattle.rows.specs.Laws.Steps.{part, put}
use Rattle.rows.specs.Laws.Puts.{pasted, put-length, part-put, after-put}

module _ (n : ℕ) (r work : List ℕ) (lr : length r ≡ n) (room : n + n ≤ length work) where
  pub placed-length : length (put n 0 r work) ≡ length work
  placed-length = put-length n 0 r work lr (omega arith)

  pub placed-front : part n 0 (put n 0 r work) ≡ r
  placed-front = part-put n 0 r work lr (omega arith)

  pub placed-behind : part n n (put n 0 r work) ≡ part n n work
  placed-behind = ap (take n) (after-put n 0 r work lr (omega arith) n (omega arith))

module _ (n : ℕ) (w m x : List ℕ) (lw : length w ≡ n) (e : x ≡ paste m n w (length w)) (room : n + n ≤ length m) where
  pub copied-part : part n n x ≡ w
  copied-part = ap (part n n) (e ∙ pasted n n w m lw) ∙ part-put n n w m lw room

  pub copied-length : length x ≡ length m
  copied-length = ap length (e ∙ pasted n n w m lw) ∙ put-length n n w m lw room

pub record Trying (q n d : ℕ) (m before : List ℕ) (i : ℕ) (now : List ℕ) : Type 0 where
  pub within : i ≤ d
  pub size : length now ≡ length before
  pub row : Row q n (part n n now)
  pub same : residue q n (rows_of n d m) (part n n before) ≡ residue q n (rows_from n d m i) (part n n now)

module _ (q : ℕ) (laws : Laws q) (n d : ℕ) (m before : List ℕ) (room : n + n ≤ length before) where
  pub trying_start : Row q n (part n n before) → Trying q n d m before 0 before
  trying_start row =
      record {
        within = omega arith;
        size = refl;
        row = row;
        same = ap (λ x. residue q n x (part n n before)) (rows_all n m d);
      }

  module _ (rows : All (Row q n) (rows_of n d m)) (i : ℕ) (now : List ℕ) (c : Trying q n d m before i now) where
    pub trying-end : i ≡ d → part n n now ≡ residue q n (rows_of n d m) (part n n before)
    unfolding residue
    trying-end e = sym (c.same ∙ ap (λ x. residue q n x (part n n now)) (rows_none n m d i e))

    module _ (h : i < d) where
      pub trying-row : Row q n (part n (i * n) m)
      trying-row = rows-each n m d i n rows h (omega arith)

      pub trying-more : (after : List ℕ)
          → after ≡ put n n (eliminate q n (part n (i * n) m) (part n n now)) (put n 0 (part n (i * n) m) now)
          → Trying q n d m before (suc i) after
      unfolding residue
      trying-more after is =
          record {
            within = h;
            size = ap length is ∙ put-length n n new placed new_row.0 wide ∙ placed-size ∙ c.size;
            row = subst (Row q n) (sym read) new_row;
            same =
                c.same ∙ ap (λ x. residue q n x (part n n now)) (rows_next n m d i h)
                ∙ ap (residue q n (rows_from n d m (suc i))) (sym read);
          }
        where
          new : List ℕ
          new = eliminate q n (part n (i * n) m) (part n n now)

          new_row : Row q n new
          new_row = eliminate-row q laws n (part n (i * n) m) (part n n now) trying-row c.row

          placed : List ℕ
          placed = put n 0 (part n (i * n) m) now

          placed-size : length placed ≡ length now
          placed-size = placed-length n (part n (i * n) m) now trying-row.0 (omega (arith, c.size))

          wide : n + n ≤ length placed
          wide = omega (arith, placed-size, c.size)

          read : part n n after ≡ new
          read = ap (part n n) is ∙ part-put n n new placed new_row.0 wide
