-- A row v written to the place of row d and eliminated with the rows before it, one after the other; no part of the meaning.
--   Eliminating       == only row d has changed, and its residue by the rows from row i on is v's by all rows
--   eliminating-none == where there are no rows
--   eliminating-first == after the first row
--   eliminating-start == and so of the bytes as they are then
--   started-rows, started-fits, started-put == and what is as it was
--   eliminating-row, eliminating-part == what eliminating with row i asks
--   eliminating-more  == one row more
--   eliminating-end   == after the last row
-- Assumes nothing.
use Rattle.std.specs.Prelude.{◌≡◌, length}
use Rattle.std.proofs.Math.Path.{ap, sym, subst}
use Rattle.std.proofs.Common.{◌∙◌, zero-mul, arith}
use mathlib.Core.List.{List}
use Prim.Native.Nat.{ℕ, suc, ◌+◌, ◌*◌, ◌≤◌, ◌<◌}
use Rattle.basics.specs.Laws.Flat.{row_fits}
use Rattle.field.specs.FieldLaws.{Laws}
use Rattle.linear.specs.Span.{All, Row, rows_of}
use Rattle.linear.specs.Eliminate.{eliminate, residue}
use Rattle.linear.specs.Laws.Elimination.{eliminate-row}
use Rattle.linear.specs.Laws.FlatRows.{rows_from, rows_all, rows_next, rows_none, rows-each}
use Rattle.rows.specs.Laws.Steps.{part, put}
use Rattle.rows.specs.Laws.Puts.{put-length, part-put, before-put, rows-put, put-put}
use Rattle.rows.specs.Laws.Write.{put_same}

pub record Eliminating (q n d : ℕ) (m v : List ℕ) (i : ℕ) (now : List ℕ) : Type 0 where
  pub within : i ≤ d
  pub row : Row q n (part n (d * n) now)
  pub only : now ≡ put n (d * n) (part n (d * n) now) m
  pub same : residue q n (rows_of n d m) v ≡ residue q n (rows_from n d m i) (part n (d * n) now)

pub eliminating-none : (q n d : ℕ) (m v : List ℕ) → d ≡ 0 → put n 0 v m ≡ put n (d * n) (residue q n (rows_of n d m) v) m
unfolding residue rows_of
eliminating-none q n d m v e =
    sym (ap (λ x. put n (x * n) (residue q n (rows_of n x m) v) m) e ∙ ap (λ x. put n x v m) (zero-mul n))

module _ (q : ℕ) (laws : Laws q) (n d : ℕ) (m v : List ℕ) (fits : d * n + n ≤ length m) (rows : All (Row q n) (rows_of n d m)) where
  module _ (i : ℕ) (now : List ℕ) (c : Eliminating q n d m v i now) where
    pub eliminating-length : length now ≡ length m
    eliminating-length = ap length c.only ∙ put-length n (d * n) (part n (d * n) now) m c.row.0 fits

    pub eliminating-end : i ≡ d → now ≡ put n (d * n) (residue q n (rows_of n d m) v) m
    unfolding residue
    eliminating-end e =
        c.only
        ∙ ap (λ x. put n (d * n) x m) (sym (c.same ∙ ap (λ x. residue q n x (part n (d * n) now)) (rows_none n m d i e)))

    module _ (h : i < d) where
      before : i * n + n ≤ d * n
      before = row_fits i d n h

      pub eliminating-part : part n (i * n) now ≡ part n (i * n) m
      eliminating-part =
          ap (part n (i * n)) c.only ∙ before-put n (d * n) (part n (d * n) now) m c.row.0 fits n (i * n) before

      pub eliminating-row : Row q n (part n (i * n) now)
      eliminating-row = subst (Row q n) (sym eliminating-part) (rows-each n m d i n rows h (omega arith))

      pub eliminating-more : (after : List ℕ)
          → after ≡ put n (d * n) (eliminate q n (part n (i * n) now) (part n (d * n) now)) now → Eliminating q n d m v (suc i) after
      unfolding residue
      eliminating-more after is =
          record {
            within = h;
            row = subst (Row q n) (sym read) new_row;
            only =
                is ∙ ap (put n (d * n) new) c.only ∙ put-put n (d * n) (part n (d * n) now) m c.row.0 fits new
                ∙ ap (λ x. put n (d * n) x m) (sym read);
            same =
                c.same ∙ ap (λ x. residue q n x (part n (d * n) now)) (rows_next n m d i h)
                ∙ ap (λ x. residue q n (rows_from n d m (suc i)) (eliminate q n x (part n (d * n) now))) (sym eliminating-part)
                ∙ ap (residue q n (rows_from n d m (suc i))) (sym read);
          }
        where
          new : List ℕ
          new = eliminate q n (part n (i * n) now) (part n (d * n) now)

          new_row : Row q n new
          new_row = eliminate-row q laws n (part n (i * n) now) (part n (d * n) now) eliminating-row c.row

          read : part n (d * n) after ≡ new
          read = ap (part n (d * n)) is ∙ part-put n (d * n) new now new_row.0 (omega (arith, eliminating-length))

-- the first row eliminated while v is written to the place of row d
module _ (q : ℕ) (laws : Laws q) (n d : ℕ) (m v : List ℕ) (fits : d * n + n ≤ length m) (rows : All (Row q n) (rows_of n d m))
    (hv : Row q n v) (h : 0 < d) where
  pub first-row : Row q n (part n 0 m)
  first-row = subst (λ x. Row q n (part n x m)) (zero-mul n) (rows-each n m d 0 n rows h (omega arith))

  new_row : Row q n (eliminate q n (part n 0 m) v)
  new_row = eliminate-row q laws n (part n 0 m) v first-row hv

  pub eliminating-first : (now : List ℕ) → now ≡ put n (d * n) (eliminate q n (part n 0 m) v) m → Eliminating q n d m v 1 now
  unfolding residue
  eliminating-first now is =
      record {
        within = h;
        row = subst (Row q n) (sym read) new_row;
        only = is ∙ ap (λ x. put n (d * n) x m) (sym read);
        same =
            ap (λ x. residue q n x v) (rows_all n m d ∙ rows_next n m d 0 h)
            ∙ ap (λ x. residue q n (rows_from n d m 1) (eliminate q n (part n x m) v)) (zero-mul n)
            ∙ ap (residue q n (rows_from n d m 1)) (sym read);
      }
    where
      read : part n (d * n) now ≡ eliminate q n (part n 0 m) v
      read = ap (part n (d * n)) is ∙ part-put n (d * n) (eliminate q n (part n 0 m) v) m new_row.0 fits

  module _ (now : List ℕ) (is : now ≡ put n (d * n) (eliminate q n (part n 0 m) v) m) where
    pub started-rows : rows_of n d now ≡ rows_of n d m
    started-rows = ap (rows_of n d) is ∙ rows-put n (d * n) (eliminate q n (part n 0 m) v) m new_row.0 fits d (omega arith)

    pub started-fits : d * n + n ≤ length now
    started-fits = omega (arith, ap length is, put-length n (d * n) (eliminate q n (part n 0 m) v) m new_row.0 fits)

    pub eliminating-start : Eliminating q n d now v 1 now
    unfolding residue
    eliminating-start =
        record {
          within = h;
          row = subst (Row q n) (sym read) new_row;
          only = sym (put_same n (d * n) now);
          same =
              ap (λ x. residue q n x v) (rows_all n now d ∙ rows_next n now d 0 h)
              ∙ ap (λ x. residue q n (rows_from n d now 1) (eliminate q n x v)) (ap (λ x. part n x now) (zero-mul n) ∙ first)
              ∙ ap (residue q n (rows_from n d now 1)) (sym read);
        }
      where
        read : part n (d * n) now ≡ eliminate q n (part n 0 m) v
        read = ap (part n (d * n)) is ∙ part-put n (d * n) (eliminate q n (part n 0 m) v) m new_row.0 fits

        first : part n 0 now ≡ part n 0 m
        first =
            ap (part n 0) is
            ∙ before-put n (d * n) (eliminate q n (part n 0 m) v) m new_row.0 fits n 0 (omega (arith, row_fits 0 d n h))

    pub started-put : (w : List ℕ) → put n (d * n) w now ≡ put n (d * n) w m
    started-put w = ap (put n (d * n) w) is ∙ put-put n (d * n) (eliminate q n (part n 0 m) v) m new_row.0 fits w
