-- Rows that leave a receiver as it is; no part of the meaning.
--   spanned-untouched == a row in the span of the rows held leaves the whole receiver
--   zero-spanned      == the zero row is one
--   held-spanned      == and so is a row by which the dimension does not grow
-- Assumes nothing.
use Rattle.std.specs.Prelude.{◌≡◌, true, List, [], ◌∷◌, ◌++◌, ℕ, ◌≤◌, length, replicate}
use Rattle.std.proofs.Math.Path.{ap}
use Rattle.std.proofs.Common.{sym, ◌∙◌, subst, arith}
use Rattle.field.specs.FieldLaws.{Laws}
use Rattle.matrix.specs.Laws.Tests.{below_one}
use Rattle.linear.specs.Span.{All, Row, InSpan}
use Rattle.linear.specs.Eliminate.{dimension}
use Rattle.linear.specs.Laws.Mixture.{span-zero}
use Rattle.linear.specs.Laws.OneMore.{dimension-raised, span-decide}
use Rattle.receiver.specs.Receiver.{setup_of, held_rows, holding, is_zero}
use Rattle.receiver.specs.Laws.Sound.{Sound}
use Rattle.receiver.specs.Laws.Held.{settings-laws, held_kept, held-again, holding-held}
use Rattle.receiver.specs.declared.Receiver.{Receiver}

module _ (r : Receiver) (size : length r.entries ≡ 256) (s : Sound r) (row : List ℕ) where
  law : Laws r.q
  law = settings-laws r.q r.n r.k s.settings

  rows : All (Row r.q r.n) (held_rows r)
  rows = (held_kept r size s).rows

  pub spanned-untouched : InSpan r.q r.n (held_rows r) row → holding (setup_of r) (held_rows r ++ (row ∷ [])) ≡ r
  spanned-untouched i = holding-held (setup_of r) s.settings (held_rows r) rows row i ∙ sym (held-again r size s)

  pub zero-spanned : length row ≡ r.n → is_zero row ≡ true → InSpan r.q r.n (held_rows r) row
  zero-spanned l z =
      subst (InSpan r.q r.n (held_rows r)) (sym (below_one row z ∙ ap (λ x. replicate x 0) l))
      (span-zero r.q law r.n (held_rows r) rows)

  -- the dimension that the receiver tells is that of the rows held
  told : r.dimension ≡ dimension r.q r.n (held_rows r)
  unfolding holding
  told = ap (λ x. x.dimension) (held-again r size s)

  pub held-spanned : Row r.q r.n row → dimension r.q r.n (held_rows r ++ (row ∷ [])) ≤ r.dimension
      → InSpan r.q r.n (held_rows r) row
  held-spanned hr low = cases (span-decide r.q law r.n (held_rows r) rows row hr)
    where
      cases : Dec (InSpan r.q r.n (held_rows r) row) → InSpan r.q r.n (held_rows r) row
      cases (yes i) = i
      cases (no outside) =
          let e = dimension-raised r.q law r.n (held_rows r) rows row hr outside in absurd (omega (arith, told, e, low))
