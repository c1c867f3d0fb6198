-- Lists of rows that have the same rows, but for zero rows, have the same span; no part of the meaning.
--   covered-spanned == rows that another list covers are in its span
--   covered_same    == lists that cover each other have the same span
--   covered-swap    == the rows of two lists, one after the other, are covered by those the other way round
-- Assumes nothing.
use Rattle.std.specs.Prelude.{◌≡◌, refl, Bool, true, false, List, ◌++◌, ◌⊎◌, ℕ, replicate}
use Rattle.std.proofs.Common.{ap, sym, ◌∙◌, subst, inl, inr}
use Rattle.field.specs.FieldLaws.{Laws}
use Rattle.matrix.specs.Laws.Tests.{below_one}
use Rattle.linear.specs.Span.{All, Among, Row, InSpan, SameSpan}
use Rattle.linear.specs.Laws.Every.{all_among, among-all, among-append, among-either}
use Rattle.linear.specs.Laws.Mixture.{span-each, span-zero, span_same}
use Rattle.receiver.specs.Receiver.{is_zero}
use Rattle.promise_trace.specs.Trace.{Covered}

module _ (q : ℕ) (laws : Laws q) (n : ℕ) where
  covered-spanned : (rows others : List (List ℕ)) → All (Row q n) rows → All (Row q n) others → Covered rows others
      → All (InSpan q n others) rows
  covered-spanned rows others h g covered = among-all rows (λ row a. cases row a (is_zero row) refl)
    where
      cases : (row : List ℕ) → Among row rows → (b : Bool) → is_zero row ≡ b → InSpan q n others row
      cases row a true zero =
          subst (InSpan q n others) (sym (below_one row zero ∙ ap (λ x. replicate x 0) (all_among h a).0))
          (span-zero q laws n others g)
      cases row a false nonzero = all_among (span-each q laws n others g) (covered row a nonzero)

  pub covered_same : (rows others : List (List ℕ)) → All (Row q n) rows → All (Row q n) others → Covered rows others → Covered others rows
      → SameSpan q n rows others
  covered_same rows others h g there back =
      span_same q laws n rows others h g (covered-spanned rows others h g there) (covered-spanned others rows g h back)

pub covered-swap : (rows others : List (List ℕ)) → Covered (rows ++ others) (others ++ rows)
covered-swap rows others row a nonzero = among-append others rows (swap (among-either rows others a))
  where
    swap : Among row rows ⊎ Among row others → Among row others ⊎ Among row rows
    swap (inl a) = inr a
    swap (inr a) = inl a
