-- Where elimination changes nothing.
--   eliminate-nothing == v is zero at r's lead already
-- Assumes nothing.
use Rattle.std.specs.Prelude.{◌≡◌, List, ℕ, ◌<◌}
use Rattle.std.proofs.Math.Path.{ap}
use Rattle.std.proofs.Common.{sym, ◌∙◌, arith}
use Rattle.std.proofs.Math.ListN.{get_or}
use Rattle.basics.specs.Laws.TableLaws.{tabulate-same}
use Rattle.basics.specs.Laws.TableWrite.{table-itself}
use Rattle.field.specs.Field.{add, multiply, negate}
use Rattle.field.specs.FieldLaws.{Laws}
use Rattle.linear.specs.Span.{Row}
use Rattle.linear.specs.Eliminate.{lead_of, eliminate}
use Rattle.linear.specs.Laws.Entries.{row_below}

module _ (q : ℕ) (laws : Laws q) where
  zero-below : 0 < q
  zero-below = omega (arith, laws.one_below)

  negate_zero : negate q 0 ≡ 0
  negate_zero =
      sym (laws.add-zero (negate q 0) (laws.negate-below 0 zero-below))
      ∙ laws.add_comm (negate q 0) (laws.negate-below 0 zero-below) 0 zero-below ∙ laws.add-negate 0 zero-below

  zero-multiply : (a : ℕ) → a < q → multiply q 0 a ≡ 0
  zero-multiply a h = laws.multiply-comm 0 zero-below a h ∙ laws.multiply-zero a h

  pub eliminate-nothing : (n : ℕ) (r v : List ℕ) → Row q n r → Row q n v → get_or v (lead_of n r) 0 ≡ 0 → eliminate q n r v ≡ v
  unfolding eliminate
  eliminate-nothing n r v hr hv z =
      tabulate-same _ (λ j. get_or v j 0) 0 n (λ j l b. same j) ∙ table-itself v n hv.0
    where
      same : (j : ℕ) → add q (get_or v j 0) (multiply q (negate q (get_or v (lead_of n r) 0)) (get_or r j 0)) ≡ get_or v j 0
      same j =
          ap (λ x. add q (get_or v j 0) (multiply q x (get_or r j 0))) (ap (negate q) z ∙ negate_zero)
          ∙ ap (add q (get_or v j 0)) (zero-multiply (get_or r j 0) (row_below q laws n hr j))
          ∙ laws.add-zero (get_or v j 0) (row_below q laws n hv j)
