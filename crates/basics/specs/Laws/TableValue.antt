-- The value of a table's entries, read as digits.
--   table-digits       == a rule below q makes digits
--   table-value-below  == their value is below q to their number
--   table-value-same   == the value is told by the entries
--   table-value-top    == where all entries from the k-th on are 0, it is the value of the first k times a power of q
--   table-value-one    == zeros and then 1 have the value 1
-- Assumes nothing.
use Rattle.std.specs.Prelude.{◌≡◌, ℕ, suc, ◌+◌, ◌*◌, ◌-◌, ◌^◌, ◌<◌, ◌≤◌}
use Rattle.std.proofs.Math.Path.{ap, ap₂}
use Rattle.std.proofs.Common.{◌∙◌, sym, add-sub_of_le, arith}
use mathlib.Core.List.{[], ◌∷◌, ◌++◌}
use Rattle.std.proofs.Math.Nat.{zero-mul, pow-zero}
use Rattle.basics.specs.Laws.Digits.{Digits, value-append, value-zeros, value-below}
use Rattle.basics.specs.Sum.{value}
use Rattle.basics.specs.Table.{tabulate}
use Rattle.basics.specs.Laws.Table.{table_at}
use Rattle.basics.specs.Laws.TableLaws.{tabulate-same, tabulate-zeros, tabulate-split, tabulate-last}
use Rattle.basics.specs.Laws.TableSize.{tabulate-length}

module _ (q : ℕ) (f : ℕ → ℕ) (k : ℕ) where
  pub table-digits : ((i : ℕ) → i < k → f i < q) → Digits q (tabulate f 0 k)
  table-digits h i l =
      let b : i < k = omega (arith, tabulate-length f 0 k) in
      rw (table_at f k i b) (h i b)

  pub table-value-below : ((i : ℕ) → i < k → f i < q) → value q (tabulate f 0 k) < q ^ k
  table-value-below h = rw (tabulate-length f 0 k) at (value-below q (tabulate f 0 k) (table-digits h))

  pub table-value-same : (g : ℕ → ℕ) → ((i : ℕ) → i < k → f i ≡ g i) → value q (tabulate f 0 k) ≡ value q (tabulate g 0 k)
  table-value-same g h = ap (value q) (tabulate-same f g 0 k (λ i l b. h i (omega arith)))

  pub table-value-top : (n : ℕ) → k ≤ n → ((i : ℕ) → k ≤ i → i < n → f i ≡ 0)
      → value q (tabulate f 0 n) ≡ value q (tabulate f 0 k) * q ^ (n - k)
  table-value-top n l h =
      ap (λ x. value q (tabulate f 0 x)) (sym (add-sub_of_le l))
      ∙ ap (value q) (tabulate-split f 0 k (n - k))
      ∙ ap (λ zs. value q (tabulate f 0 k ++ zs)) (tabulate-zeros f (0 + k) (n - k) (λ i g b. h i (omega arith) (omega arith)))
      ∙ value-zeros q (tabulate f 0 k) (n - k)

  pub table-value-one : ((i : ℕ) → i < k → f i ≡ 0) → f k ≡ 1 → value q (tabulate f 0 (suc k)) ≡ 1
  unfolding value
  table-value-one h o =
      ap (value q) (tabulate-last f k)
      ∙ value-append q (tabulate f 0 k) (f k ∷ [])
      ∙ ap₂ (λ a b. a * q ^ 1 + (b * q ^ 0 + 0)) none o
      ∙ rw (zero-mul, pow-zero)
    where
      none : value q (tabulate f 0 k) ≡ 0
      none = ap (value q) (tabulate-zeros f 0 k (λ i l b. h i (omega arith))) ∙ value-zeros q [] k ∙ zero-mul (q ^ k)
