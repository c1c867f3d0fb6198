-- A reduced matrix is told by the values of its columns; no part of the meaning.
--   column_value-below == a column's value is below q^k
--   columns-injective == reduced matrices whose columns have the same values are equal
-- Assumes nothing.
use Rattle.std.specs.Prelude.{◌≡◌, List}
use Rattle.std.proofs.Math.Path.{ap, sym}
use Rattle.std.proofs.Common.{◌∙◌, arith}
use Prim.Native.Nat.{ℕ, suc, ◌+◌, ◌*◌, ◌-◌, ◌^◌, ◌<◌}
use Rattle.std.proofs.Math.Arith.{digits_lt, comp_comp}
use Rattle.std.proofs.Math.ListN.{get_or}
use Rattle.basics.specs.Laws.Digits.{value-injective}
use Rattle.basics.specs.Table.{tabulate}
use Rattle.basics.specs.Laws.Table.{table_at}
use Rattle.basics.specs.Laws.TableSize.{tabulate-length}
use Rattle.basics.specs.Laws.TableValue.{table-digits, table-value-below}
use Rattle.matrix.specs.Matrix.{entry, column_value, Reduced}
use Rattle.matrix.specs.Laws.Flatten.{flatten-same, flatten-entries}

module _ {q n k : ℕ} where
  entry-below : {m : List ℕ} → Reduced q n k m → (i j : ℕ) → i < k → j < n → entry n m i j < q
  entry-below r i j h g = r.below (i * n + j) (digits_lt h g)

  pub column_value-below : {m : List ℕ} → Reduced q n k m → (i : ℕ) → i < n → column_value q n k m (suc i) < q ^ k
  unfolding column_value
  column_value-below {m} r j b = table-value-below q (λ i. entry n m i (n - suc j)) k (λ i h. entry-below r i (n - suc j) h (omega arith))

  -- at the column c from the left
  column-entries : {a b : List ℕ} → Reduced q n k a → Reduced q n k b → (c : ℕ) → c < n
      → column_value q n k a (suc (n - suc c)) ≡ column_value q n k b (suc (n - suc c)) → (i : ℕ) → i < k → entry n a i c ≡ entry n b i c
  unfolding column_value
  column-entries {a} {b} r t c h e i l =
      let A : ℕ → ℕ = λ i. entry n a i c in
      let B : ℕ → ℕ = λ i. entry n b i c in
      let same : tabulate A 0 k ≡ tabulate B 0 k =
      value-injective q (tabulate A 0 k) (tabulate B 0 k) (table-digits q A k (λ i g. entry-below r i c g h))
      (table-digits q B k (λ i g. entry-below t i c g h)) (tabulate-length A 0 k ∙ sym (tabulate-length B 0 k))
      (rw (comp_comp h) at e)
      in
      sym (table_at A k i l) ∙ ap (λ ds. get_or ds i 0) same ∙ table_at B k i l

  pub columns-injective : {a b : List ℕ} → Reduced q n k a → Reduced q n k b
      → ((i : ℕ) → i < n → column_value q n k a (suc i) ≡ column_value q n k b (suc i)) → a ≡ b
  columns-injective {a} {b} r t h =
      sym (flatten-entries k n a r.size)
      ∙ flatten-same k n (entry n a) (entry n b) (λ i j l g. column-entries r t j g (h (n - suc j) (omega arith)) i l)
      ∙ flatten-entries k n b t.size
