-- The laws of a field, on the numbers below q. Every fact about rows is proved from them alone, so that it holds for each
-- field size and for those to come.
--   Laws q   == the operations of Field obey the laws of a field on 0 .. q-1
-- Assumes nothing.
use Rattle.std.specs.Prelude.{◌≡◌, ℕ, ◌<◌}
use Rattle.field.specs.Field.{add, multiply, negate, invert}

pub record Laws (q : ℕ) : Type 0 where
  pub one_below : 1 < q
  pub add-below : (a : ℕ) → a < q → (b : ℕ) → b < q → add q a b < q
  pub multiply-below : (a : ℕ) → a < q → (b : ℕ) → b < q → multiply q a b < q
  pub negate-below : (a : ℕ) → a < q → negate q a < q
  pub invert-below : (a : ℕ) → a < q → invert q a < q
  pub add_comm : (a : ℕ) → a < q → (b : ℕ) → b < q → add q a b ≡ add q b a
  pub add_assoc : (a : ℕ) → a < q → (b : ℕ) → b < q → (c : ℕ) → c < q → add q (add q a b) c ≡ add q a (add q b c)
  pub add-zero : (a : ℕ) → a < q → add q a 0 ≡ a
  pub add-negate : (a : ℕ) → a < q → add q a (negate q a) ≡ 0
  pub multiply-comm : (a : ℕ) → a < q → (b : ℕ) → b < q → multiply q a b ≡ multiply q b a
  pub multiply-assoc : (a : ℕ) → a < q → (b : ℕ) → b < q → (c : ℕ) → c < q
      → multiply q (multiply q a b) c ≡ multiply q a (multiply q b c)
  pub multiply-one : (a : ℕ) → a < q → multiply q a 1 ≡ a
  pub multiply-zero : (a : ℕ) → a < q → multiply q a 0 ≡ 0
  pub distribute : (a : ℕ) → a < q → (b : ℕ) → b < q → (c : ℕ) → c < q
      → multiply q a (add q b c) ≡ add q (multiply q a b) (multiply q a c)
  pub multiply-invert : (a : ℕ) → a < q → 0 < a → multiply q a (invert q a) ≡ 1
