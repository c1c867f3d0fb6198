-- The identifying vector, added up row by row from the top; no part of the meaning.
--   row_power n m a == what row a adds to the identifying vector
--   rows-fit        == what the first rows add fits 16 bits
--   Adding n k m v i    == v is the identifying vector but for what the first i rows add
--   adding-start, -end  == nothing is added yet, and all is
--   Added, adding-step  == one more row is added, whose pivot is in column p: the sum fits 16 bits
-- Assumes nothing.
use Rattle.std.specs.Prelude.{◌≡◌, List, ℕ, suc, ◌+◌, ◌-◌, ◌^◌, ◌<◌, ◌≤◌}
use Rattle.std.proofs.Common.{ap, ◌∙◌, sym, add-zero, zero-add, pow_mono, arith}
use Rattle.basics.specs.Sum.{sum}
use Rattle.basics.specs.Laws.SumMore.{sum-le}
use Rattle.matrix.specs.Matrix.{pivot, identifying, Reduced}
use Rattle.matrix.proofs.Laws.Vector.{identifying-rows, identifying-below}

abbrev pub row_power : ℕ → List ℕ → ℕ → ℕ
row_power n m a = 2 ^ (n - 1 - pivot n m a)

pub rows-fit : {q n k : ℕ} {m : List ℕ} → n ≤ 16 → Reduced q n k m → (i : ℕ) → i < k → sum (suc i) (row_power n m) < 2 ^ 16
rows-fit {n} {k} {m} narrow r i h =
    let g : 2 ^ n ≤ 2 ^ 16 = pow_mono narrow in
    omega (arith, g, sum-le (suc i) k (row_power n m) h, identifying-rows r, identifying-below r)

pub record Adding (n k : ℕ) (m : List ℕ) (v i : ℕ) : Type 0 where
  pub within : i ≤ k
  pub whole : v + sum i (row_power n m) ≡ identifying n k m

pub adding-start : {q n k : ℕ} {m : List ℕ} → Reduced q n k m → Adding n k m 0 k
adding-start {n} {k} {m} r =
    record { within = omega arith; whole = zero-add (sum k (row_power n m)) ∙ sym (identifying-rows r) }

pub adding-end : {n k v i : ℕ} {m : List ℕ} → i ≡ 0 → Adding n k m v i → v ≡ identifying n k m
unfolding sum
adding-end {n} {v} {m} e a = sym (add-zero v) ∙ ap (λ j. v + sum j (row_power n m)) (sym e) ∙ a.whole

pub record Added (n k : ℕ) (m : List ℕ) (v i p : ℕ) : Type 0 where
  pub inside : p < n
  pub fits : v + 2 ^ (n - 1 - p) < 2 ^ 16
  pub next : (v₁ : ℕ) → v₁ ≡ v + 2 ^ (n - 1 - p) → Adding n k m v₁ (i - 1)

module _ {q n k : ℕ} {m : List ℕ} (v i p : ℕ) (narrow : n ≤ 16) (r : Reduced q n k m) (left : 0 < i) (found : p ≡ pivot n m (i - 1))
    (a : Adding n k m v i) where
  inside-row : p < n
  inside-row = rw found (r.no-zero-row (i - 1) (omega arith))

  stepped : v + 2 ^ (n - 1 - p) + sum (i - 1) (row_power n m) ≡ identifying n k m
  unfolding sum
  stepped =
      let e : i ≡ suc (i - 1) = omega arith in
      let last : 2 ^ (n - 1 - p) ≡ row_power n m (i - 1) = ap (λ x. 2 ^ (n - 1 - x)) found in
      let all : v + (sum (i - 1) (row_power n m) + row_power n m (i - 1)) ≡ identifying n k m =
      ap (λ x. v + sum x (row_power n m)) (sym e) ∙ a.whole in
      omega (arith, last, all)

  pub adding-step : Added n k m v i p
  adding-step =
      let g : 2 ^ n ≤ 2 ^ 16 = pow_mono narrow in
      record {
        inside = inside-row;
        fits = omega (arith, stepped, identifying-below r);
        next = λ v₁ e. record { within = omega (arith, a.within); whole = ap (λ x. x + sum (i - 1) (row_power n m)) e ∙ stepped };
      }
