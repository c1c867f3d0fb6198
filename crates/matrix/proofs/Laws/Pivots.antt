-- The columns of a reduced matrix's pivots, from its identifying vector; no part of the meaning. The lowest set bit is the last row's
-- pivot, as the pivots lie farther and farther to the right; without it the rows above are left.
--   trailing-of        == an odd number times 2^e has e trailing zeros
--   powers-multiple    == powers of 2 with exponents from e on add up to a multiple of 2^e
--   Left n k m rest i pivots == `rest` is what the first i rows add to the vector, and `pivots` has the pivots' columns of the others
--   left-start, left_end == all rows are left, and none
--   Next, left_step    == the lowest set bit of what is left is the last row's pivot, and without it one row less is left
-- Assumes nothing.
use Rattle.std.specs.Prelude.{◌≡◌, List, length, get_or, set}
use Rattle.std.proofs.Math.Path.{ap}
use Rattle.std.proofs.Common.{ap₂, ◌∙◌, sym, ⊎_elim, zero-mul, not-suc-le-zero, le_of_suc-le-suc, sub-add_cancel, arith, pow-add, get_or-set_same, get_or-set_other}
use Prim.Native.Nat.{ℕ, zero, suc, ◌+◌, ◌*◌, ◌-◌, ◌^◌, ◌/◌, ◌%◌, ◌<◌, ◌≤◌}
use Rattle.std.proofs.Math.Nat.{pow-zero, pow-succ', mul_left_comm, add-mul}
use Rattle.std.specs.Int.Count.{count_trailing_zeros, under}
use Rattle.basics.specs.Laws.Order.{same_or_not}
use Rattle.basics.specs.Sum.{sum}
use Rattle.matrix.specs.Matrix.{pivot, identifying, Reduced}
use Rattle.matrix.specs.Laws.Rows.{rising-far}
use Rattle.matrix.specs.Laws.Bits.{shifted_one}
use Rattle.matrix.proofs.Laws.Vector.{identifying-rows}
use Rattle.matrix.proofs.Laws.VectorRows.{row_power}

pub trailing-of : (w e x : ℕ) → e < w → count_trailing_zeros w ((1 + 2 * x) * 2 ^ e) ≡ e
unfolding count_trailing_zeros
trailing-of zero e x h = absurd (not-suc-le-zero h)
trailing-of (suc w) zero x h =
    let odd : (1 + 2 * x) * 2 ^ 0 % 2 ≡ 1 = rw pow-zero (omega arith) in
    ap (λ d. under d (count_trailing_zeros w ((1 + 2 * x) * 2 ^ 0 / 2))) odd
trailing-of (suc w) (suc e) x h =
    let doubled : (1 + 2 * x) * 2 ^ suc e ≡ 2 * ((1 + 2 * x) * 2 ^ e) = rw (pow-succ' 2 e) (mul_left_comm (1 + 2 * x) 2 (2 ^ e)) in
    let even : (1 + 2 * x) * 2 ^ suc e % 2 ≡ 0 = rw doubled (omega arith) in
    let half : (1 + 2 * x) * 2 ^ suc e / 2 ≡ (1 + 2 * x) * 2 ^ e = rw doubled (omega arith) in
    ap₂ under even (ap (count_trailing_zeros w) half) ∙ ap suc (trailing-of w e x (le_of_suc-le-suc h))

powers-multiple : (i e : ℕ) (f : ℕ → ℕ) → ((a : ℕ) → a < i → e ≤ f a) → (x : ℕ) × (sum i (λ a. 2 ^ f a) ≡ x * 2 ^ e)
unfolding sum
powers-multiple zero e f h = (0, sym (zero-mul (2 ^ e)))
powers-multiple (suc i) e f h =
    let (x, s) = powers-multiple i e f (λ a b. h a (omega arith)) in
    let last : 2 ^ f i ≡ 2 ^ (f i - e) * 2 ^ e =
    ap (λ y. 2 ^ y) (sym (sub-add_cancel (h i (omega arith)))) ∙ pow-add 2 (f i - e) e in
    (x + 2 ^ (f i - e), ap₂ ◌+◌ s last ∙ sym (add-mul x (2 ^ (f i - e)) (2 ^ e)))

pub record Left (n k : ℕ) (m : List ℕ) (rest i : ℕ) (pivots : List ℕ) : Type 0 where
  pub added : rest ≡ sum i (row_power n m)
  pub known : (a : ℕ) → i ≤ a → a < k → get_or pivots a 0 ≡ pivot n m a

pub left-start : {q n k : ℕ} {m : List ℕ} → Reduced q n k m → (v : ℕ) (pivots : List ℕ) → v ≡ identifying n k m → Left n k m v k pivots
left-start r v pivots e = record { added = e ∙ identifying-rows r; known = λ a l g. absurd (omega arith) }

pub left_end : {n k rest i : ℕ} {m pivots : List ℕ} → i ≡ 0 → Left n k m rest i pivots → (a : ℕ) → a < k → get_or pivots a 0 ≡ pivot n m a
left_end e l a h = l.known a (omega arith) h

pub record Next (n k : ℕ) (m : List ℕ) (rest i j : ℕ) (pivots : List ℕ) : Type 0 where
  pub inside : j < n
  pub enough : 1 * 2 ^ j % 65536 ≤ rest
  pub next : Left n k m (rest - 1 * 2 ^ j % 65536) i (set pivots i (n - 1 - j))

module _ {q n k : ℕ} {m : List ℕ} (narrow : n ≤ 16) (r : Reduced q n k m) (rest i j : ℕ) (pivots : List ℕ) (h : suc i ≤ k)
    (room : i < length pivots) (lowest : j ≡ count_trailing_zeros 16 rest) (l : Left n k m rest (suc i) pivots) where
  inside-row : pivot n m i < n
  inside-row = r.no-zero-row i h

  lowest-bit : j ≡ n - 1 - pivot n m i
  unfolding sum
  lowest-bit =
      let e : ℕ = n - 1 - pivot n m i in
      let (x, s) =
      powers-multiple i (suc e) (λ a. n - 1 - pivot n m a)
      (λ a b. omega (arith, rising-far n k m r.pivots-rise a i b h, inside-row)) in
      let all : rest ≡ (1 + 2 * x) * 2 ^ e =
      l.added ∙ ap (λ y. y + 2 ^ e) (s ∙ ap (λ y. x * y) (pow-succ' 2 e))
      ∙ omega (arith, mul_left_comm x 2 (2 ^ e), add-mul 1 (2 * x) (2 ^ e)) in
      lowest ∙ ap (count_trailing_zeros 16) all ∙ trailing-of 16 e x (omega (arith, inside-row))

  power : 1 * 2 ^ j % 65536 ≡ row_power n m i
  power = shifted_one j (omega (arith, lowest-bit, inside-row)) ∙ ap (λ y. 2 ^ y) lowest-bit

  column : (a : ℕ) → i ≤ a → a < k → get_or (set pivots i (n - 1 - j)) a 0 ≡ pivot n m a
  column a b g =
      ⊎_elim
      (λ (e : a ≡ i).
      ap (λ y. get_or (set pivots i (n - 1 - j)) y 0) e
      ∙ get_or-set_same pivots i (n - 1 - j) 0 room
      ∙ omega (arith, lowest-bit, inside-row)
      ∙ ap (pivot n m) (sym e))
      (λ ne. get_or-set_other pivots i a (n - 1 - j) 0 ne ∙ l.known a (omega (arith, ne)) g)
      (same_or_not a i)

  pub left_step : Next n k m rest i j pivots
  unfolding sum
  left_step =
      record {
        inside = omega (arith, lowest-bit, inside-row);
        enough = omega (arith, power, l.added);
        next = record { added = omega (arith, power, l.added); known = column };
      }
