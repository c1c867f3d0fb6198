-- The top of a column as a number, row by row, and as digits after a number x; no part of the meaning.
--   top-none, top-next       == its value over no rows, and over one row more
--   append-none, append-next == x with no digits after it, and with one digit more
--   append-grows             == with more digits it is not smaller
-- Assumes nothing.
use Rattle.std.specs.Prelude.{◌≡◌, ◌⊎◌, [], ◌∷◌, ℕ, zero, suc, ◌+◌, ◌*◌, ◌^◌, ◌<◌, ◌≤◌}
use Rattle.std.proofs.Math.Path.{refl, ap}
use Rattle.std.proofs.Common.{◌∙◌, inl, inr, one-mul, le_of_eq, eq-or-lt_of_le, le-mul_of_pos_right, arith}
use Rattle.std.proofs.Math.Nat.{pow-zero, pow-suc}
use Rattle.basics.specs.Laws.Digits.{value-append}
use Rattle.basics.specs.Sum.{value}
use Rattle.basics.specs.Table.{tabulate}
use Rattle.basics.specs.Laws.TableLaws.{tabulate-last}
use Rattle.matrix.specs.Laws.Shape.{top_value}

module _ (q : ℕ) (A : ℕ → ℕ → ℕ) (c : ℕ) where
  pub top-none : top_value q A 0 c ≡ 0
  unfolding top_value tabulate value
  top-none = refl

  pub top-next : (i : ℕ) → top_value q A (suc i) c ≡ top_value q A i c * q + A i c
  unfolding top_value value
  top-next i =
      ap (value q) (tabulate-last (λ r. A r c) i) ∙ value-append q (tabulate (λ r. A r c) 0 i) (A i c ∷ [])
      ∙ step (value q (tabulate (λ r. A r c) 0 i))
    where
      step : (v : ℕ) → v * q ^ 1 + (A i c * q ^ 0 + 0) ≡ v * q + A i c
      step v = let e : q ^ 1 ≡ q = pow-suc q 0 ∙ rw (pow-zero, one-mul) in rw (e, pow-zero q) (omega arith)

  pub append-none : (x : ℕ) → x * q ^ 0 + top_value q A 0 c ≡ x
  append-none x = rw (pow-zero, top-none) (omega arith)

  pub append-next : (x i : ℕ) → x * q ^ suc i + top_value q A (suc i) c ≡ (x * q ^ i + top_value q A i c) * q + A i c
  append-next x i = rw (pow-suc, top-next i) (moved (q ^ i) (top_value q A i c))
    where
      moved : (p t : ℕ) → x * (p * q) + (t * q + A i c) ≡ (x * p + t) * q + A i c
      moved p t = omega arith

  pub append-grows : 0 < q → (x i j : ℕ) → i ≤ j → x * q ^ i + top_value q A i c ≤ x * q ^ j + top_value q A j c
  append-grows h x i zero l = let e : i ≡ 0 = omega arith in rw e (omega arith)
  append-grows h x i (suc j) l = cases (eq-or-lt_of_le l) (append-grows h x i j)
    where
      cases : (i ≡ suc j) ⊎ (i < suc j) → (i ≤ j → x * q ^ i + top_value q A i c ≤ x * q ^ j + top_value q A j c)
          → x * q ^ i + top_value q A i c ≤ x * q ^ suc j + top_value q A (suc j) c
      cases (inl e) before = le_of_eq (ap (λ r. x * q ^ r + top_value q A r c) e)
      cases (inr g) before = omega (arith, before (omega arith), append-next x j, le-mul_of_pos_right (x * q ^ j + top_value q A j c) h)
