-- Places in a matrix that is laid out row by row.
--   row_fits    == row a of k ends within the k * n places
--   flat-column, flat-row == the place tells the column and the row
-- Assumes nothing.
use Rattle.std.specs.Prelude.{◌≡◌, ℕ, suc, ◌+◌, ◌*◌, ◌<◌, ◌≤◌, ◌%◌}
use Rattle.std.proofs.Common.{sym, ◌∙◌, ap, mul-le-mul_right, mod-eq_of_lt, arith}
use Rattle.std.proofs.Math.Nat.{mul-add-mod_self_right, eq_of_mul-eq-mul_right}

pub row_fits : (a k n : ℕ) → a < k → a * n + n ≤ k * n
row_fits a k n h = omega (arith, mul-le-mul_right {m = suc a} {n = k} n h)

pub flat-column : (a b n i j : ℕ) → i < n → j < n → a * n + i ≡ b * n + j → i ≡ j
flat-column a b n i j hi hj e =
    sym (mul-add-mod_self_right a n i ∙ mod-eq_of_lt hi) ∙ ap (λ x. x % n) e ∙ mul-add-mod_self_right b n j ∙ mod-eq_of_lt hj

pub flat-row : (a b n i j : ℕ) → i < n → j < n → a * n + i ≡ b * n + j → a ≡ b
flat-row a b n i j hi hj e =
    let c : i ≡ j = flat-column a b n i j hi hj e in
    eq_of_mul-eq-mul_right n (omega arith) a b (omega arith)
