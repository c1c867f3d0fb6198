-- Laws of tables.
--   tabulate-same    == two rules that agree on the table's places make the same table
--   tabulate-zeros   == a rule that is 0 there makes zeros
--   tabulate-split   == a table is its first a entries and the b after them
--   tabulate-last    == a table with one more entry
-- Assumes nothing.
use Rattle.std.specs.Prelude.{◌≡◌, refl, List, [], ◌∷◌, ◌++◌, ℕ, zero, suc, ◌+◌, ◌<◌, ◌≤◌, replicate}
use Rattle.std.proofs.Common.{ap, ap₂, ◌∙◌, sym, add-zero, zero-add, add-suc, suc-add, le_refl, add-one, arith}
use Rattle.basics.specs.Table.{tabulate}

pub tabulate-same : (f g : ℕ → ℕ) (i m : ℕ) → ((j : ℕ) → i ≤ j → j < i + m → f j ≡ g j) → tabulate f i m ≡ tabulate g i m
unfolding tabulate
tabulate-same f g i zero h = refl
tabulate-same f g i (suc m) h =
    ap₂ (λ (x : ℕ) (xs : List ℕ). x ∷ xs) (h i (le_refl i) (omega arith))
    (tabulate-same f g (suc i) m (λ j l b. h j (omega arith) (omega arith)))

pub tabulate-zeros : (f : ℕ → ℕ) (i m : ℕ) → ((j : ℕ) → i ≤ j → j < i + m → f j ≡ 0) → tabulate f i m ≡ replicate m 0
unfolding tabulate
tabulate-zeros f i zero h = refl
tabulate-zeros f i (suc m) h =
    ap₂ (λ (x : ℕ) (xs : List ℕ). x ∷ xs) (h i (le_refl i) (omega arith))
    (tabulate-zeros f (suc i) m (λ j l b. h j (omega arith) (omega arith)))

pub tabulate-split : (f : ℕ → ℕ) (i a b : ℕ) → tabulate f i (a + b) ≡ tabulate f i a ++ tabulate f (i + a) b
unfolding tabulate
tabulate-split f i zero b = rw (zero-add, add-zero)
tabulate-split f i (suc a) b =
    rw suc-add (ap (λ (xs : List ℕ). f i ∷ xs) (tabulate-split f (suc i) a b ∙ rw (suc-add, add-suc)))

pub tabulate-last : (f : ℕ → ℕ) (m : ℕ) → tabulate f 0 (suc m) ≡ tabulate f 0 m ++ (f m ∷ [])
unfolding tabulate
tabulate-last f m =
    ap (tabulate f 0) (sym (add-one m)) ∙ tabulate-split f 0 m 1 ∙ ap (λ x. tabulate f 0 m ++ (f x ∷ [])) (zero-add m)
