-- A list read by a `match`, as the code reads one: an arm for each place, its key, where a number above 0 stands, and 0 in the last arm.
--   arm            == in an arm stands the list's entry at its key
--   Absent xs x    == x is no arm's key: what is known in the last arm
--   past           == then 0 stands at x, or nothing
-- Assumes nothing.
use Rattle.std.specs.Prelude.{◌≡◌, refl, List, [], ◌∷◌, ℕ, zero, suc, ◌+◌, get_or}
use Rattle.std.proofs.Common.{ap, ◌∙◌, sym, add-zero, arith}

pub arm : (xs : List ℕ) (key : ℕ) {x : ℕ} → x ≡ key → get_or xs key 0 ≡ get_or xs x 0
arm xs key e = ap (λ i. get_or xs i 0) (sym e)

-- beside A: the list begins at the key i
abbrev pub AbsentFrom : Type 0 → ℕ → List ℕ → ℕ → Type 0
AbsentFrom A i [] x = A
AbsentFrom A i (zero ∷ xs) x = AbsentFrom A (suc i) xs x
AbsentFrom A i (suc a ∷ xs) x = AbsentFrom (A × (x ≡ i → ⊥)) (suc i) xs x

abbrev pub Absent : List ℕ → ℕ → Type 0
Absent xs x = AbsentFrom Unit 0 xs x

known : (A : Type 0) (i : ℕ) (xs : List ℕ) (x : ℕ) → AbsentFrom A i xs x → A
known A i [] x r = r
known A i (zero ∷ xs) x r = known A (suc i) xs x r
known A i (suc a ∷ xs) x r = (known (A × (x ≡ i → ⊥)) (suc i) xs x r).0

past-from : (A : Type 0) (i : ℕ) (xs : List ℕ) (j x : ℕ) → x ≡ i + j → AbsentFrom A i xs x → 0 ≡ get_or xs j 0
past-from A i [] j x e r = refl
past-from A i (zero ∷ xs) zero x e r = refl
past-from A i (suc a ∷ xs) zero x e r = absurd ((known (A × (x ≡ i → ⊥)) (suc i) xs x r).1 (e ∙ add-zero i))
past-from A i (zero ∷ xs) (suc j) x e r = past-from A (suc i) xs j x (omega arith) r
past-from A i (suc a ∷ xs) (suc j) x e r = past-from (A × (x ≡ i → ⊥)) (suc i) xs j x (omega arith) r

pub past : (xs : List ℕ) (x : ℕ) → Absent xs x → 0 ≡ get_or xs x 0
past xs x r = past-from Unit 0 xs x x (omega arith) r
