-- What a column's writing leaves; the contracts of `matrix::write_digits` and `matrix::write_pivot`, and their steps.
--   unit_at row i          == entry i of a column that is 1 in the given row and 0 in the others
--   Blank n k c from m    == the entries of column c from row `from` on are 0
--   Written n k c f m m'  == m' is m with entry i of column c put to f i, for each of the k rows
--   Step, step-digit      == the digit that a row gets, and the digits that are left for the rows above
--   written-unit          == a pivot's column is written
--   WrittenFrom           == the same for the rows from i on alone
-- Assumes nothing.
use Rattle.std.specs.Prelude.{◌≡◌, refl, List, ℕ, suc, pred, ◌+◌, ◌*◌, ◌-◌, ◌^◌, ◌/◌, ◌%◌, ◌<◌, ◌≤◌, eqb, length, get_or, set}
use Rattle.std.proofs.Common.{ap, ◌∙◌, sym, ⊎_elim, eq-or-lt_of_le, pow-suc, div-one, arith, lt-ltb, le-ltb, eq-eqb, ne_eqb, length-set, get_or-set_same, get_or-set_other}
use Rattle.std.proofs.Math.Nat.{div-div-eq-div-mul, pow-zero}
use Rattle.basics.specs.Laws.Order.{same_or_not}
use Rattle.basics.specs.Sum.{bit}
use Rattle.basics.specs.Laws.Flat.{row_fits, flat-column, flat-row}
use Rattle.matrix.specs.Matrix.{entry}
use Rattle.matrix.specs.Shape.{digit_at}

abbrev pub unit_at : ℕ → ℕ → ℕ
unit_at row i = bit (eqb i row)

abbrev pub Blank : ℕ → ℕ → ℕ → ℕ → List ℕ → Type 0
Blank n k c from m = (i : ℕ) → from ≤ i → i < k → entry n m i c ≡ 0

pub record WrittenFrom (n k c from : ℕ) (f : ℕ → ℕ) (m m' : List ℕ) : Type 0 where
  pub sized : length m' ≡ length m
  pub column : (i : ℕ) → from ≤ i → i < k → entry n m' i c ≡ f i
  pub others : (i j : ℕ) → i < k → j < n → (j ≡ c → ⊥) → entry n m' i j ≡ entry n m i j

pub record Written (n k c : ℕ) (f : ℕ → ℕ) (m m' : List ℕ) : Type 0 where
  pub sized : length m' ≡ length m
  pub column : (i : ℕ) → i < k → entry n m' i c ≡ f i
  pub others : (i j : ℕ) → i < k → j < n → (j ≡ c → ⊥) → entry n m' i j ≡ entry n m i j

pub written_start : (q n k c rows x : ℕ) (m : List ℕ) → Blank n k c rows m → WrittenFrom n k c rows (digit_at q rows x) m m
written_start q n k c rows x m blank =
    record { sized = refl; column = λ i h l. blank i h l ∙ sym (rw (le-ltb i rows h)); others = λ i j hi hj ne. refl }

pub written_all : (n k c i : ℕ) (f : ℕ → ℕ) (m m' : List ℕ) → i ≡ 0 → WrittenFrom n k c i f m m' → Written n k c f m m'
written_all n k c i f m m' z w = record { sized = w.sized; column = λ j h. w.column j (omega arith) h; others = w.others }

pub written_step : (n k c a i : ℕ) (f : ℕ → ℕ) (m m' : List ℕ) (x : ℕ) → c < n → suc a ≡ i → i ≤ k → k * n ≤ length m → f a ≡ x
    → WrittenFrom n k c i f m m' → WrittenFrom n k c a f m (set m' (a * n + c) x)
written_step n k c a next f m m' x hc is ha fits e w =
    let room : a * n + c < length m' = omega (arith, row_fits a k n (omega arith), w.sized) in
    record {
      sized = length-set m' (a * n + c) x ∙ w.sized;
      column =
          λ i from h.
          ⊎_elim
          (λ (p : a ≡ i). ap (λ b. get_or (set m' (a * n + c) x) (b * n + c) 0) (sym p) ∙ get_or-set_same m' (a * n + c) x 0 room ∙ sym e
          ∙ ap f p)
          (λ (l : a < i).
          get_or-set_other m' (a * n + c) (i * n + c) x 0 (λ p. let q = flat-row i a n c c hc hc p in omega arith)
          ∙ w.column i (omega arith) h)
          (eq-or-lt_of_le from);
      others =
          λ i j hi hj ne.
          get_or-set_other m' (a * n + c) (i * n + j) x 0 (λ p. ne (flat-column i a n j c hj hc p)) ∙ w.others i j hi hj ne;
    }

pub written-unit : (n k c row : ℕ) (m : List ℕ) → c < n → row < k → k * n ≤ length m → Blank n k c 0 m
    → Written n k c (unit_at row) m (set m (row * n + c) 1)
written-unit n k c row m hc hr fits blank =
    let room : row * n + c < length m = omega (arith, row_fits row k n hr) in
    record {
      sized = length-set m (row * n + c) 1;
      column =
          λ i h.
          ⊎_elim
          (λ (e : i ≡ row). ap (λ b. get_or (set m (row * n + c) 1) (b * n + c) 0) e ∙ get_or-set_same m (row * n + c) 1 0 room
          ∙ sym (rw (eq-eqb i row e)))
          (λ (ne : i ≡ row → ⊥).
          get_or-set_other m (row * n + c) (i * n + c) 1 0 (λ p. ne (flat-row i row n c c hc hc p)) ∙ blank i (omega arith) h
          ∙ sym (rw (ne_eqb i row ne)))
          (same_or_not i row);
      others = λ i j hi hj ne. get_or-set_other m (row * n + c) (i * n + j) 1 0 (λ p. ne (flat-column i row n j c hj hc p));
    }

-- one row's step: the digit that is next, and what is left of the number after it
pub record Step (q rows x a digit rest : ℕ) : Type 0 where
  pub digit-is : digit_at q rows x a ≡ digit
  pub rest-is : rest ≡ x / q ^ (rows - a)

module _ (q rows x a i rest : ℕ) (next : suc a ≡ i) (left : rest ≡ x / q ^ (rows - i)) where
  pub step-digit : a < rows → Step q rows x a (rest % q) (rest / q)
  step-digit h =
      let place : pred rows - a ≡ rows - i = omega arith in
      let after : rows - a ≡ suc (rows - i) = omega arith in
      record {
        digit-is = rw (lt-ltb a rows h, place, left);
        rest-is =
            ap (λ r. r / q) left ∙ div-div-eq-div-mul x (q ^ (rows - i)) q
            ∙ ap (λ y. x / y) (sym (pow-suc q (rows - i)) ∙ ap (◌^◌ q) (sym after));
      }

pub rest-whole : (q rows x : ℕ) → x ≡ x / q ^ (rows - rows)
rest-whole q rows x = let e : rows - rows ≡ 0 = omega arith in rw (e, pow-zero, div-one)
