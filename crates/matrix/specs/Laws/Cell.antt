-- A shape and the matrix that it tells; no part of the meaning.
--   top_value-digit  == an entry of a column is a digit of the column's value
--   cell-outside    == below the last row stand zeros
--   peeled-cell     == the matrix of a shape has that shape
--   peeled-entries  == a matrix with a shape has the shape's entries
-- Assumes nothing.
use Rattle.std.specs.Prelude.{◌≡◌, Bool, true, false, ◌⊎◌, ℕ, suc, pred, ◌-◌, ◌^◌, ◌/◌, ◌%◌, ◌<◌, ◌≤◌, eqb}
use Rattle.std.proofs.Math.Path.{refl}
use Rattle.std.proofs.Common.{◌∙◌, sym, subst, inl, inr, le_refl, not-suc-le-zero, eq-or-lt_of_le, le_of_suc-le-suc, mod-lt, arith}
use borrow.Author.Tests.{eq-eqb, ne_eqb, lt-ltb, le-ltb}
use Rattle.basics.specs.Choice.{pick}
use Rattle.basics.specs.Laws.Digits.{digit-of-value, value-digits}
use Rattle.basics.specs.Sum.{bit}
use Rattle.basics.specs.Table.{tabulate}
use Rattle.basics.specs.Laws.Table.{table_at}
use Rattle.basics.specs.Laws.TableSize.{tabulate-length}
use Rattle.basics.specs.Laws.TableValue.{table-digits, table-value-same}
use Rattle.matrix.specs.Laws.ShapeLaws.{peeled-same, peeled-valid}
use Rattle.matrix.specs.Shape.{Shape, free, pivot, cell}
use Rattle.matrix.specs.Laws.Shape.{top_value, Peeled, peeled-empty, peeled-free, peeled-pivot, Valid, valid-empty, valid-free}
use Rattle.matrix.specs.Laws.Shape.{valid-pivot}

pub top_value-digit : (q : ℕ) (A : ℕ → ℕ → ℕ) (k c i : ℕ) → ((a : ℕ) → a < k → A a c < q) → i < k
    → top_value q A k c / q ^ (pred k - i) % q ≡ A i c
unfolding top_value
top_value-digit q A k c i h b =
    rw (tabulate-length (λ a. A a c) 0 k) at
    (digit-of-value q (tabulate (λ a. A a c) 0 k) i (table-digits q (λ a. A a c) k h) (omega (arith, tabulate-length (λ a. A a c) 0 k)))
    ∙ table_at (λ a. A a c) k i b

module _ (q k n : ℕ) (s : Shape) where
  -- the last column, and the ones before it
  cell-free-last : (x i : ℕ) → i < k → cell q (free x s) k (suc n) i n ≡ x / q ^ (pred k - i) % q
  unfolding cell
  cell-free-last x i h = rw (eq-eqb n n refl, lt-ltb i k h)

  cell-free-before : (x i j : ℕ) → j < n → cell q (free x s) k (suc n) i j ≡ cell q s k n i j
  unfolding cell
  cell-free-before x i j h = rw (ne_eqb j n (omega arith))

  cell-pivot-last : (i : ℕ) → cell q (pivot s) (suc k) (suc n) i n ≡ bit (eqb i k)
  unfolding cell
  cell-pivot-last i = rw (eq-eqb n n refl)

  cell-pivot-before : (i j : ℕ) → j < n → cell q (pivot s) (suc k) (suc n) i j ≡ cell q s k n i j
  unfolding cell
  cell-pivot-before i j h = rw (ne_eqb j n (omega arith))

column : (q x k n : ℕ) (s : Shape) → 0 < q → x < q ^ k → top_value q (cell q (free x s) k (suc n)) k n ≡ x
unfolding top_value
column q x k n s h b =
    table-value-same q (λ i. cell q (free x s) k (suc n) i n) k (λ i. x / q ^ (pred k - i) % q) (λ i l. cell-free-last q k n s x i l)
    ∙ value-digits q k x h b

either : (b : Bool) (x y : ℕ) → x ≡ 0 → y ≡ 0 → pick b x y ≡ 0
either true x y h g = h
either false x y h g = g

pub cell-outside : {q k n : ℕ} {s : Shape} → Valid q k n s → (i j : ℕ) → k ≤ i → cell q s k n i j ≡ 0
unfolding cell
cell-outside valid-empty i j h = refl
cell-outside {q} (valid-free {k} {n} {x} {s} b v) i j h =
    rw (le-ltb i k h) (either (eqb j n) 0 (cell q s k n i j) refl (cell-outside v i j h))
cell-outside {q} (valid-pivot {k} {n} {s} v) i j h =
    rw (ne_eqb i k (omega arith)) (either (eqb j n) 0 (cell q s k n i j) refl (cell-outside v i j (omega arith)))

pub peeled-cell : {q k n : ℕ} {s : Shape} → 0 < q → Valid q k n s → Peeled q (cell q s k n) k n s
peeled-cell h valid-empty = peeled-empty
peeled-cell {q} h (valid-free {k} {n} {x} {s} b v) =
    let A = cell q (free x s) k (suc n) in
    let p : Peeled q A k n s = peeled-same A (λ i j l c. sym (cell-free-before q k n s x i j c)) (peeled-cell h v) in
    let d : (i : ℕ) → i < k → A i n < q = λ i l. rw (cell-free-last q k n s x i l) (mod-lt (x / q ^ (pred k - i)) h) in
    subst (λ y. Peeled q A k (suc n) (free y s)) (column q x k n s h b) (peeled-free {n = n} d p)
peeled-cell {q} h (valid-pivot {k} {n} {s} v) =
    let A = cell q (pivot s) (suc k) (suc n) in
    let p : Peeled q A k n s = peeled-same A (λ i j l c. sym (cell-pivot-before q k n s i j c)) (peeled-cell h v) in
    peeled-pivot {n = n} (cell-pivot-last q k n s k ∙ rw (eq-eqb k k refl))
    (λ i l. cell-pivot-last q k n s i ∙ rw (ne_eqb i k (omega arith)))
    (λ j l. cell-pivot-before q k n s k j l ∙ cell-outside v k j (le_refl k)) p

pub peeled-entries : {q : ℕ} {A : ℕ → ℕ → ℕ} {k n : ℕ} {s : Shape} → Peeled q A k n s → (i j : ℕ) → i < k → j < n → A i j ≡ cell q s k n i j
peeled-entries peeled-empty i j h b = absurd (not-suc-le-zero h)
peeled-entries {q} {A} (peeled-free {k} {n} {s} g p) i j h b = cases (eq-or-lt_of_le (le_of_suc-le-suc b)) (λ c. peeled-entries p i j h c)
  where
    cases : (j ≡ n) ⊎ (j < n) → (j < n → A i j ≡ cell q s k n i j) → A i j ≡ cell q (free (top_value q A k n) s) k (suc n) i j
    cases (inl e) r = rw (e, cell-free-last q k n s (top_value q A k n) i h) (sym (top_value-digit q A k n i g h))
    cases (inr l) r = r l ∙ sym (cell-free-before q k n s (top_value q A k n) i j l)
peeled-entries {q} {A} (peeled-pivot {k} {n} {s} o above left p) i j h b =
    cases (eq-or-lt_of_le (le_of_suc-le-suc h)) (eq-or-lt_of_le (le_of_suc-le-suc b)) (λ l c. peeled-entries p i j l c)
  where
    cases : (i ≡ k) ⊎ (i < k) → (j ≡ n) ⊎ (j < n) → (i < k → j < n → A i j ≡ cell q s k n i j)
        → A i j ≡ cell q (pivot s) (suc k) (suc n) i j
    cases (inl d) (inl e) r = rw (d, e, o, cell-pivot-last q k n s k, eq-eqb k k refl)
    cases (inl d) (inr l) r =
        rw (d, left j l, cell-pivot-before q k n s k j l) (sym (cell-outside (peeled-valid p) k j (le_refl k)))
    cases (inr l) (inl e) r = rw (e, above i l, cell-pivot-last q k n s i, ne_eqb i k (omega arith))
    cases (inr l) (inr c) r = r l c ∙ sym (cell-pivot-before q k n s i j c)
