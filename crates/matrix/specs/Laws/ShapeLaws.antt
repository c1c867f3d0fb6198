-- Laws of peeling; no part of the meaning.
--   top_value-same, top_value-below == a column's value is told by its entries, and is below q to their number
--   peeled-same    == the shape is told by the first k rows and n columns
--   peeled-valid   == a shape that is peeled off a matrix is one of a reduced matrix
--   free-rest, -value; pivot-rest, -one, -above, -before == what peeling a column shows
-- Assumes nothing.
use Rattle.std.specs.Prelude.{◌≡◌, refl, ℕ, suc, ◌^◌, ◌<◌}
use Rattle.std.proofs.Common.{◌∙◌, sym, le_refl, arith}
use Rattle.basics.specs.Laws.TableValue.{table-value-below, table-value-same}
use Rattle.matrix.specs.Shape.{Shape, free, pivot}
use Rattle.matrix.specs.Laws.Shape.{top_value, Peeled, peeled-empty, peeled-free, peeled-pivot, Valid, valid-empty, valid-free}
use Rattle.matrix.specs.Laws.Shape.{valid-pivot}

pub top_value-below : (q : ℕ) (A : ℕ → ℕ → ℕ) (k c : ℕ) → ((i : ℕ) → i < k → A i c < q) → top_value q A k c < q ^ k
unfolding top_value
top_value-below q A k c h = table-value-below q (λ i. A i c) k h

pub top_value-same : (q : ℕ) (A B : ℕ → ℕ → ℕ) (k c : ℕ) → ((i : ℕ) → i < k → A i c ≡ B i c) → top_value q A k c ≡ top_value q B k c
unfolding top_value
top_value-same q A B k c h = table-value-same q (λ i. A i c) k (λ i. B i c) h

pub peeled-same : {q : ℕ} {A : ℕ → ℕ → ℕ} {k n : ℕ} {s : Shape} (B : ℕ → ℕ → ℕ) → ((i j : ℕ) → i < k → j < n → A i j ≡ B i j)
    → Peeled q A k n s → Peeled q B k n s
peeled-same B h peeled-empty = peeled-empty
peeled-same {q} {A} B h (peeled-free {k} {n} {s} g p) =
    rw (top_value-same q A B k n (λ i l. h i n l (le_refl (suc n))))
    (peeled-free {n = n} (λ i l. rw (← (h i n l (le_refl (suc n)))) (g i l)) (peeled-same B (λ i j l b. h i j l (omega arith)) p))
peeled-same {q} {A} B h (peeled-pivot {k} {n} o above left p) =
    peeled-pivot (sym (h k n (le_refl (suc k)) (le_refl (suc n))) ∙ o)
    (λ i l. sym (h i n (omega arith) (le_refl (suc n))) ∙ above i l) (λ j l. sym (h k j (le_refl (suc k)) (omega arith)) ∙ left j l)
    (peeled-same B (λ i j l b. h i j (omega arith) (omega arith)) p)

pub peeled-valid : {q : ℕ} {A : ℕ → ℕ → ℕ} {k n : ℕ} {s : Shape} → Peeled q A k n s → Valid q k n s
peeled-valid peeled-empty = valid-empty
peeled-valid {q} {A} (peeled-free {k} {n} g p) = valid-free (top_value-below q A k n g) (peeled-valid p)
peeled-valid (peeled-pivot o above left p) = valid-pivot (peeled-valid p)

-- what peeling a free column shows
pub free-rest : {q : ℕ} {A : ℕ → ℕ → ℕ} {k c : ℕ} {s : Shape} {x : ℕ} → Peeled q A k (suc c) (free x s) → Peeled q A k c s
free-rest (peeled-free g p) = p

pub free-value : {q : ℕ} {A : ℕ → ℕ → ℕ} {k c : ℕ} {s : Shape} {x : ℕ} → Peeled q A k (suc c) (free x s) → x ≡ top_value q A k c
free-value (peeled-free g p) = refl

-- and a pivot's
pub pivot-rest : {q : ℕ} {A : ℕ → ℕ → ℕ} {k c : ℕ} {s : Shape} → Peeled q A (suc k) (suc c) (pivot s) → Peeled q A k c s
pivot-rest (peeled-pivot o above left p) = p

pub pivot-one : {q : ℕ} {A : ℕ → ℕ → ℕ} {k c : ℕ} {s : Shape} → Peeled q A (suc k) (suc c) (pivot s) → A k c ≡ 1
pivot-one (peeled-pivot o above left p) = o

pub pivot-above : {q : ℕ} {A : ℕ → ℕ → ℕ} {k c : ℕ} {s : Shape} → Peeled q A (suc k) (suc c) (pivot s) → (i : ℕ) → i < k → A i c ≡ 0
pivot-above (peeled-pivot o above left p) = above

pub pivot-before : {q : ℕ} {A : ℕ → ℕ → ℕ} {k c : ℕ} {s : Shape} → Peeled q A (suc k) (suc c) (pivot s) → (j : ℕ) → j < c → A k j ≡ 0
pivot-before (peeled-pivot o above left p) = left
