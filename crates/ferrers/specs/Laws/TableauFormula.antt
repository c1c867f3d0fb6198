-- The tableau of a reduced matrix, read off its peeled shape; no part of the meaning. A column's entries at its dots are its first ones, as
-- many as there are rows left.
--   located-tableau  == the entries at the dots of a column
--   tableau-formula  == {x} is the shape's tableau
-- Assumes nothing.
use Rattle.std.specs.Prelude.{◌≡◌, refl, true, false, List, [], ◌∷◌, ◌++◌, ℕ, zero, suc, ◌+◌, ◌*◌, ◌-◌, ◌^◌, ◌<◌, ◌≤◌, ltb, length}
use Rattle.std.proofs.Common.{ap, ap₂, ◌∙◌, sym, le_refl, zero-add, suc-add, add-sub_of_le, arith, lt-ltb, le-ltb, length-append}
use Rattle.std.proofs.Math.Nat.{sub_self}
use Rattle.std.proofs.Math.Arith.{sub-sub_self}
use Rattle.basics.specs.Laws.Digits.{value-append}
use Rattle.basics.specs.Sum.{value}
use Rattle.basics.specs.Table.{tabulate}
use Rattle.basics.specs.Laws.TableSize.{tabulate-length}
use Rattle.matrix.specs.Laws.PeelPlace.{Located, located-start, located-left, located-free, located-pivot, free-no-pivot, pivot-here}
use Rattle.matrix.specs.Matrix.{entry, pivot as pivot_column, Reduced}
use Rattle.matrix.specs.Shape.{Shape, free, pivot}
use Rattle.matrix.specs.Laws.Shape.{top_value, Peeled, peeled-empty, peeled-free, peeled-pivot}
use Rattle.ferrers.specs.Ferrers.{free_from, free_columns, dotted, dotted_from, tableau_of, tableau, tableau_value}
use Rattle.ferrers.specs.Laws.ShapeRank.{shape_size, shape_tableau}

dotted-none : (n : ℕ) (m : List ℕ) (j i left : ℕ) → ((a : ℕ) → i ≤ a → a < i + left → dotted n m j a ≡ false) → dotted_from n m j i left ≡ []
unfolding dotted_from
dotted-none n m j i zero h = refl
dotted-none n m j i (suc left) h =
    rw (h i (le_refl i) (omega arith)) (dotted-none n m j (suc i) left (λ a b c. h a (omega arith) (omega arith)))

dotted-first : (n : ℕ) (m : List ℕ) (j i k left : ℕ) → ((a : ℕ) → i ≤ a → a < i + k → dotted n m j a ≡ true)
    → ((a : ℕ) → i + k ≤ a → a < i + (k + left) → dotted n m j a ≡ false)
    → dotted_from n m j i (k + left) ≡ tabulate (λ a. entry n m a (n - j)) i k
unfolding dotted_from tabulate
dotted-first n m j i zero left t f =
    rw (zero-add left) (dotted-none n m j i left (λ a b c. f a (omega arith) (omega arith)))
dotted-first n m j i (suc k) left t f =
    rw (suc-add k left, t i (le_refl i) (omega arith))
    (ap (λ (xs : List ℕ). entry n m i (n - j) ∷ xs)
    (dotted-first n m j (suc i) k left (λ a b c. t a (omega arith) (omega arith)) (λ a b c. f a (omega arith) (omega arith))))

pub located-tableau : {q N K k c : ℕ} {m : List ℕ} {s : Shape} → Located q N K m k c s
    → dotted_from N m (N - c) 0 K ≡ tabulate (λ i. entry N m i c) 0 k
located-tableau {N} {K} {k} {c} {m} l =
    let e : K ≡ k + (K - k) = sym (add-sub_of_le l.rows) in
    let back : N - (N - c) ≡ c = sub-sub_self l.columns in
    ap (dotted_from N m (N - c) 0) e
    ∙ dotted-first N m (N - c) 0 k (K - k)
    (λ a _ h. ap (ltb (pivot_column N m a)) back ∙ lt-ltb (pivot_column N m a) c (located-left l a (omega arith)))
    (λ a h b. ap (ltb (pivot_column N m a)) back ∙ le-ltb (pivot_column N m a) c (l.right a (omega arith) (omega arith)))
    ∙ ap (λ x. tabulate (λ i. entry N m i x) 0 k) back

-- the list xs has as many entries as the shape has dots, and their number is its tableau
record Read (q : ℕ) (xs : List ℕ) (k : ℕ) (s : Shape) : Type 0 where
  digits : length xs ≡ shape_size s k
  number : value q xs ≡ shape_tableau q s k

read-free : {q k : ℕ} {xs ys : List ℕ} {s : Shape} (A : ℕ → ℕ → ℕ) (c : ℕ) → xs ≡ tabulate (λ i. A i c) 0 k → Read q ys k s
    → Read q (xs ++ ys) k (free (top_value q A k c) s)
unfolding shape_size shape_tableau top_value
read-free {q} {k} {xs} {ys} {s} A c e r =
    record {
      digits = length-append xs ys ∙ ap₂ (λ a b. a + b) (ap length e ∙ tabulate-length (λ i. A i c) 0 k) r.digits;
      number =
          value-append q xs ys
          ∙ ap₂ (λ v l. value q v * q ^ l + value q ys) e r.digits
          ∙ ap (λ t. value q (tabulate (λ i. A i c) 0 k) * q ^ shape_size s k + t) r.number;
    }

read-pivot : {q k : ℕ} {xs : List ℕ} {s : Shape} → Read q xs k s → Read q xs (suc k) (pivot s)
unfolding shape_size shape_tableau
read-pivot r = record { digits = r.digits; number = r.number }

tableau-walk : {q N K : ℕ} {m : List ℕ} {k c : ℕ} {s : Shape} (j : ℕ) → j ≡ suc (N - c) → Peeled q (entry N m) k c s → Located q N K m k c s
    → Read q (tableau_of N K m (free_from N K m j c)) k s
unfolding free_from tableau_of shape_size shape_tableau value
tableau-walk j e peeled-empty l = record { digits = refl; number = refl }
tableau-walk {q} {N} {K} {m} j e (peeled-free {k} {n} {s} g p) l =
    let here : j ≡ N - n = omega (arith, l.columns) in
    rw (here, free-no-pivot l)
    (read-free (entry N m) n (located-tableau (located-free l)) (tableau-walk (suc (N - n)) refl p (located-free l)))
tableau-walk {q} {N} {K} {m} j e (peeled-pivot {k} {n} {s} o above left p) l =
    let here : j ≡ N - n = omega (arith, l.columns) in
    rw (here, pivot-here l) (read-pivot (tableau-walk (suc (N - n)) refl p (located-pivot l)))

pub tableau-formula : {q n k : ℕ} {m : List ℕ} {s : Shape} → Reduced q n k m → Peeled q (entry n m) k n s
    → tableau_value q n k m ≡ shape_tableau q s k
unfolding tableau_value tableau free_columns
tableau-formula {n} r p = (tableau-walk 1 (ap suc (sym (sub_self n))) p (located-start r p)).number
