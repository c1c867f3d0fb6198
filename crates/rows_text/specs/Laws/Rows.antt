-- Laws of the rows' text; no part of the meaning. A row and its slash take n + 1 places.
--   rows_text-length == k rows take k * n places, and k - 1 slashes
--   rows_text-digit  == at column j of row i stands that entry's digit
--   rows_text-slash  == after a row that is not the last stands a slash
--   size-bound      == 16 rows of 16 entries are 256 entries
--   place-row, place-entry   == the row and the entry that a place of the text shows
--   place-slash, place-digit == the byte at a place
--   rows_text-front  == what stands behind the k rows is no part of the text
-- Assumes nothing.
use Rattle.std.specs.Prelude.{◌≡◌, List, ◌∷◌, ◌++◌, length}
use Rattle.std.proofs.Math.Path.{refl}
use Rattle.std.proofs.Common.{ap, ap₂, ◌∙◌, sym, ⊎_elim, mul-suc, suc-mul, mul-le-mul, mul-le-mul_right, lt_of_mul-lt-mul_right, div-add-mod', add-zero, add-one, get_or-append-add}
use Prim.Native.Nat.{ℕ, zero, suc, ◌+◌, ◌*◌, ◌-◌, ◌/◌, ◌%◌, ◌≤◌, ◌<◌}
use native.Mathlib.Omega.{arith}
use Rattle.std.proofs.Math.ListN.{get_or, length-append, get_or-append}
use Rattle.basics.specs.Laws.Flat.{row_fits}
use Rattle.basics.specs.Laws.Order.{le-or-lt}
use Rattle.basics.specs.Laws.Table.{table_at}
use Rattle.basics.specs.Laws.TableLaws.{tabulate-same}
use Rattle.basics.specs.Laws.TableSize.{tabulate-length}
use Rattle.text.specs.Text.{slash, glyph}
use Rattle.rows_text.specs.Rows.{row_text, rows_text}

module _ (n : ℕ) (m : List ℕ) where
  row-length : (i : ℕ) → length (row_text n m i) ≡ n
  unfolding row_text
  row-length i = tabulate-length _ 0 n

  row_at : (i j : ℕ) → j < n → get_or (row_text n m i) j 0 ≡ glyph (get_or m (i * n + j) 0)
  unfolding row_text
  row_at i j h = table_at (λ j. glyph (get_or m (i * n + j) 0)) n j h

  one_more : (i : ℕ) → rows_text n (suc (suc i)) m ≡ rows_text n (suc i) m ++ (slash ∷ row_text n m (suc i))
  unfolding rows_text
  one_more i = refl

  some-length : (i : ℕ) → length (rows_text n (suc i) m) ≡ i * suc n + n
  unfolding rows_text
  some-length zero = omega (arith, row-length 0)
  some-length (suc i) =
      length-append (rows_text n (suc i) m) (slash ∷ row_text n m (suc i)) ∙ omega (arith, some-length i, row-length (suc i))

  pub rows_text-length : (k : ℕ) → length (rows_text n k m) ≡ k * n + (k - 1)
  unfolding rows_text
  rows_text-length zero = omega arith
  rows_text-length (suc i) = some-length i ∙ omega arith

  -- what stands in the rows before the last stands there in all
  earlier : (i p : ℕ) → p < i * suc n + n → get_or (rows_text n (suc (suc i)) m) p 0 ≡ get_or (rows_text n (suc i) m) p 0
  earlier i p h =
      rw one_more (get_or-append (rows_text n (suc i) m) (slash ∷ row_text n m (suc i)) 0 p (omega (arith, some-length i)))

  -- and then come the slash and the last row
  later : (i p : ℕ) → get_or (rows_text n (suc (suc i)) m) (i * suc n + n + p) 0 ≡ get_or (slash ∷ row_text n m (suc i)) p 0
  later i p =
      rw (one_more, ← some-length i) (get_or-append-add (rows_text n (suc i) m) (slash ∷ row_text n m (suc i)) p 0)

  pub rows_text-slash : (k i : ℕ) → suc i < k → get_or (rows_text n k m) (i * suc n + n) 0 ≡ slash
  rows_text-slash zero i h = absurd (omega arith)
  rows_text-slash (suc zero) i h = absurd (omega arith)
  rows_text-slash (suc (suc b)) i h =
      ⊎_elim
      (λ l. earlier b (i * suc n + n) (omega (arith, mul-le-mul_right {m = suc i} {n = b} (suc n) l))
      ∙ rows_text-slash (suc b) i (omega arith))
      (λ g.
      let e : i ≡ b = omega arith in
      rw e (ap (λ p. get_or (rows_text n (suc (suc b)) m) p 0) (sym (add-zero (b * suc n + n))) ∙ later b 0))
      (le-or-lt (suc i) b)

  first : (i j : ℕ) → i < 1 → j < n → get_or (rows_text n 1 m) (i * suc n + j) 0 ≡ glyph (get_or m (i * n + j) 0)
  unfolding rows_text
  first i j h l =
      let e : i ≡ 0 = omega arith in
      let f : 0 * suc n + j ≡ j = omega arith in
      rw e (ap (λ p. get_or (row_text n m 0) p 0) f ∙ row_at 0 j l)

  pub rows_text-digit : (k i j : ℕ) → i < k → j < n → get_or (rows_text n k m) (i * suc n + j) 0 ≡ glyph (get_or m (i * n + j) 0)
  rows_text-digit zero i j h l = absurd (omega arith)
  rows_text-digit (suc zero) i j h l = first i j h l
  rows_text-digit (suc (suc b)) i j h l =
      ⊎_elim
      (λ g. earlier b (i * suc n + j) (omega (arith, mul-le-mul_right {m = i} {n = b} (suc n) g))
      ∙ rows_text-digit (suc b) i j (omega arith) l)
      (λ g.
      let e : i ≡ suc b = omega arith in
      let f : suc b * suc n + j ≡ b * suc n + n + suc j = omega arith in
      rw e (ap (λ p. get_or (rows_text n (suc (suc b)) m) p 0) f ∙ later b (suc j) ∙ row_at (suc b) j l))
      (le-or-lt i b)

pub size-bound : (n k : ℕ) → n ≤ 16 → k ≤ 16 → k * n ≤ 256
size-bound n k h g = omega (arith, mul-le-mul {n₁ = k} {m₁ = n} {n₂ = 16} {m₂ = 16} g h)

some-row : (n k p : ℕ) → p < k * n + (k - 1) → 1 ≤ k
some-row n zero p h = absurd (omega arith)
some-row n (suc k) p h = omega arith

-- a place in the text lies in row p / (n + 1), at column p % (n + 1); column n is the slash
module _ (n k : ℕ) (m : List ℕ) (p : ℕ) (inside : p < k * n + (k - 1)) where
  pub place-row : p / (n + 1) < k
  place-row =
      rw add-one
      (lt_of_mul-lt-mul_right (suc n) {m = p / suc n} {n = k} (omega (arith, div-add-mod' p (suc n))))

  pub place-slash : p % (n + 1) ≡ n → slash ≡ get_or (rows_text n k m) p 0
  place-slash e =
      let s : p / (n + 1) * (n + 1) + p % (n + 1) ≡ p = div-add-mod' p (n + 1) in
      let next : suc (p / (n + 1)) < k = lt_of_mul-lt-mul_right (suc n) {m = suc (p / (n + 1))} {n = k}
      (omega (arith, some-row n k p inside, suc-mul (p / (n + 1)) (suc n), mul-suc k n)) in
      let f : p / (n + 1) * suc n + n ≡ p = omega arith in
      sym (ap (λ x. get_or (rows_text n k m) x 0) (sym f) ∙ rows_text-slash n m k (p / (n + 1)) next)

  pub place-digit : p % (n + 1) < n → glyph (get_or m (p / (n + 1) * n + p % (n + 1)) 0) ≡ get_or (rows_text n k m) p 0
  place-digit l =
      let s : p / (n + 1) * (n + 1) + p % (n + 1) ≡ p = div-add-mod' p (n + 1) in
      let f : p / (n + 1) * suc n + p % (n + 1) ≡ p = omega arith in
      sym (ap (λ x. get_or (rows_text n k m) x 0) (sym f) ∙ rows_text-digit n m k (p / (n + 1)) (p % (n + 1)) place-row l)

  pub place-entry : p % (n + 1) < n → p / (n + 1) * n + p % (n + 1) < k * n
  place-entry l = omega (arith, row_fits (p / (n + 1)) k n place-row)

-- the text is told by the k * n entries alone
row-front : (n : ℕ) (m rest : List ℕ) (i : ℕ) → i * n + n ≤ length m → row_text n (m ++ rest) i ≡ row_text n m i
unfolding row_text
row-front n m rest i h = tabulate-same _ _ 0 n (λ j z l. ap glyph (get_or-append m rest 0 (i * n + j) (omega arith)))

pub rows_text-front : (n k : ℕ) (m rest : List ℕ) → k * n ≤ length m → rows_text n k (m ++ rest) ≡ rows_text n k m
unfolding rows_text
rows_text-front n zero m rest h = refl
rows_text-front n (suc zero) m rest h = row-front n m rest 0 (omega (arith, suc-mul 0 n))
rows_text-front n (suc (suc i)) m rest h =
    ap₂ (λ a b. a ++ (slash ∷ b)) (rows_text-front n (suc i) m rest (omega (arith, suc-mul (suc i) n, suc-mul i n)))
    (row-front n m rest (suc i) (omega (arith, suc-mul (suc i) n)))
