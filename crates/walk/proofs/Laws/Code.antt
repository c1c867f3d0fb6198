-- The code of a row, two bits a column; no part of the meaning.
--   code_bit f b     == bit b of the code of a row f: of a column's two bits the lower is set where the entry is 1, the upper where it is
--                      more
--   code-more       == a column more
--   first_bit, no-bit == the lowest bit of a number, and none
--   one-lowest, more-lowest, none-lowest == the lowest bit of a row's code, by its first nonzero entry
--   above n m i b   == bit b of the code of one of the first i rows
--   above-clear, clear_above == both bits of a column are clear exactly where these rows are 0 there
--   two-bits        == the two bits of a column, read together
-- Assumes nothing.
use Rattle.std.specs.Prelude.{◌≡◌, Bool, true, false, List, ◌⊎◌, eqb, ltb}
use Rattle.std.proofs.Math.Path.{refl, ap₂}
use Rattle.std.proofs.Common.{ap, ◌∙◌, sym, true≢false, inl, inr, add-zero, add-mul, mul_assoc, mul_left_comm, eq-or-lt_of_le, le_of_suc-le-suc, not-suc-le-zero, add-one, arith, shr-shr}
use Rattle.std.proofs.Math.Bool.{◌||◌}
use Rattle.std.proofs.Math.Logic.{⊎_elim}
use Prim.Native.Nat.{ℕ, zero, suc, ◌+◌, ◌*◌, ◌-◌, ◌^◌, ◌/◌, ◌%◌, ◌<◌, ◌≤◌}
use Rattle.std.proofs.Math.Nat.{pow-succ'}
use borrow.Author.Tests.{eq-eqb, ne_eqb, lt-ltb, le-ltb, eqb-false, ltb-false}
use Rattle.std.specs.Int.Count.{count_trailing_zeros, trailing_of_zero}
use Rattle.basics.specs.Choice.{pick}
use Rattle.basics.specs.Sum.{sum, bit}
use Rattle.basics.specs.Laws.Order.{trichotomy}
use Rattle.matrix.specs.Matrix.{entry, lead}
use Rattle.matrix.specs.Laws.BitSum.{bits, bits-front, bits-split, bits_at, bits_none}
use Rattle.matrix.specs.Laws.Lead.{lead-before}
use Rattle.matrix.proofs.Laws.Pivots.{trailing-of}
use Rattle.walk.specs.Walk.{digit}

unfoldable pub code_bit : (ℕ → ℕ) → ℕ → Bool
code_bit f b = pick (eqb (b % 2) 0) (eqb (f (b / 2)) 1) (ltb 1 (f (b / 2)))

lower : (f : ℕ → ℕ) (j : ℕ) → code_bit f (2 * j) ≡ eqb (f j) 1
unfolding code_bit
lower f j =
    let even : 2 * j % 2 ≡ 0 = omega arith in
    let half : 2 * j / 2 ≡ j = omega arith in rw (eq-eqb (2 * j % 2) 0 even, half)

upper : (f : ℕ → ℕ) (j : ℕ) → code_bit f (suc (2 * j)) ≡ ltb 1 (f j)
unfolding code_bit
upper f j =
    let odd : suc (2 * j) % 2 ≡ 1 = omega arith in
    let half : suc (2 * j) / 2 ≡ j = omega arith in rw (ne_eqb (suc (2 * j) % 2) 0 (λ z. absurd (omega (arith, odd, z))), half)

digit-bits : (x : ℕ) → digit x ≡ bit (eqb x 1) + 2 * bit (ltb 1 x)
digit-bits x = cases (trichotomy x 1)
  where
    cases : (x < 1) ⊎ ((x ≡ 1) ⊎ (1 < x)) → digit x ≡ bit (eqb x 1) + 2 * bit (ltb 1 x)
    cases (inl l) = rw (lt-ltb x 2 (omega arith), ne_eqb x 1 (λ e. absurd (omega arith)), le-ltb 1 x (omega arith)) (omega arith)
    cases (inr (inl e)) = rw (lt-ltb x 2 (omega arith), eq-eqb x 1 e, le-ltb 1 x (omega arith)) (omega arith)
    cases (inr (inr l)) = rw (le-ltb x 2 (omega arith), ne_eqb x 1 (λ e. absurd (omega arith)), lt-ltb 1 x l) (omega arith)

pub code-more : (f : ℕ → ℕ) (j : ℕ) → bits (2 * j) (code_bit f) + digit (f j) * 2 ^ (2 * j) ≡ bits (2 * suc j) (code_bit f)
unfolding sum
code-more f j =
    let y = 2 * j in
    let p = 2 ^ y in
    let one = bit (eqb (f j) 1) in
    let more = bit (ltb 1 (f j)) in
    let both : digit (f j) * p ≡ one * p + 2 * (more * p) =
    ap (λ d. d * p) (digit-bits (f j)) ∙ add-mul one (2 * more) p ∙ ap (λ z. one * p + z) (mul_assoc 2 more p) in
    let high : more * 2 ^ suc y ≡ 2 * (more * p) = ap (λ z. more * z) (pow-succ' 2 y) ∙ mul_left_comm more 2 p in
    let size : suc (suc y) ≡ 2 * suc j = omega arith in
    let whole : bits y (code_bit f) + digit (f j) * p ≡ bits y (code_bit f) + one * p + more * 2 ^ suc y = omega (arith, both, high) in
    whole
    ∙ ap₂ (λ a b. bits y (code_bit f) + bit a * p + bit b * 2 ^ suc y) (sym (lower f j)) (sym (upper f j))
    ∙ ap (λ s. bits s (code_bit f)) size

module _ (b : ℕ → Bool) (width n : ℕ) (narrow : n ≤ width) where
  pub first_bit : (e : ℕ) → e < n → ((j : ℕ) → j < e → b j ≡ false) → b e ≡ true → count_trailing_zeros width (bits n b) ≡ e
  first_bit e h before set =
      let r = n - suc e in
      let c : ℕ → Bool = λ i. b (e + i) in
      let first : c 0 ≡ true = ap b (add-zero e) ∙ set in
      let low : bits e b ≡ 0 = bits_none e b before in
      let size : e + suc r ≡ n = omega arith in
      let odd : bits (suc r) c ≡ 1 + 2 * bits r (λ i. c (suc i)) = bits-front r c ∙ ap (λ t. bit t + 2 * bits r (λ i. c (suc i))) first in
      ap (λ s. count_trailing_zeros width (bits s b)) (sym size)
      ∙ ap (count_trailing_zeros width)
      (bits-split e (suc r) b ∙ ap₂ (λ x y. x * 2 ^ e + y) odd low ∙ add-zero ((1 + 2 * bits r (λ i. c (suc i))) * 2 ^ e))
      ∙ trailing-of width e (bits r (λ i. c (suc i))) (omega arith)

  pub no-bit : ((j : ℕ) → j < n → b j ≡ false) → count_trailing_zeros width (bits n b) ≡ width
  no-bit clear = ap (count_trailing_zeros width) (bits_none n b clear) ∙ trailing_of_zero width

-- both bits of a column that is 0 are clear
zero_bits : (f : ℕ → ℕ) (b : ℕ) → f (b / 2) ≡ 0 → code_bit f b ≡ false
unfolding code_bit
zero_bits f b e =
    rw (ne_eqb (f (b / 2)) 1 (λ o. absurd (omega (arith, e, o))), le-ltb 1 (f (b / 2)) (omega (arith, e))) (either (eqb (b % 2) 0))
  where
    either : (t : Bool) → pick t false false ≡ false
    either true = refl
    either false = refl

module _ (f : ℕ → ℕ) (width n : ℕ) (narrow : 2 * n ≤ width) where
  before : (b : ℕ) → b / 2 < lead f n → code_bit f b ≡ false
  before b h = zero_bits f b (lead-before f n (b / 2) h)

  pub one-lowest : lead f n < n → f (lead f n) ≡ 1 → count_trailing_zeros width (bits (2 * n) (code_bit f)) ≡ 2 * lead f n
  one-lowest h e =
      first_bit (code_bit f) width (2 * n) narrow (2 * lead f n) (omega arith) (λ j l. before j (omega arith))
      (lower f (lead f n) ∙ eq-eqb (f (lead f n)) 1 e)

  pub more-lowest : lead f n < n → 1 < f (lead f n) → count_trailing_zeros width (bits (2 * n) (code_bit f)) ≡ suc (2 * lead f n)
  more-lowest h g =
      first_bit (code_bit f) width (2 * n) narrow (suc (2 * lead f n)) (omega arith) earlier
      (upper f (lead f n) ∙ lt-ltb 1 (f (lead f n)) g)
    where
      earlier : (j : ℕ) → j < suc (2 * lead f n) → code_bit f j ≡ false
      earlier j l =
          ⊎_elim
          (λ (s : j ≡ 2 * lead f n). ap (code_bit f) s ∙ lower f (lead f n) ∙ ne_eqb (f (lead f n)) 1 (λ e. absurd (omega arith)))
          (λ s. before j (omega arith))
          (eq-or-lt_of_le (le_of_suc-le-suc l))

  pub none-lowest : n ≤ lead f n → count_trailing_zeros width (bits (2 * n) (code_bit f)) ≡ width
  none-lowest h = no-bit (code_bit f) width (2 * n) narrow (λ b l. before b (omega arith))

unfoldable pub above : ℕ → List ℕ → ℕ → ℕ → Bool
above n m zero b = false
above n m (suc i) b = above n m i b || code_bit (entry n m i) b

or-false : (a b : Bool) → a || b ≡ false → (a ≡ false) × (b ≡ false)
or-false true b e = absurd (true≢false e)
or-false false b e = (refl, e)

module _ (n : ℕ) (m : List ℕ) (j : ℕ) where
  pub above-clear : (i : ℕ) → above n m i (2 * j) ≡ false → above n m i (suc (2 * j)) ≡ false → (a : ℕ) → a < i → entry n m a j ≡ 0
  unfolding above
  above-clear zero e o a h = absurd (not-suc-le-zero h)
  above-clear (suc i) e o a h =
      let (rows, low) = or-false (above n m i (2 * j)) (code_bit (entry n m i) (2 * j)) e in
      let (others, high) = or-false (above n m i (suc (2 * j))) (code_bit (entry n m i) (suc (2 * j))) o in
      let x = entry n m i j in
      let not-one = eqb-false x 1 (sym (lower (entry n m i) j) ∙ low) in
      let not_more = ltb-false 1 x (sym (upper (entry n m i) j) ∙ high) in
      ⊎_elim (λ s. rw s (omega (arith, not-one, not_more))) (above-clear i rows others a) (eq-or-lt_of_le (le_of_suc-le-suc h))

  pub clear_above : (i b : ℕ) → b / 2 ≡ j → ((a : ℕ) → a < i → entry n m a j ≡ 0) → above n m i b ≡ false
  unfolding above
  clear_above zero b e z = refl
  clear_above (suc i) b e z =
      ap₂ ◌||◌ (clear_above i b e (λ a h. z a (omega arith))) (zero_bits (entry n m i) b (ap (entry n m i) e ∙ z i (omega arith)))

pub two-bits : (n t : ℕ) (b : ℕ → Bool) → suc t < n → bits n b / 2 ^ t % 4 ≡ bit (b t) + 2 * bit (b (suc t))
two-bits n t b h =
    let v = bits n b / 2 ^ t in
    let low : v % 2 ≡ bit (b t) = bits_at n t b (omega arith) in
    let high : v / 2 % 2 ≡ bit (b (suc t)) =
    ap (λ x. x % 2) (shr-shr (bits n b) t 1 ∙ ap (λ e. bits n b / 2 ^ e) (add-one t)) ∙ bits_at n (suc t) b h in
    omega (arith, low, high)
