-- A row read entry by entry; no part of the meaning.
--   entered_by     == an entry taken in, field by field
--   shifted-digit, digit-fits == an entry's two bits have room in a code of 32
--   Read n m i j r == r is what is known of row i after its first j entries; row_read_lem == it is
--   read-room      == and its code has room for column j
-- Assumes nothing.
use Rattle.std.specs.Prelude.{◌≡◌, refl, List, ℕ, zero, suc, ◌+◌, ◌*◌, ◌^◌, ◌%◌, ◌<◌, ◌≤◌, max}
use Rattle.std.proofs.Common.{ap, ap₂, ◌∙◌, sym, subst, ⊎_elim, mul-le-mul_right, arith, lt-ltb, le-ltb, pow-add, pow_mono, shl_exact}
use Rattle.std.proofs.Math.Nat.{zero-max, suc-max-suc}
use Rattle.basics.specs.Sum.{sum}
use Rattle.basics.specs.Laws.Order.{le-or-lt}
use Rattle.matrix.specs.Matrix.{entry}
use Rattle.matrix.specs.Laws.BitSum.{bits, bits_below}
use Rattle.walk.specs.Walk.{digit, entered, row_read}
use Rattle.walk.specs.Laws.Bound.{Bounds, bounds-none, bounds-more}
use Rattle.walk.proofs.Laws.Code.{code_bit, code-more}
use Rattle.walk.specs.declared.Row.{Row}

pub entered_by : (r : Row) (x : ℕ) {c g d : ℕ} → c ≡ suc r.column → g ≡ max r.greatest x
    → d ≡ r.code + digit x * 2 ^ (2 * r.column) → record { column = c; greatest = g; code = d } ≡ entered r x
unfolding entered
entered_by r x e₁ e₂ e₃ = rw (e₁, e₂, e₃)

-- an entry's two bits, shifted to its column, fit the 32 bits of a code
module _ (x c : ℕ) (h : c < 16) where
  digit-small : digit x ≤ 2
  digit-small = ⊎_elim (λ l. rw (le-ltb x 2 l) (omega arith)) (λ l. rw (lt-ltb x 2 l) (omega arith)) (le-or-lt 2 x)

  pub shifted-digit : digit x * 2 ^ (2 * c) % 4294967296 ≡ digit x * 2 ^ (2 * c)
  shifted-digit = shl_exact {a = digit x} 2 (2 * c) 32 (omega (arith, digit-small)) (omega arith)

  pub digit-fits : (code : ℕ) → code < 2 ^ (2 * c) → code + digit x * 2 ^ (2 * c) < 2 ^ 32
  digit-fits code room =
      let p = 2 ^ (2 * c) in
      let twice : digit x * p ≤ 2 * p = mul-le-mul_right p digit-small in
      let four : 2 ^ (2 + 2 * c) ≡ 4 * p = pow-add 2 2 (2 * c) in
      let wide : 2 ^ (2 + 2 * c) ≤ 2 ^ 32 = pow_mono {i = 2 + 2 * c} {j = 32} (omega arith) in
      omega arith

pub record Read (n : ℕ) (m : List ℕ) (i j : ℕ) (r : Row) : Type 0 where
  pub here : r.column ≡ j
  pub first : j ≡ 0 → r.greatest ≡ 0
  pub bounded : 0 < j → Bounds (entry n m i) j (suc r.greatest)
  pub coded : r.code ≡ bits (2 * j) (code_bit (entry n m i))

read_none : (n : ℕ) (m : List ℕ) (i : ℕ) → Read n m i 0 (row_read n m i 0)
unfolding row_read sum
read_none n m i = record { here = refl; first = λ _. refl; bounded = λ h. absurd (omega arith); coded = refl }

next-bound : (f : ℕ → ℕ) (j g : ℕ) → (j ≡ 0 → g ≡ 0) → (0 < j → Bounds f j (suc g)) → Bounds f (suc j) (suc (max g (f j)))
next-bound f zero g none h =
    let e : max 0 (suc (f 0)) ≡ suc (max g (f 0)) =
    zero-max (suc (f 0)) ∙ ap suc (sym (ap (λ y. max y (f 0)) (none refl) ∙ zero-max (f 0))) in
    subst (Bounds f 1) e (bounds-more f 0 0 (bounds-none f))
next-bound f (suc j) g none h =
    subst (Bounds f (suc (suc j))) (suc-max-suc g (f (suc j))) (bounds-more f (suc j) (suc g) (h (omega arith)))

read_more : {n i j : ℕ} {m : List ℕ} {r : Row} → Read n m i j r → Read n m i (suc j) (entered r (entry n m i j))
unfolding entered
read_more {n} {i} {j} {m} {r} d =
    let x = entry n m i j in
    record {
      here = ap suc d.here;
      first = λ e. absurd (omega arith);
      bounded = λ _. next-bound (entry n m i) j r.greatest d.first d.bounded;
      coded =
          ap₂ (λ a c. a + digit x * 2 ^ (2 * c)) d.coded d.here ∙ code-more (entry n m i) j;
    }

pub row_read_lem : (n : ℕ) (m : List ℕ) (i j : ℕ) → Read n m i j (row_read n m i j)
unfolding row_read
row_read_lem n m i zero = read_none n m i
row_read_lem n m i (suc j) = read_more (row_read_lem n m i j)

pub read-room : {n i j : ℕ} {m : List ℕ} {r : Row} → Read n m i j r → {width : ℕ} → j < width
    → (r.column < width) × (r.code < 2 ^ (2 * r.column))
read-room {n} {i} {j} {m} d h = rw (d.here, d.coded) (h, bits_below (2 * j) (code_bit (entry n m i)))
