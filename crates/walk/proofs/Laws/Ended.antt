-- A row ended; no part of the meaning.
--   Extends n w z   == the clauses of `extends`, as statements; extends-of, extends-true == it holds exactly where they do
--   extends-unsound, -outside, -more, -left, -last == its tests in their order, each after those before it
--   bounded-none, -more, -same == the bound with a row of no entry, with a greater entry, and with none
--   ended-broken, ended-sound == what is known after the row, where it does not extend the rows above and where it does
--   Room n w        == the vector has room for the pivots from column `least` on; room-walked == it always has
-- Assumes nothing.
use Rattle.std.specs.Prelude.{◌≡◌, refl, Bool, true, false, List, ℕ, zero, suc, ◌+◌, ◌*◌, ◌-◌, ◌^◌, ◌/◌, ◌%◌, ◌<◌, ◌≤◌, max, eqb, ltb, leb}
use Rattle.std.proofs.Common.{ap, sym, ◌∙◌, le_refl, zero-add, arith, pow_mono}
use Rattle.std.proofs.Math.Nat.{sub-zero, max_comm, max-eq_left, pow-succ'}
use borrow.Author.Tests.{lt-ltb, le-ltb, le-leb, lt-leb, eq-eqb, ne_eqb}
use Rattle.std.specs.Int.Bits.{bit_or}
use Rattle.std.specs.Int.Count.{count_trailing_zeros}
use Rattle.std.proofs.Math.Dec.{eqb→eq, ltb→lt, leb→le}
use Rattle.basics.specs.Choice.{pick}
use Rattle.basics.specs.Laws.Choice.{holds, is_true}
use Rattle.basics.specs.Laws.Test.{and_left, and_right}
use Rattle.walk.specs.Walk.{row_read, extends, bounded, ended, walked}
use Rattle.walk.specs.declared.Row.{Row}
use Rattle.walk.specs.declared.Walk.{Walk}

pub record Extends (n : ℕ) (w : Walk) (z : ℕ) : Type 0 where
  pub sound : w.reduced ≡ true
  pub inside : z / 2 < n
  pub one : z % 2 ≡ 0
  pub right : w.least ≤ z / 2
  pub clear : w.code / 2 ^ z % 4 ≡ 0

module _ (n : ℕ) (w : Walk) (z : ℕ) where
  pub extends-unsound : w.reduced ≡ false → false ≡ extends n w z
  unfolding extends
  extends-unsound e = rw e

  module _ (sound : w.reduced ≡ true) where
    pub extends-outside : n ≤ z / 2 → false ≡ extends n w z
    unfolding extends
    extends-outside h = rw (sound, le-ltb (z / 2) n h)

    module _ (inside : z / 2 < n) where
      pub extends-more : (z % 2 ≡ 0 → ⊥) → false ≡ extends n w z
      unfolding extends
      extends-more h = rw (sound, lt-ltb (z / 2) n inside, ne_eqb (z % 2) 0 h)

      module _ (one : z % 2 ≡ 0) where
        pub extends-left : z / 2 < w.least → false ≡ extends n w z
        unfolding extends
        extends-left h = rw (sound, lt-ltb (z / 2) n inside, eq-eqb (z % 2) 0 one, lt-leb w.least (z / 2) h)

        pub extends-last : w.least ≤ z / 2 → eqb (w.code / 2 ^ z % 4) 0 ≡ extends n w z
        unfolding extends
        extends-last h = rw (sound, lt-ltb (z / 2) n inside, eq-eqb (z % 2) 0 one, le-leb w.least (z / 2) h)

  pub extends-of : extends n w z ≡ true → Extends n w z
  unfolding extends
  extends-of e =
      let t₁ = and_right w.reduced _ (holds _ e) in
      let t₂ = and_right (ltb (z / 2) n) _ t₁ in
      let t₃ = and_right (eqb (z % 2) 0) _ t₂ in
      record {
        sound = is_true w.reduced (and_left w.reduced _ (holds _ e));
        inside = ltb→lt (z / 2) n (and_left (ltb (z / 2) n) _ t₁);
        one = eqb→eq (z % 2) 0 (and_left (eqb (z % 2) 0) _ t₂);
        right = leb→le w.least (z / 2) (and_left (leb w.least (z / 2)) _ t₃);
        clear = eqb→eq (w.code / 2 ^ z % 4) 0 (and_right (leb w.least (z / 2)) _ t₃);
      }

  pub extends-true : Extends n w z → extends n w z ≡ true
  unfolding extends
  extends-true x =
      rw (
        x.sound,
        lt-ltb (z / 2) n x.inside,
        eq-eqb (z % 2) 0 x.one,
        le-leb w.least (z / 2) x.right,
        eq-eqb (w.code / 2 ^ z % 4) 0 x.clear,
      )

module _ (w : Walk) (r : Row) where
  pub bounded-none : r.column ≡ 0 → w.bound ≡ bounded w r
  bounded-none e = rw (le-ltb 0 r.column (omega arith))

  module _ (some : r.column ≡ 0 → ⊥) where
    joined : bounded w r ≡ max w.bound (suc r.greatest)
    joined = rw (lt-ltb 0 r.column (omega (arith, some)))

    pub bounded-more : w.bound ≤ r.greatest → suc r.greatest ≡ bounded w r
    bounded-more h = sym (joined ∙ max_comm w.bound (suc r.greatest) ∙ max-eq_left (omega arith))

    pub bounded-same : r.greatest < w.bound → w.bound ≡ bounded w r
    bounded-same h = sym (joined ∙ max-eq_left (omega arith))

module _ (width n : ℕ) (w : Walk) (r : Row) (z : ℕ) (lowest : z ≡ count_trailing_zeros width r.code) where
  pub ended-broken : extends n w z ≡ false → (b : ℕ) → b ≡ bounded w r
      → record { bound = b; code = bit_or w.code r.code; least = w.least; reduced = false; vector = 0 } ≡ ended width n w r
  unfolding ended
  ended-broken e b s = rw (← lowest, e, s)

  pub ended-sound : extends n w z ≡ true → (b v : ℕ) → b ≡ bounded w r → v ≡ w.vector + 2 ^ (n - 1 - z / 2)
      → record { bound = b; code = bit_or w.code r.code; least = suc (z / 2); reduced = true; vector = v } ≡ ended width n w r
  unfolding ended
  ended-sound e b v s t = rw (← lowest, e, s, t)

abbrev pub Room : ℕ → Walk → Type 0
Room n w = w.vector + 2 ^ (n - w.least) ≤ 2 ^ n

-- the next pivot's power, twice, is within the room
pub room_for : (n v least p : ℕ) → v + 2 ^ (n - least) ≤ 2 ^ n → p < n → least ≤ p → v + 2 * 2 ^ (n - 1 - p) ≤ 2 ^ n
room_for n v least p room inside right =
    let e : n - p ≡ suc (n - 1 - p) = omega arith in
    let halved : 2 ^ (n - p) ≡ 2 * 2 ^ (n - 1 - p) = ap (λ x. 2 ^ x) e ∙ pow-succ' 2 (n - 1 - p) in
    let less : 2 ^ (n - p) ≤ 2 ^ (n - least) = pow_mono (omega arith) in
    omega arith

room-ended : (n : ℕ) (w : Walk) (z : ℕ) (t : Bool) → extends n w z ≡ t → Room n w
    → pick t (w.vector + 2 ^ (n - 1 - z / 2)) 0 + 2 ^ (n - pick t (suc (z / 2)) w.least) ≤ 2 ^ n
room-ended n w z true e room =
    let x = extends-of n w z e in
    let p = z / 2 in
    let s : n - suc p ≡ n - 1 - p = omega arith in
    rw s (omega (arith, room_for n w.vector w.least p room x.inside x.right))
room-ended n w z false e room = let less : 2 ^ (n - w.least) ≤ 2 ^ n = pow_mono (omega arith) in omega arith

pub room-walked : (width n : ℕ) (m : List ℕ) (i : ℕ) → Room n (walked width n m i)
unfolding walked ended
room-walked width n m zero = simp (zero-add, sub-zero) (le_refl (2 ^ n))
room-walked width n m (suc i) =
    room-ended n (walked width n m i) (count_trailing_zeros width (row_read n m i n).code) _ refl (room-walked width n m i)
