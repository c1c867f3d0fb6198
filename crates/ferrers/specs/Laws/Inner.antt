-- The first columns of a shape, which has its last column in front; no part of the meaning.
--   rest s           == the shape s without its last column
--   inner j s        == the shape s without its j last columns
--   pivots s         == the number of its pivots, and so of its rows
--   Inner q n k S c rows s == the first c columns of the matrix with the shape S, of k rows and n columns, are those of the shape s, of
--                       `rows` rows; the identifying vector of s is that of S without the lowest n - c bits, and its tableau has the last
--                       digits of that of S
--   inner-at         == so it is with S without its n - c last columns
--   valid-none       == of no columns there is the empty shape alone
-- Assumes nothing.
use Rattle.std.specs.Prelude.{◌≡◌, refl, ℕ, zero, suc, ◌+◌, ◌*◌, ◌-◌, ◌^◌, ◌/◌, ◌<◌, ◌≤◌}
use Rattle.std.proofs.Common.{ap, ◌∙◌, sym, subst, le_refl, pow-suc, div-one, arith, ne_eqb}
use Rattle.std.proofs.Math.Nat.{sub_self, pow-zero, div-div-eq-div-mul}
use Rattle.basics.specs.Laws.Digits.{digits-joined}
use Rattle.matrix.specs.Shape.{Shape, empty, free, pivot, cell}
use Rattle.matrix.specs.Laws.Shape.{Valid, valid-empty, valid-free, valid-pivot}
use Rattle.matrix.proofs.Laws.Vector.{vector}
use Rattle.ferrers.specs.Laws.ShapeRank.{shape_size, shape_tableau}

unfoldable pub rest : Shape → Shape
rest empty = empty
rest (free x s) = s
rest (pivot s) = s

unfoldable pub inner : ℕ → Shape → Shape
inner zero s = s
inner (suc j) s = rest (inner j s)

unfoldable pub pivots : Shape → ℕ
pivots empty = 0
pivots (free x s) = pivots s
pivots (pivot s) = suc (pivots s)

pub valid-pivots : {q k n : ℕ} {s : Shape} → Valid q k n s → k ≡ pivots s
unfolding pivots
valid-pivots valid-empty = refl
valid-pivots (valid-free b v) = valid-pivots v
valid-pivots (valid-pivot v) = ap suc (valid-pivots v)

pub valid-none : {q k : ℕ} {s : Shape} → Valid q k 0 s → s ≡ empty
valid-none valid-empty = refl

pub record Inner (q n k : ℕ) (S : Shape) (c rows : ℕ) (s : Shape) : Type 0 where
  pub few : rows ≤ k
  pub valid : Valid q rows c s
  pub bits : vector S / 2 ^ (n - c) ≡ vector s
  pub cells : (i j : ℕ) → j < c → cell q S k n i j ≡ cell q s rows c i j
  pub higher : ℕ
  pub tableau : shape_tableau q S k ≡ higher * q ^ shape_size s rows + shape_tableau q s rows

inner_start : {q n k : ℕ} {S : Shape} → Valid q k n S → Inner q n k S n k S
inner_start {n} {k} {S} v =
    record {
      few = le_refl k;
      valid = v;
      bits = ap (λ e. vector S / 2 ^ e) (sub_self n) ∙ rw (pow-zero, div-one);
      cells = λ i j h. refl;
      higher = 0;
      tableau = omega arith;
    }

-- half of the vector is left without the last column
half : (n c v w : ℕ) → suc c ≤ n → v / 2 ^ (n - suc c) ≡ w → v / 2 ^ (n - c) ≡ w / 2
half n c v w h e =
    let j : n - c ≡ suc (n - suc c) = omega arith in
    ap (λ i. v / 2 ^ i) j
    ∙ ap (λ p. v / p) (pow-suc 2 (n - suc c))
    ∙ sym (div-div-eq-div-mul v (2 ^ (n - suc c)) 2)
    ∙ ap (λ y. y / 2) e

inner-free : {q n k c rows x : ℕ} {S s : Shape} → suc c ≤ n → Valid q rows c s → Inner q n k S (suc c) rows (free x s)
    → Inner q n k S c rows s
unfolding vector cell shape_size shape_tableau
inner-free {q} {n} {k} {c} {rows} {x} {S} {s} h v a =
    let two : 2 * vector s / 2 ≡ vector s = omega arith in
    record {
      few = a.few;
      valid = v;
      bits = half n c (vector S) (2 * vector s) h a.bits ∙ two;
      cells = λ i j l. a.cells i j (omega arith) ∙ rw (ne_eqb j c (omega arith));
      higher = a.higher * q ^ rows + x;
      tableau = a.tableau ∙ digits-joined q a.higher rows x (shape_size s rows) (shape_tableau q s rows);
    }

inner-pivot : {q n k c rows : ℕ} {S s : Shape} → suc c ≤ n → Valid q rows c s → Inner q n k S (suc c) (suc rows) (pivot s)
    → Inner q n k S c rows s
unfolding vector cell shape_size shape_tableau
inner-pivot {q} {n} {k} {c} {rows} {S} {s} h v a =
    let two : (1 + 2 * vector s) / 2 ≡ vector s = omega arith in
    record {
      few = omega (arith, a.few);
      valid = v;
      bits = half n c (vector S) (1 + 2 * vector s) h a.bits ∙ two;
      cells = λ i j l. a.cells i j (omega arith) ∙ rw (ne_eqb j c (omega arith));
      higher = a.higher;
      tableau = a.tableau;
    }

inner-rest : {q n k c rows : ℕ} {S s : Shape} → suc c ≤ n → Valid q rows (suc c) s → Inner q n k S (suc c) rows s
    → Inner q n k S c (pivots (rest s)) (rest s)
unfolding rest
inner-rest {q} {n} {k} {c} {S} h (valid-free {s} b v) a = subst (λ r. Inner q n k S c r s) (valid-pivots v) (inner-free h v a)
inner-rest {q} {n} {k} {c} {S} h (valid-pivot {s} v) a = subst (λ r. Inner q n k S c r s) (valid-pivots v) (inner-pivot h v a)

pub inner-at : {q n k : ℕ} {S : Shape} → Valid q k n S → (j c : ℕ) → j + c ≡ n → Inner q n k S c (pivots (inner j S)) (inner j S)
unfolding inner
inner-at {q} {n} {k} {S} v zero c e =
    let all : n ≡ c = omega arith in
    subst (λ i. Inner q n k S i (pivots S) S) all (subst (λ r. Inner q n k S n r S) (valid-pivots v) (inner_start v))
inner-at v (suc j) c e =
    let a = inner-at v j (suc c) (omega arith) in
    inner-rest (omega arith) a.valid a
