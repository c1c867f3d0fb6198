-- The matrix of an identifying vector and a tableau, written column by column from the left: the contract of `ferrers::draw`, and its
-- steps; no part of the meaning.
--   Shaped q n k v tableau S == S is the shape of a reduced matrix with this identifying vector and this tableau
--   diagram-shaped           == so is the shape of a diagram and a tableau, with the diagram's identifying vector
--   Filling q n k S m c rows entries s == the first c columns of m are those of the matrix with the shape S, with `rows` pivots, and the
--                              others are 0; `entries` holds the tableau's digits but for those of s, the shape of the first c columns
--   Unranking q n k S m c rows entries == the same for S without its n - c last columns
--   unranking-start, -end    == nothing is written yet, and all is
--   write-asked, pivot-asked == the next column can be written
--   unranking-free, -pivot   == it is written, as a free one or as a pivot's
-- Assumes nothing.
use Rattle.std.proofs.Math.Path.{◌≡◌, ap, sym, subst}
use Rattle.std.specs.Prelude.{refl, true, false, List, ◌⊎◌, length, replicate}
use Rattle.std.proofs.Common.{ap₂, ◌∙◌, inl, inr, ⊎_elim, eq-or-lt_of_le, le_of_eq, le_of_suc-le-suc, div-one, mul_comm, add-one, eq-eqb, lt-ltb, le-ltb, pow-add}
use Prim.Native.Nat.{ℕ, suc, pred, ◌+◌, ◌*◌, ◌-◌, ◌^◌, ◌/◌, ◌%◌, ◌<◌, ◌≤◌}
use Rattle.std.proofs.Math.Nat.{pow-zero, div-div-eq-div-mul}
use native.Mathlib.Omega.{arith}
use Rattle.std.proofs.Math.Arith.{digits_div}
use Rattle.std.proofs.Math.Dec.{T, eqb}
use Rattle.basics.specs.Laws.Digits.{digits-joined, lower-digit}
use Rattle.basics.specs.Laws.Order.{le-or-lt}
use Rattle.field.specs.Field.{is_field_size}
use Rattle.field.specs.Laws.Small.{size_small}
use Rattle.settings.specs.Laws.Accepted.{Accepted}
use Rattle.matrix.specs.Laws.DrawColumns.{drawing-start}
use Rattle.matrix.specs.Laws.Flatten.{flatten-same, flatten-entries}
use Rattle.matrix.specs.Matrix.{entry}
use Rattle.matrix.specs.Shape.{Shape, empty, free, pivot, digit_at, cell, flatten}
use Rattle.matrix.specs.Laws.Shape.{Valid, valid-free, valid-pivot}
use Rattle.matrix.proofs.Laws.Vector.{vector}
use Rattle.matrix.specs.Laws.WriteColumn.{unit_at, Blank, Written}
use Rattle.ferrers.specs.Laws.DiagramShape.{diagram-valid}
use Rattle.ferrers.specs.Laws.VectorAt.{diagram_vector, diagram-vector}
use Rattle.ferrers.specs.Laws.Inner.{rest, inner, pivots, valid-pivots, valid-none, Inner, inner-at}
use Rattle.partitions.specs.Partitions.{box_count}
use Rattle.ferrers.specs.Drawn.{diagram_shape}
use Rattle.ferrers.specs.Laws.ShapeRank.{shape_size, shape_tableau}
use Rattle.ferrers.specs.Laws.ShapeBounds.{tableau-below}

pub record Shaped (q n k v tableau : ℕ) (S : Shape) : Type 0 where
  pub valid : Valid q k n S
  pub vector-is : vector S ≡ v
  pub tableau-is : shape_tableau q S k ≡ tableau

pub record Filling (q n k : ℕ) (S : Shape) (m : List ℕ) (c rows entries : ℕ) (s : Shape) : Type 0 where
  pub sized : length m ≡ k * n
  pub done : (i j : ℕ) → i < k → j < c → entry n m i j ≡ cell q S k n i j
  pub blank : (i j : ℕ) → i < k → c ≤ j → j < n → entry n m i j ≡ 0
  pub rows_are : rows ≡ pivots s
  pub entries-are : entries ≡ shape_tableau q S k / q ^ shape_size s rows

pub diagram-shaped : (q n k m d x v : ℕ) → 0 < q → d < box_count n k m → x < q ^ m → v ≡ diagram_vector n k m d
    → Shaped q n k v x (diagram_shape q n k m d x)
diagram-shaped q n k m d x v h b l e =
    let told = diagram-valid q n k m d x h b l in
    record { valid = told.valid; vector-is = diagram-vector q n k m d x ∙ sym e; tableau-is = told.tableau }

abbrev pub Unranking : ℕ → ℕ → ℕ → Shape → List ℕ → ℕ → ℕ → ℕ → Type 0
Unranking q n k S m c rows entries = Filling q n k S m c rows entries (inner (n - c) S)

-- digits in front leave the last ones as they are
last_digits : (q higher x rows i : ℕ) → 0 < q → digit_at q rows (higher * q ^ rows + x) i ≡ digit_at q rows x i
last_digits q higher x rows i h = cases (le-or-lt rows i)
  where
    cases : (rows ≤ i) ⊎ (i < rows) → digit_at q rows (higher * q ^ rows + x) i ≡ digit_at q rows x i
    cases (inl l) = rw (le-ltb i rows l)
    cases (inr l) =
        let e : ℕ = pred rows - i in
        let split : rows ≡ suc i + e = omega arith in
        rw (lt-ltb i rows l) (ap (λ j. (higher * q ^ j + x) / q ^ e % q) split ∙ lower-digit q higher x i e h)

pub unranking-start : {q n k v tableau : ℕ} {S : Shape} (m : List ℕ) → m ≡ replicate (k * n) 0 → Shaped q n k v tableau S
    → Unranking q n k S m 0 0 tableau
unfolding pivots shape_size
unranking-start {q} {n} {k} {tableau} {S} m e a =
    let d = drawing-start q n k S m e in
    let none : inner (n - 0) S ≡ empty = valid-none (inner-at a.valid (n - 0) 0 (omega arith)).valid in
    subst (Filling q n k S m 0 0 tableau) (sym none)
    (record {
      sized = d.sized;
      done = λ i j h l. absurd (omega arith);
      blank = λ i j h g l. d.blank i j h l;
      rows_are = refl;
      entries-are = sym a.tableau-is ∙ rw (pow-zero, div-one);
    })

pub unranking-end : {q n k c rows entries : ℕ} {S : Shape} {m : List ℕ} → n ≤ c → Unranking q n k S m c rows entries
    → m ≡ flatten k n (cell q S k n)
unranking-end {q} {n} {k} {S} {m} h f =
    sym (flatten-entries k n m f.sized) ∙ flatten-same k n (entry n m) (cell q S k n) (λ i j hi hj. f.done i j hi (omega arith))

module _ {q n k c rows entries : ℕ} {S : Shape} {m m' : List ℕ} (inside : c < n) where
  -- a column is written that is the shape's
  done_next : {s : Shape} {f : ℕ → ℕ} → Filling q n k S m c rows entries s → Written n k c f m m' → ((i : ℕ) → cell q S k n i c ≡ f i)
      → (i j : ℕ) → i < k → j < suc c → entry n m' i j ≡ cell q S k n i j
  done_next d w here i j hi hj =
      ⊎_elim
      (λ (e : j ≡ c). ap (entry n m' i) e ∙ w.column i hi ∙ sym (here i) ∙ ap (cell q S k n i) (sym e))
      (λ (g : j < c). w.others i j hi (omega arith) (λ e. absurd (omega arith)) ∙ d.done i j hi g)
      (eq-or-lt_of_le (le_of_suc-le-suc hj))

  blank-next : {s : Shape} {f : ℕ → ℕ} → Filling q n k S m c rows entries s → Written n k c f m m'
      → (i j : ℕ) → i < k → suc c ≤ j → j < n → entry n m' i j ≡ 0
  blank-next d w i j hi hj l = w.others i j hi l (λ e. absurd (omega arith)) ∙ d.blank i j hi (omega arith) l

  filling-free : {x : ℕ} {s : Shape} → 0 < q → Inner q n k S (suc c) rows (free x s) → Valid q rows c s → Filling q n k S m c rows entries s
      → Written n k c (digit_at q rows entries) m m' → Filling q n k S m' (suc c) rows (entries / q ^ rows) (free x s)
  unfolding cell pivots shape_size shape_tableau
  filling-free {x} {s} h a v d w =
      let T = shape_tableau q S k in
      let z = shape_size s rows in
      let Q = q ^ z in
      let t = shape_tableau q s rows in
      let all : T ≡ (a.higher * q ^ rows + x) * Q + t = a.tableau ∙ digits-joined q a.higher rows x z t in
      let now : entries ≡ a.higher * q ^ rows + x =
      d.entries-are ∙ ap (λ y. y / Q) all ∙ digits_div (a.higher * q ^ rows + x) (tableau-below v) in
      let last : (i : ℕ) → cell q (free x s) rows (suc c) i c ≡ digit_at q rows x i = λ i. rw (eq-eqb c c refl) in
      record {
        sized = w.sized ∙ d.sized;
        done =
            done_next d w
            (λ i. a.cells i c (omega arith) ∙ last i ∙ sym (ap (λ y. digit_at q rows y i) now ∙ last_digits q a.higher x rows i h));
        blank = blank-next d w;
        rows_are = d.rows_are;
        entries-are =
            ap (λ y. y / q ^ rows) d.entries-are
            ∙ div-div-eq-div-mul T Q (q ^ rows)
            ∙ ap (λ p. T / p) (mul_comm Q (q ^ rows) ∙ sym (pow-add q rows z));
      }

  filling-pivot : {s : Shape} → Inner q n k S (suc c) (suc rows) (pivot s) → Filling q n k S m c rows entries s
      → Written n k c (unit_at rows) m m' → Filling q n k S m' (suc c) (suc rows) entries (pivot s)
  unfolding cell pivots shape_size
  filling-pivot {s} a d w =
      let last : (i : ℕ) → cell q (pivot s) (suc rows) (suc c) i c ≡ unit_at rows i = λ i. rw (eq-eqb c c refl) in
      record {
        sized = w.sized ∙ d.sized;
        done = done_next d w (λ i. a.cells i c (omega arith) ∙ last i);
        blank = blank-next d w;
        rows_are = ap suc d.rows_are;
        entries-are = d.entries-are;
      }

-- the vector's bit tells whether the column is free
module _ {q n k c r : ℕ} {S : Shape} where
  bit-free : {x : ℕ} {s : Shape} → Inner q n k S (suc c) r (free x s) → eqb (vector S / 2 ^ (n - suc c) % 2) 1 ≡ false
  unfolding vector
  bit-free {s} a = let even : 2 * vector s % 2 ≡ 0 = omega arith in ap (λ y. eqb (y % 2) 1) a.bits ∙ ap (λ y. eqb y 1) even

  bit-pivot : {s : Shape} → Inner q n k S (suc c) r (pivot s) → eqb (vector S / 2 ^ (n - suc c) % 2) 1 ≡ true
  unfolding vector
  bit-pivot {s} a = let odd : (1 + 2 * vector s) % 2 ≡ 1 = omega arith in ap (λ y. eqb (y % 2) 1) a.bits ∙ ap (λ y. eqb y 1) odd

module _ {q n k rows entries : ℕ} {S : Shape} {m : List ℕ} where
  free-next : {c r : ℕ} {t : Shape} {m' : List ℕ} → c < n → 0 < q → Valid q r (suc c) t → Inner q n k S (suc c) r t
      → eqb (vector S / 2 ^ (n - suc c) % 2) 1 ≡ false
      → Filling q n k S m c rows entries (rest t) → Written n k c (digit_at q rows entries) m m'
      → Filling q n k S m' (suc c) rows (entries / q ^ rows) t
  unfolding rest
  free-next {c} {r} inside h (valid-free {x} {s} b v) a e d w =
      let same : r ≡ rows = valid-pivots v ∙ sym d.rows_are in
      filling-free inside h (subst (λ y. Inner q n k S (suc c) y (free x s)) same a) (subst (λ y. Valid q y c s) same v) d w
  free-next inside h (valid-pivot v) a e d w = let z : ◌≡◌ {A = ℕ} 0 1 = cc (bit-pivot a, e) in absurd (omega arith)

  pivot-next : {c r : ℕ} {t : Shape} {m' : List ℕ} → c < n → Valid q r (suc c) t → Inner q n k S (suc c) r t
      → eqb (vector S / 2 ^ (n - suc c) % 2) 1 ≡ true
      → Filling q n k S m c rows entries (rest t) → Written n k c (unit_at rows) m m'
      → Filling q n k S m' (suc c) (suc rows) entries t
  unfolding rest
  pivot-next inside (valid-free b v) a e d w = let z : ◌≡◌ {A = ℕ} 0 1 = cc (bit-free a, e) in absurd (omega arith)
  pivot-next {c} inside (valid-pivot {k = j} {s} v) a e d w =
      let same : j ≡ rows = valid-pivots v ∙ sym d.rows_are in
      filling-pivot inside (subst (λ y. Inner q n k S (suc c) (suc y) (pivot s)) same a) d w

  pivot-row : {c r : ℕ} {t : Shape} → Valid q r (suc c) t → Inner q n k S (suc c) r t → eqb (vector S / 2 ^ (n - suc c) % 2) 1 ≡ true
      → Filling q n k S m c rows entries (rest t) → rows < k
  unfolding rest
  pivot-row (valid-free b v) a e d = let z : ◌≡◌ {A = ℕ} 0 1 = cc (bit-free a, e) in absurd (omega arith)
  pivot-row (valid-pivot v) a e d = omega (arith, valid-pivots v, d.rows_are, a.few)

-- the column c is next
module _ {q n k v tableau c rows entries : ℕ} {S : Shape} {m : List ℕ} (shaped : Shaped q n k v tableau S) (inside : c < n)
    (u : Unranking q n k S m c rows entries) where
  at : Inner q n k S (suc c) (pivots (inner (n - suc c) S)) (inner (n - suc c) S)
  at = inner-at shaped.valid (n - suc c) (suc c) (omega arith)

  here : Filling q n k S m c rows entries (rest (inner (n - suc c) S))
  unfolding inner
  here = let e : n - c ≡ suc (n - suc c) = omega arith in subst (λ j. Filling q n k S m c rows entries (inner j S)) e u

  rows_few : rows ≤ k
  rows_few = omega (arith, u.rows_are, (inner-at shaped.valid (n - c) c (omega arith)).few)

  pub write-asked : Accepted q n k → T (is_field_size q) × (c < n) × (rows ≤ k) × (k * n ≤ length m) × Blank n k c rows m
  write-asked a = (a.size, inside, rows_few, le_of_eq (sym u.sized), λ i h l. u.blank i c l (omega arith) inside)

  pub unranking-free : (rest' : ℕ) (m' : List ℕ) → Accepted q n k → eqb (v / 2 ^ (n - 1 - c) % 2) 1 ≡ false
      → Written n k c (digit_at q rows entries) m m' → rest' ≡ entries / q ^ rows → Unranking q n k S m' (c + 1) rows rest'
  unranking-free rest' m' a b w e =
      let (big, small) = size_small q a.size in
      let j : n - suc c ≡ n - 1 - c = omega arith in
      let bit : eqb (vector S / 2 ^ (n - suc c) % 2) 1 ≡ false = ap₂ (λ x y. eqb (x / 2 ^ y % 2) 1) shaped.vector-is j ∙ b in
      rw (add-one, e) (free-next inside (omega arith) at.valid at bit here w)

  module _ (b : eqb (v / 2 ^ (n - 1 - c) % 2) 1 ≡ true) where
    set-bit : eqb (vector S / 2 ^ (n - suc c) % 2) 1 ≡ true
    set-bit = let j : n - suc c ≡ n - 1 - c = omega arith in ap₂ (λ x y. eqb (x / 2 ^ y % 2) 1) shaped.vector-is j ∙ b

    pub pivot-asked : (c < n) × (rows < k) × (k * n ≤ length m) × Blank n k c 0 m
    pivot-asked =
        (inside, pivot-row at.valid at set-bit here, le_of_eq (sym u.sized), λ i h l. u.blank i c l (omega arith) inside)

    pub unranking-pivot : (m' : List ℕ) → Written n k c (unit_at rows) m m' → Unranking q n k S m' (c + 1) (rows + 1) entries
    unranking-pivot m' w = rw (add-one c, add-one rows) (pivot-next inside at.valid at set-bit here w)
