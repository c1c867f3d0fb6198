-- The tests of Matrix decide what they should; no part of the meaning.
--   below_to, below-start, below_more == the test of the first places, one place after the other, by the greatest entry
--   below_none      == no entry is below 0
--   entries_below_lem, entries-below-true == every entry is below q exactly where the test holds
--   below_one, zeros-below == so the entries below 1 are zeros
--   Clauses         == document 01's four clauses for row i with its pivot in column p
--   clauses-of, clauses-true == a row's test holds exactly where they do
--   reduced-exactly == a matrix of the right length with its entries below q is Reduced exactly where is_reduced holds
-- Assumes nothing.
use Rattle.std.specs.Prelude.{◌≡◌, refl, Bool, true, false, ◌&&◌, ◌||◌, List, ◌↔◌, ◌⊎◌, ℕ, suc, ◌*◌, ◌<◌, ◌≤◌, T, length, get_or, replicate}
use Rattle.std.proofs.Common.{ap, ap₂, sym, ◌∙◌, ⊎_elim, arith, ext_get_or}
use borrow.Author.Tests.{lt-ltb, le-ltb, eq-eqb, ne_eqb, leb-false, eqb-false}
use Rattle.std.proofs.Math.Dec.{eqb, ltb, leb, ltb→lt, eqb→eq, leb→le}
use Rattle.std.proofs.lemmas.List.{length-replicate, get_or-replicate}
use Rattle.basics.specs.Laws.Choice.{holds}
use Rattle.basics.specs.Laws.Order.{le-or-lt, same_or_not}
use Rattle.basics.specs.All.{all_below}
use Rattle.basics.specs.Laws.All.{all_below-start, all_below-at, all_below-true, all_below-false}
use Rattle.basics.specs.Laws.Test.{and_left, and_right}
use Rattle.matrix.specs.Matrix.{entry, pivot, Reduced, entries_below, column_alone, row_reduced, is_reduced}

pub entries_below_lem : (q : ℕ) (m : List ℕ) → T (entries_below q m) → (place : ℕ) → place < length m → get_or m place 0 < q
unfolding entries_below
entries_below_lem q m t place h = ltb→lt (get_or m place 0) q (all_below-at (length m) (λ p. ltb (get_or m p 0) q) t place h)

pub entries-below-true : (q : ℕ) (m : List ℕ) → ((place : ℕ) → place < length m → get_or m place 0 < q) → entries_below q m ≡ true
unfolding entries_below
entries-below-true q m h = all_below-true (length m) (λ p. ltb (get_or m p 0) q) (λ p l. lt-ltb (get_or m p 0) q (h p l))

pub below_one : (m : List ℕ) → entries_below 1 m ≡ true → m ≡ replicate (length m) 0
below_one m t =
    ext_get_or 0 m (replicate (length m) 0) (sym (length-replicate (length m) 0))
    (λ i h.
    let z : get_or m i 0 < 1 = entries_below_lem 1 m (holds (entries_below 1 m) t) i h in
    omega (arith, z, get_or-replicate {A = ℕ} (length m) i 0 0 h))

pub zeros-below : (n : ℕ) → entries_below 1 (replicate n 0) ≡ true
zeros-below n =
    entries-below-true 1 (replicate n 0)
    (λ i h. let g : i < n = omega (arith, length-replicate {A = ℕ} n 0) in omega (arith, get_or-replicate {A = ℕ} n i 0 0 g))

-- the entries of the first i places are below q exactly where the greatest is, q being above 0
abbrev pub below_to : ℕ → List ℕ → ℕ → Bool
below_to q m i = all_below i (λ p. ltb (get_or m p 0) q)

pub below-start : (q : ℕ) (m : List ℕ) → 0 < q → below_to q m 0 ≡ ltb 0 q
unfolding all_below
below-start q m h = sym (lt-ltb 0 q h)

and_no : (b : Bool) → b && false ≡ false
and_no true = refl
and_no false = refl

pub below_more : (q : ℕ) (m : List ℕ) (i greatest next : ℕ) → below_to q m i ≡ ltb greatest q → greatest ≤ next → get_or m i 0 ≤ next
    → (next ≡ greatest) ⊎ (next ≡ get_or m i 0) → below_to q m (suc i) ≡ ltb next q
unfolding all_below
below_more q m i greatest next before h g which = ⊎_elim less more (le-or-lt q next)
  where
    more : next < q → below_to q m (suc i) ≡ ltb next q
    more l = rw (before, lt-ltb greatest q (omega arith), lt-ltb (get_or m i 0) q (omega arith), lt-ltb next q l)

    less : q ≤ next → below_to q m (suc i) ≡ ltb next q
    less l =
        ⊎_elim (λ e. rw (before, le-ltb greatest q (omega arith), le-ltb next q l))
        (λ e. rw (le-ltb (get_or m i 0) q (omega arith), le-ltb next q l) (and_no (below_to q m i))) which

pub below_none : (m : List ℕ) → entries_below 0 m ≡ eqb (length m) 0
unfolding entries_below
below_none m =
    ⊎_elim (λ (e : length m ≡ 0). ap (λ k. all_below k (λ p. ltb (get_or m p 0) 0)) e ∙ all_below-start _ ∙ sym (eq-eqb (length m) 0 e))
    (λ ne. all_below-false (length m) (λ p. ltb (get_or m p 0) 0) 0 (omega (arith, ne)) (le-ltb (get_or m 0 0) 0 (omega arith))
    ∙ sym (ne_eqb (length m) 0 ne))
    (same_or_not (length m) 0)

or-other : (a b : Bool) → T (a || b) → (T a → ⊥) → T b
or-other true b t h = absurd (h tt)
or-other false b t h = t

or-true : (a b : Bool) → (a ≡ false → b ≡ true) → a || b ≡ true
or-true true b h = refl
or-true false b h = h refl

and-true : (a b : Bool) → a ≡ true → b ≡ true → a && b ≡ true
and-true a b p q = ap₂ ◌&&◌ p q

-- the four clauses of row i, whose pivot is in column p
pub record Clauses (n k : ℕ) (m : List ℕ) (i p : ℕ) : Type 0 where
  pub no-zero-row : p < n
  pub pivot-one : entry n m i p ≡ 1
  pub pivots-rise : suc i < k → p < pivot n m (suc i)
  pub pivot-alone : (a : ℕ) → a < k → (a ≡ i → ⊥) → entry n m a p ≡ 0

module _ (n k : ℕ) (m : List ℕ) (i p : ℕ) where
  pub clauses-of : T (row_reduced n k m i p) → Clauses n k m i p
  unfolding row_reduced column_alone
  clauses-of t =
      let t₁ = and_right (ltb p n) _ t in
      let t₂ = and_right (eqb (entry n m i p) 1) _ t₁ in
      let rises = leb k (suc i) || ltb p (pivot n m (suc i)) in
      record {
        no-zero-row = ltb→lt p n (and_left (ltb p n) _ t);
        pivot-one = eqb→eq (entry n m i p) 1 (and_left (eqb (entry n m i p) 1) _ t₁);
        pivots-rise =
            λ h.
            ltb→lt p (pivot n m (suc i))
            (or-other (leb k (suc i)) _ (and_left rises _ t₂) (λ l. let g = leb→le k (suc i) l in omega arith));
        pivot-alone =
            λ a h ne.
            eqb→eq (entry n m a p) 0
            (or-other (eqb a i) _ (all_below-at k (λ a. eqb a i || eqb (entry n m a p) 0) (and_right rises _ t₂) a h)
            (λ e. ne (eqb→eq a i e)));
      }

  pub clauses-true : Clauses n k m i p → row_reduced n k m i p ≡ true
  unfolding row_reduced column_alone
  clauses-true c =
      and-true _ _ (lt-ltb p n c.no-zero-row)
      (and-true _ _ (eq-eqb (entry n m i p) 1 c.pivot-one)
      (and-true _ _ (or-true (leb k (suc i)) _ (λ f. lt-ltb p (pivot n m (suc i)) (c.pivots-rise (leb-false k (suc i) f))))
      (all_below-true k (λ a. eqb a i || eqb (entry n m a p) 0)
      (λ a h. or-true (eqb a i) _ (λ e. eq-eqb (entry n m a p) 0 (c.pivot-alone a h (eqb-false a i e)))))))

module _ (q n k : ℕ) (m : List ℕ) (sized : length m ≡ k * n) (below : T (entries_below q m)) where
  clauses-at : T (is_reduced n k m) → (i : ℕ) → i < k → Clauses n k m i (pivot n m i)
  unfolding is_reduced
  clauses-at t i h = clauses-of n k m i (pivot n m i) (all_below-at k (λ i. row_reduced n k m i (pivot n m i)) t i h)

  pub reduced-exactly : T (is_reduced n k m) ↔ Reduced q n k m
  unfolding is_reduced
  reduced-exactly = (
    λ t.
        record {
          size = sized;
          below = λ place h. entries_below_lem q m below place (rw sized h);
          no-zero-row = λ i h. (clauses-at t i h).no-zero-row;
          pivot-one = λ i h. (clauses-at t i h).pivot-one;
          pivots-rise = λ i h. (clauses-at t i (omega arith)).pivots-rise h;
          pivot-alone = λ i h a. (clauses-at t i h).pivot-alone a;
        },
    λ r.
        holds _
        (all_below-true k (λ i. row_reduced n k m i (pivot n m i))
        (λ i h.
        clauses-true n k m i (pivot n m i)
        (record {
          no-zero-row = r.no-zero-row i h;
          pivot-one = r.pivot-one i h;
          pivots-rise = r.pivots-rise i;
          pivot-alone = r.pivot-alone i h;
        }))),
  )
