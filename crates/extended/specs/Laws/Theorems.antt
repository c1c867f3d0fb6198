-- The extended numbering, for any field size q above 1, any n and any k. Document 01: "every index below N gives a reduced k×n matrix,
-- unrefused; each such matrix comes from exactly one of these indexes; and of any two of these indexes the smaller gives the matrix that
-- comes first in the numbering's order."
--   index-below-count  == a reduced matrix has an index below the count
--   drawn-reduced      == what an index below the count draws is a reduced matrix
--   index-of-drawn     == the drawn matrix has the index
--   drawn-of-index     == a reduced matrix is drawn by its index
--   index-injective    == reduced matrices with the same index are equal
--   before-irreflexive, before-transitive, before-total == of two different reduced matrices exactly one comes first
--   before-index       == what comes first has the smaller index
--   drawn-rising       == of two indexes below the count the smaller draws what comes first
-- Assumes nothing.
use Rattle.std.specs.Prelude.{◌≡◌, List, ◌⊎◌, ℕ, suc, ◌^◌, ◌%◌, ◌<◌}
use Rattle.std.proofs.Math.Path.{ap, sym}
use Rattle.std.proofs.Common.{◌∙◌, arith, lt_trans}
use Rattle.std.proofs.Math.Logic.{inl, inr}
use Rattle.std.proofs.Math.Arith.{digits_mod}
use Rattle.basics.specs.Laws.Lexicographic.{lex-irreflexive, lex-transitive, lex-total}
use Rattle.basics.specs.Sum.{bit, Lex}
use Rattle.matrix.specs.Matrix.{entry, pivot_at, column_value, Reduced}
use Rattle.matrix.specs.Shape.{cell, flatten}
use Rattle.matrix.specs.Laws.Shape.{Peeled}
use Rattle.matrix.specs.Laws.Peel.{peeled-of}
use Rattle.matrix.specs.Laws.ShapeLaws.{peeled-valid}
use Rattle.matrix.proofs.Laws.ShapeMatrix.{shape-matrix, shape-peeled, shape-reduced}
use Rattle.matrix.specs.Laws.PeelPlace.{located-start}
use Rattle.matrix.proofs.Laws.Values.{column_value-below, columns-injective}
use Rattle.counts.specs.Gaussian.{gaussian}
use Rattle.extended.specs.Extended.{extended_index, extended_column, extended_before}
use Rattle.extended.specs.Drawn.{extended_shape, drawn_extended}
use Rattle.extended.specs.Laws.ShapeCount.{rank_below, shape-valid, rank-of-shape, shape-of-rank}
use Rattle.extended.specs.Laws.Formula.{extended-formula}
use Rattle.extended.specs.Laws.Order.{before-rank}

module _ (q n k : ℕ) where
  pub before-irreflexive : (a : List ℕ) → extended_before q n k a a → ⊥
  unfolding extended_before
  before-irreflexive a l = lex-irreflexive n (λ i. extended_column q n k a (suc i)) l

  pub before-transitive : (a b c : List ℕ) → extended_before q n k a b → extended_before q n k b c → extended_before q n k a c
  unfolding extended_before
  before-transitive a b c l r =
      lex-transitive n (λ i. extended_column q n k a (suc i)) (λ i. extended_column q n k b (suc i)) (λ i. extended_column q n k c (suc i)) l r

  -- a column with v_j above it tells the column
  column-same : {a b : List ℕ} → Reduced q n k a → Reduced q n k b
      → ((i : ℕ) → i < n → extended_column q n k a (suc i) ≡ extended_column q n k b (suc i)) → (i : ℕ) → i < n
      → column_value q n k a (suc i) ≡ column_value q n k b (suc i)
  unfolding extended_column
  column-same {a} {b} r t e i h =
      sym (digits_mod (bit (pivot_at n k a (suc i))) (column_value-below r i h))
      ∙ ap (λ x. x % q ^ k) (e i h)
      ∙ digits_mod (bit (pivot_at n k b (suc i))) (column_value-below t i h)

  pub before-total : {a b : List ℕ} → Reduced q n k a → Reduced q n k b
      → extended_before q n k a b ⊎ ((a ≡ b) ⊎ extended_before q n k b a)
  unfolding extended_before
  before-total {a} {b} r t =
      cases (lex-total n (λ i. extended_column q n k a (suc i)) (λ i. extended_column q n k b (suc i)))
    where
      cases : Lex n (λ i. extended_column q n k a (suc i)) (λ i. extended_column q n k b (suc i))
          ⊎ (((i : ℕ) → i < n → extended_column q n k a (suc i) ≡ extended_column q n k b (suc i))
          ⊎ Lex n (λ i. extended_column q n k b (suc i)) (λ i. extended_column q n k a (suc i)))
          → extended_before q n k a b ⊎ ((a ≡ b) ⊎ extended_before q n k b a)
      cases (inl l) = inl l
      cases (inr (inl e)) = inr (inl (columns-injective r t (column-same r t e)))
      cases (inr (inr l)) = inr (inr l)

module _ (q n k : ℕ) (size : 1 < q) where
  pub index-below-count : {m : List ℕ} → Reduced q n k m → extended_index q n k m < gaussian q n k
  index-below-count r =
      let (s, p) = peeled-of r in
      rw (extended-formula size r p) (rank_below (peeled-valid p))

  pub drawn-reduced : (i : ℕ) → i < gaussian q n k → Reduced q n k (drawn_extended q n k i)
  unfolding drawn_extended
  drawn-reduced i h = shape-reduced size (shape-valid q n k i h)

  drawn-peeled : (i : ℕ) → i < gaussian q n k → Peeled q (entry n (drawn_extended q n k i)) k n (extended_shape q n k i)
  unfolding drawn_extended
  drawn-peeled i h = shape-peeled (omega arith) (shape-valid q n k i h)

  pub index-of-drawn : (i : ℕ) → i < gaussian q n k → extended_index q n k (drawn_extended q n k i) ≡ i
  index-of-drawn i h = extended-formula size (drawn-reduced i h) (drawn-peeled i h) ∙ rank-of-shape q n k i h

  pub drawn-of-index : {m : List ℕ} → Reduced q n k m → drawn_extended q n k (extended_index q n k m) ≡ m
  unfolding drawn_extended
  drawn-of-index r =
      let (s, p) = peeled-of r in
      ap (λ t. flatten k n (cell q t k n)) (ap (extended_shape q n k) (extended-formula size r p) ∙ shape-of-rank (peeled-valid p))
      ∙ sym (shape-matrix r p)

  pub index-injective : {a b : List ℕ} → Reduced q n k a → Reduced q n k b → extended_index q n k a ≡ extended_index q n k b → a ≡ b
  index-injective r t e = sym (drawn-of-index r) ∙ ap (drawn_extended q n k) e ∙ drawn-of-index t

  pub before-index : {a b : List ℕ} → Reduced q n k a → Reduced q n k b → extended_before q n k a b
      → extended_index q n k a < extended_index q n k b
  unfolding extended_before
  before-index r t w =
      let (s, p) = peeled-of r in
      let (u, o) = peeled-of t in
      rw (extended-formula size r p, extended-formula size t o)
      (before-rank (omega arith) w p o (located-start r p) (located-start t o) (omega arith))

  pub drawn-rising : (i j : ℕ) → i < j → j < gaussian q n k → extended_before q n k (drawn_extended q n k i) (drawn_extended q n k j)
  drawn-rising i j h b = cases (before-total q n k (drawn-reduced i a) (drawn-reduced j b))
    where
      a : i < gaussian q n k
      a = lt_trans h b

      cases : extended_before q n k (drawn_extended q n k i) (drawn_extended q n k j)
          ⊎ ((drawn_extended q n k i ≡ drawn_extended q n k j) ⊎ extended_before q n k (drawn_extended q n k j) (drawn_extended q n k i))
          → extended_before q n k (drawn_extended q n k i) (drawn_extended q n k j)
      cases (inl l) = l
      cases (inr (inl e)) =
          absurd (omega (arith, index-of-drawn i a, index-of-drawn j b, ap (extended_index q n k) e))
      cases (inr (inr l)) =
          absurd (omega (arith, index-of-drawn i a, index-of-drawn j b, before-index (drawn-reduced j b) (drawn-reduced i a) l))
