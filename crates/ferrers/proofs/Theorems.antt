-- The Ferrers numbering lists the reduced matrices: for any q, n and k, the indexes below the Gaussian coefficient and the reduced matrices
-- of k rows and n columns are one to one, in the numbering's order. Carried by the peeled shape, whose rank is formula (14).
--   index-below-count  == a reduced matrix has an index below the count of spaces
--   drawn-reduced      == the matrix that is drawn for an index below the count is reduced
--   index-of-drawn     == its index is the one it was drawn for
--   drawn-of-index     == every reduced matrix is drawn for its index
--   index-injective    == two reduced matrices with one index are equal
--   before-irreflexive, before-transitive == the numbering's order is an order, on any two or three lists
--   before-total       == of two reduced matrices one comes before the other, or they are equal
--   before-index       == what comes before has the smaller index
--   drawn-rising       == of two indexes the smaller gives the matrix that comes first
-- Assumes nothing.
use Rattle.std.specs.Prelude.{◌≡◌, List, ◌⊎◌, ℕ, ◌-◌, ◌<◌, ◌≤◌, get_or}
use Rattle.std.proofs.Math.Path.{ap, sym}
use Rattle.std.proofs.Common.{◌∙◌, subst, inl, inr, lt_irrefl, lt_trans, arith}
use Rattle.basics.specs.Laws.Lexicographic.{lex-irreflexive, lex-transitive}
use Rattle.basics.specs.Laws.Order.{le-or-lt}
use Rattle.basics.specs.Sum.{Lex}
use Rattle.counts.specs.Gaussian.{gaussian}
use Rattle.counts.specs.Laws.GaussianLaws.{gaussian-none}
use Rattle.matrix.specs.Matrix.{Reduced}
use Rattle.matrix.specs.Laws.Peel.{peeled-of}
use Rattle.matrix.specs.Laws.ShapeLaws.{peeled-valid}
use Rattle.matrix.specs.Shape.{cell, flatten}
use Rattle.matrix.proofs.Laws.ShapeMatrix.{shape-matrix, shape-peeled, shape-reduced}
use Rattle.ferrers.proofs.BeforeLaws.{diagram-length, same_size, index_same, index-larger, index-fuller, index-smaller}
use Rattle.ferrers.proofs.BeforeLaws.{before-compared}
use Rattle.ferrers.specs.Ferrers.{diagram, size, tableau_value, ferrers_index, ferrers_before, larger, fuller, smaller}
use Rattle.ferrers.proofs.Formula14.{ferrers-formula}
use Rattle.ferrers.specs.Drawn.{ferrers_shape, drawn_ferrers}
use Rattle.ferrers.specs.Laws.ShapeBounds.{rank_below}
use Rattle.ferrers.specs.Laws.ShapeIndex.{shape-valid, rank-of-shape, shape-of-rank}

-- an index below the count shows that there are no more rows than columns
rows_fit : (q n k i : ℕ) → i < gaussian q n k → k ≤ n
rows_fit q n k i h = cases (le-or-lt k n)
  where
    cases : (k ≤ n) ⊎ (n < k) → k ≤ n
    cases (inl l) = l
    cases (inr l) = absurd (omega (arith, gaussian-none q n k l))

module _ {q n k : ℕ} where
  pub index-below-count : {m : List ℕ} → Reduced q n k m → ferrers_index q n k m < gaussian q n k
  index-below-count r =
      let (s, p) = peeled-of r in
      rw (ferrers-formula r p) (rank_below (peeled-valid p))

  pub drawn-of-index : {m : List ℕ} → Reduced q n k m → drawn_ferrers q n k (ferrers_index q n k m) ≡ m
  unfolding drawn_ferrers
  drawn-of-index r =
      let (s, p) = peeled-of r in
      ap (λ t. flatten k n (cell q t k n)) (ap (ferrers_shape q n k) (ferrers-formula r p) ∙ shape-of-rank (peeled-valid p))
      ∙ sym (shape-matrix r p)

  pub index-injective : {a b : List ℕ} → Reduced q n k a → Reduced q n k b → ferrers_index q n k a ≡ ferrers_index q n k b → a ≡ b
  index-injective r t e = sym (drawn-of-index r) ∙ ap (drawn_ferrers q n k) e ∙ drawn-of-index t

module _ (q n k i : ℕ) (h : 1 < q) (b : i < gaussian q n k) where
  pub drawn-reduced : Reduced q n k (drawn_ferrers q n k i)
  unfolding drawn_ferrers
  drawn-reduced = shape-reduced h (shape-valid q n k i (omega arith) (rows_fit q n k i b) b)

  pub index-of-drawn : ferrers_index q n k (drawn_ferrers q n k i) ≡ i
  unfolding drawn_ferrers
  index-of-drawn =
      let rows : k ≤ n = rows_fit q n k i b in
      ferrers-formula drawn-reduced (shape-peeled (omega arith) (shape-valid q n k i (omega arith) rows b))
      ∙ rank-of-shape q n k i (omega arith) rows b

module _ (q n k : ℕ) where
  pub before-irreflexive : (a : List ℕ) → ferrers_before q n k a a → ⊥
  before-irreflexive a (larger h) = lt_irrefl (size n k a) h
  before-irreflexive a (fuller e l) = lex-irreflexive (n - k) (λ i. get_or (diagram n k a) i 0) l
  before-irreflexive a (smaller d h) = lt_irrefl (tableau_value q n k a) h

  pub before-transitive : (a b c : List ℕ) → ferrers_before q n k a b → ferrers_before q n k b c → ferrers_before q n k a c
  before-transitive a b c (larger h) (larger g) = larger (lt_trans g h)
  before-transitive a b c (larger h) (fuller e l) = larger (subst (λ z. z < size n k a) e h)
  before-transitive a b c (larger h) (smaller d g) = larger (subst (λ z. z < size n k a) (same_size n k b c d) h)
  before-transitive a b c (fuller e l) (larger g) = larger (subst (λ z. size n k c < z) (sym e) g)
  before-transitive a b c (fuller e l) (fuller f r) =
      fuller (e ∙ f)
      (lex-transitive (n - k) (λ i. get_or (diagram n k c) i 0) (λ i. get_or (diagram n k b) i 0) (λ i. get_or (diagram n k a) i 0) r l)
  before-transitive a b c (fuller e l) (smaller d g) =
      fuller (e ∙ same_size n k b c d) (subst (λ D. Lex (n - k) (λ i. get_or D i 0) (λ i. get_or (diagram n k a) i 0)) d l)
  before-transitive a b c (smaller d h) (larger g) = larger (subst (λ z. size n k c < z) (sym (same_size n k a b d)) g)
  before-transitive a b c (smaller d h) (fuller e l) =
      fuller (same_size n k a b d ∙ e) (subst (λ D. Lex (n - k) (λ i. get_or (diagram n k c) i 0) (λ i. get_or D i 0)) (sym d) l)
  before-transitive a b c (smaller d h) (smaller f g) = smaller (d ∙ f) (lt_trans h g)

module _ {q n k : ℕ} {a b : List ℕ} (r : Reduced q n k a) (t : Reduced q n k b) where
  pub before-index : ferrers_before q n k a b → ferrers_index q n k a < ferrers_index q n k b
  before-index (larger h) = index-larger r t h
  before-index (fuller e l) = index-fuller r t e l
  before-index (smaller d h) = index-smaller q n k a b d h

  pub before-total : ferrers_before q n k a b ⊎ ((a ≡ b) ⊎ ferrers_before q n k b a)
  before-total = cases (before-compared q n k a b (diagram-length r) (diagram-length t))
    where
      cases : ferrers_before q n k a b
          ⊎ (((diagram n k a ≡ diagram n k b) × (tableau_value q n k a ≡ tableau_value q n k b)) ⊎ ferrers_before q n k b a)
          → ferrers_before q n k a b ⊎ ((a ≡ b) ⊎ ferrers_before q n k b a)
      cases (inl h) = inl h
      cases (inr (inl e)) = inr (inl (index-injective r t (index_same q n k a b e.0 e.1)))
      cases (inr (inr h)) = inr (inr h)

pub drawn-rising : (q n k i j : ℕ) → 1 < q → i < j → j < gaussian q n k → ferrers_before q n k (drawn_ferrers q n k i) (drawn_ferrers q n k j)
drawn-rising q n k i j h l b = cases (before-total first second)
  where
    first : Reduced q n k (drawn_ferrers q n k i)
    first = drawn-reduced q n k i h (omega arith)

    second : Reduced q n k (drawn_ferrers q n k j)
    second = drawn-reduced q n k j h b

    index-first : ferrers_index q n k (drawn_ferrers q n k i) ≡ i
    index-first = index-of-drawn q n k i h (omega arith)

    index-second : ferrers_index q n k (drawn_ferrers q n k j) ≡ j
    index-second = index-of-drawn q n k j h b

    cases : ferrers_before q n k (drawn_ferrers q n k i) (drawn_ferrers q n k j)
        ⊎ ((drawn_ferrers q n k i ≡ drawn_ferrers q n k j) ⊎ ferrers_before q n k (drawn_ferrers q n k j) (drawn_ferrers q n k i))
        → ferrers_before q n k (drawn_ferrers q n k i) (drawn_ferrers q n k j)
    cases (inl g) = g
    cases (inr (inl e)) = absurd (omega (arith, index-first, index-second, ap (ferrers_index q n k) e))
    cases (inr (inr g)) = absurd (omega (arith, index-first, index-second, before-index second first g))
