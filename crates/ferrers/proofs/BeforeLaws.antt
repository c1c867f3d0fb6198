-- The Ferrers order on matrices; no part of the meaning. The size and the index are told by the diagram and the tableau.
--   diagram-length   == a reduced matrix's diagram has n - k columns
--   same_size        == equal diagrams have one size
--   index_same       == equal diagrams and tableaux have one index
--   index-larger, index-fuller, index-smaller == each of the order's three clauses gives the smaller index
--   before-compared  == of two matrices with equally long diagrams one comes before the other, or they have one diagram and one tableau
-- Assumes nothing.
use Rattle.std.specs.Prelude.{◌≡◌, List, ◌⊎◌, ℕ, ◌+◌, ◌*◌, ◌-◌, ◌^◌, ◌<◌, length, get_or}
use Rattle.std.proofs.Math.Path.{refl}
use Rattle.std.proofs.Common.{ap, ap₂, ◌∙◌, sym, subst₂, inl, inr, arith, ext_get_or}
use Rattle.basics.specs.Laws.Lexicographic.{lex-total}
use Rattle.basics.specs.Laws.Order.{trichotomy}
use Rattle.basics.specs.Sum.{Lex}
use Rattle.matrix.specs.Matrix.{Reduced}
use Rattle.matrix.specs.Laws.Peel.{peeled-of}
use Rattle.matrix.specs.Laws.ShapeLaws.{peeled-valid}
use Rattle.ferrers.specs.Laws.DiagramFormula.{diagram-formula, size-formula}
use Rattle.ferrers.specs.Ferrers.{diagram, total, size, tableau_value, diagram_place, larger_diagrams, ferrers_index, ferrers_before}
use Rattle.ferrers.specs.Ferrers.{larger, fuller, smaller}
use Rattle.ferrers.proofs.Formula14.{ferrers-formula}
use Rattle.ferrers.specs.Laws.Heights.{heights-length}
use Rattle.ferrers.specs.Laws.RankOrder.{rank-larger, rank-fuller}

pub diagram-length : {q n k : ℕ} {m : List ℕ} → Reduced q n k m → length (diagram n k m) ≡ n - k
diagram-length r = let (s, p) = peeled-of r in ap length (diagram-formula r p) ∙ heights-length (peeled-valid p)

pub same_size : (n k : ℕ) (a b : List ℕ) → diagram n k a ≡ diagram n k b → size n k a ≡ size n k b
unfolding size
same_size n k a b d = ap total d

-- the column i + 1 of the diagram
abbrev pub column_of : ℕ → ℕ → List ℕ → ℕ → ℕ
column_of n k m i = get_or (diagram n k m) i 0

module _ (q n k : ℕ) where
  -- the part of the index that the diagram tells
  abbrev diagram_part : List ℕ → ℕ
  diagram_part D = larger_diagrams q k (n - k) (total D) + q ^ total D * diagram_place k (n - k) D (total D)

  index-parts : (a : List ℕ) → ferrers_index q n k a ≡ diagram_part (diagram n k a) + tableau_value q n k a
  unfolding ferrers_index size
  index-parts a = refl

  pub index_same : (a b : List ℕ) → diagram n k a ≡ diagram n k b → tableau_value q n k a ≡ tableau_value q n k b
      → ferrers_index q n k a ≡ ferrers_index q n k b
  index_same a b d e = index-parts a ∙ ap₂ (λ D x. diagram_part D + x) d e ∙ sym (index-parts b)

  pub index-smaller : (a b : List ℕ) → diagram n k a ≡ diagram n k b → tableau_value q n k a < tableau_value q n k b
      → ferrers_index q n k a < ferrers_index q n k b
  index-smaller a b d h =
      let e : diagram_part (diagram n k a) ≡ diagram_part (diagram n k b) = ap diagram_part d in
      omega (arith, index-parts a, index-parts b)

  pub before-compared : (a b : List ℕ) → length (diagram n k a) ≡ n - k → length (diagram n k b) ≡ n - k
      → ferrers_before q n k a b
      ⊎ (((diagram n k a ≡ diagram n k b) × (tableau_value q n k a ≡ tableau_value q n k b)) ⊎ ferrers_before q n k b a)
  before-compared a b la lb =
      by_size (trichotomy (size n k a) (size n k b)) (lex-total (n - k) (column_of n k b) (column_of n k a))
      (trichotomy (tableau_value q n k a) (tableau_value q n k b))
    where
      Compared : Type 0
      Compared =
          ferrers_before q n k a b
          ⊎ (((diagram n k a ≡ diagram n k b) × (tableau_value q n k a ≡ tableau_value q n k b)) ⊎ ferrers_before q n k b a)

      by-tableau : diagram n k a ≡ diagram n k b
          → (tableau_value q n k a < tableau_value q n k b)
          ⊎ ((tableau_value q n k a ≡ tableau_value q n k b) ⊎ (tableau_value q n k b < tableau_value q n k a))
          → Compared
      by-tableau d (inl h) = inl (smaller d h)
      by-tableau d (inr (inl e)) = inr (inl (d, e))
      by-tableau d (inr (inr h)) = inr (inr (smaller (sym d) h))

      by_size : (size n k a < size n k b) ⊎ ((size n k a ≡ size n k b) ⊎ (size n k b < size n k a))
          → Lex (n - k) (column_of n k b) (column_of n k a)
          ⊎ (((i : ℕ) → i < n - k → column_of n k b i ≡ column_of n k a i) ⊎ Lex (n - k) (column_of n k a) (column_of n k b))
          → (tableau_value q n k a < tableau_value q n k b)
          ⊎ ((tableau_value q n k a ≡ tableau_value q n k b) ⊎ (tableau_value q n k b < tableau_value q n k a))
          → Compared
      by_size (inl h) l t = inr (inr (larger h))
      by_size (inr (inr h)) l t = inl (larger h)
      by_size (inr (inl e)) (inl l) t = inl (fuller e l)
      by_size (inr (inl e)) (inr (inr l)) t = inr (inr (fuller (sym e) l))
      by_size (inr (inl e)) (inr (inl s)) t =
          by-tableau (ext_get_or 0 (diagram n k a) (diagram n k b) (la ∙ sym lb) (λ i h. sym (s i (omega arith)))) t

module _ {q n k : ℕ} {a b : List ℕ} (r : Reduced q n k a) (t : Reduced q n k b) where
  pub index-larger : size n k b < size n k a → ferrers_index q n k a < ferrers_index q n k b
  index-larger h =
      let (s, p) = peeled-of r in
      let (u, o) = peeled-of t in
      subst₂ (λ x y. x < y) (sym (ferrers-formula r p)) (sym (ferrers-formula t o))
      (rank-larger (peeled-valid p) (peeled-valid o) (subst₂ (λ x y. x < y) (size-formula t o) (size-formula r p) h))

  pub index-fuller : size n k a ≡ size n k b → Lex (n - k) (column_of n k b) (column_of n k a) → ferrers_index q n k a < ferrers_index q n k b
  index-fuller e l =
      let (s, p) = peeled-of r in
      let (u, o) = peeled-of t in
      subst₂ (λ x y. x < y) (sym (ferrers-formula r p)) (sym (ferrers-formula t o))
      (rank-fuller (peeled-valid p) (peeled-valid o) (sym (size-formula r p) ∙ e ∙ size-formula t o)
      (subst₂ (λ D E. Lex (n - k) (λ i. get_or D i 0) (λ i. get_or E i 0)) (diagram-formula t o) (diagram-formula r p) l))
