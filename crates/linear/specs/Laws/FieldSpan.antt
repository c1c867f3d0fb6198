-- Spans over any field, with vectors as functions of the column; no part of the meaning.
--   Spanned K at rows v == v is a linear combination of the rows, where `at r` is the vector of the row r
--   spanned-nought  == the zero vector is spanned
--   spanned-mix     == the closure lemma: a·u + b·v is spanned where u and v are
--   spanned-scale   == c·u is spanned where u is
--   spanned-top, spanned-below == the first row is spanned, and so is what the other rows span
--   spanned-each    == every row of the list is spanned
--   spanned-through == what is spanned by spanned rows is spanned
--   spanned-same    == a vector with the same entries as a spanned one is spanned
--   spanned-at      == at a column where every row is 0, what they span is 0
-- Assumes nothing.
use Rattle.std.specs.Prelude.{◌≡◌, refl, List, [], ◌∷◌, ℕ}
use Rattle.std.proofs.Common.{ap, ap₂, sym, ◌∙◌}
use Rattle.linear.specs.Span.{All, none, more}
use Rattle.linear.specs.Laws.Every.{all_map}
use Rattle.linear.specs.Laws.Scalars.{Scalars, nought-plus, nought-times, unit-times, plus-left-comm, plus_times}

pub data Spanned {F A : Type 0} (K : Scalars F) (at : A → ℕ → F) : List A → (ℕ → F) → Type 0 where
  nothing : {v : ℕ → F} → ((j : ℕ) → v j ≡ K.nought) → Spanned K at [] v
  adding : {r : A} {rows : List A} {v : ℕ → F} (c : F) (w : ℕ → F) → Spanned K at rows w
      → ((j : ℕ) → v j ≡ K.◌⊕◌ (K.◌⊗◌ c (at r j)) (w j))
      → Spanned K at (r ∷ rows) v

module _ {F A : Type 0} (K : Scalars F) (at : A → ℕ → F) where
  open K use {nought, unit, ◌⊕◌, ◌⊗◌, plus_comm, plus_assoc, plus-nought, times-assoc, times-nought, times-plus}

  infixl 60 ◌⊕◌
  infixl 70 ◌⊗◌
  pub spanned-nought : (rows : List A) (v : ℕ → F) → ((j : ℕ) → v j ≡ nought) → Spanned K at rows v
  spanned-nought [] v h = nothing h
  spanned-nought (r ∷ rows) v h =
      adding nought (λ j. nought) (spanned-nought rows (λ j. nought) (λ j. refl))
      (λ j. h j ∙ sym (plus-nought (nought ⊗ at r j) ∙ nought-times K (at r j)))

  mixed-sum : (a b c d r u v : F) → a ⊗ (c ⊗ r ⊕ u) ⊕ b ⊗ (d ⊗ r ⊕ v) ≡ (a ⊗ c ⊕ b ⊗ d) ⊗ r ⊕ (a ⊗ u ⊕ b ⊗ v)
  mixed-sum a b c d r u v = simp (times-plus, plus_times, times-assoc, plus_assoc, plus_comm, plus-left-comm)

  pub spanned-mix : {rows : List A} {u v : ℕ → F} (w : ℕ → F) (a b : F) → Spanned K at rows u → Spanned K at rows v
      → ((j : ℕ) → w j ≡ a ⊗ u j ⊕ b ⊗ v j) → Spanned K at rows w
  spanned-mix w a b (nothing zu) (nothing zv) e =
      nothing (λ j. e j ∙ ap₂ (λ x y. a ⊗ x ⊕ b ⊗ y) (zu j) (zv j) ∙ ap₂ (λ x y. x ⊕ y) (times-nought a) (times-nought b)
      ∙ plus-nought nought)
  spanned-mix w a b (adding {r = r} c u su eu) (adding d v sv ev) e =
      adding (a ⊗ c ⊕ b ⊗ d) (λ j. a ⊗ u j ⊕ b ⊗ v j) (spanned-mix (λ j. a ⊗ u j ⊕ b ⊗ v j) a b su sv (λ j. refl))
      (λ j. e j ∙ ap₂ (λ x y. a ⊗ x ⊕ b ⊗ y) (eu j) (ev j) ∙ mixed-sum a b c d (at r j) (u j) (v j))

  pub spanned-scale : {rows : List A} {u : ℕ → F} (w : ℕ → F) (c : F) → Spanned K at rows u → ((j : ℕ) → w j ≡ c ⊗ u j)
      → Spanned K at rows w
  spanned-scale {u = u} w c s e =
      spanned-mix w c nought s s (λ j. e j ∙ sym (ap (λ x. c ⊗ u j ⊕ x) (nought-times K (u j)) ∙ plus-nought (c ⊗ u j)))

  pub spanned-below : {r : A} {rows : List A} {v : ℕ → F} → Spanned K at rows v → Spanned K at (r ∷ rows) v
  spanned-below {r} {v = v} s = adding nought v s (λ j. sym (ap (λ x. x ⊕ v j) (nought-times K (at r j)) ∙ nought-plus K (v j)))

  pub spanned-top : (r : A) (rows : List A) → Spanned K at (r ∷ rows) (at r)
  spanned-top r rows =
      adding unit (λ j. nought) (spanned-nought rows (λ j. nought) (λ j. refl))
      (λ j. sym (plus-nought (unit ⊗ at r j) ∙ unit-times K (at r j)))

  pub spanned-each : (rows : List A) → All (λ r. Spanned K at rows (at r)) rows
  spanned-each [] = none
  spanned-each (r ∷ rows) = more (spanned-top r rows) (all_map (λ x s. spanned-below s) (spanned-each rows))

  pub spanned-through : {others rows : List A} {v : ℕ → F} → All (λ r. Spanned K at others (at r)) rows → Spanned K at rows v
      → Spanned K at others v
  spanned-through {others = others} {v} none (nothing z) = spanned-nought others v z
  spanned-through {v = v} (more s ss) (adding {r = r} c w sw e) =
      spanned-mix v c unit s (spanned-through ss sw) (λ j. e j ∙ ap (λ x. c ⊗ at r j ⊕ x) (sym (unit-times K (w j))))

  pub spanned-same : {rows : List A} {u : ℕ → F} (v : ℕ → F) → Spanned K at rows u → ((j : ℕ) → v j ≡ u j) → Spanned K at rows v
  spanned-same v (nothing z) e = nothing (λ j. e j ∙ z j)
  spanned-same v (adding c w s eu) e = adding c w s (λ j. e j ∙ eu j)

  pub spanned-at : (j : ℕ) {rows : List A} {v : ℕ → F} → All (λ r. at r j ≡ nought) rows → Spanned K at rows v → v j ≡ nought
  spanned-at j none (nothing z) = z j
  spanned-at j (more h hs) (adding c w s e) =
      e j ∙ ap₂ (λ x y. c ⊗ x ⊕ y) h (spanned-at j hs s) ∙ plus-nought (c ⊗ nought) ∙ times-nought c
