-- How far one row more moves a span, over any field and for lists of any length. Order 10: "Dropping or adding one row moves a list's span
-- by distance at most 1".
--   distance-row       == with one row more, at any place, it is at most 1, and 1 exactly where the row isn't in the span of the others
-- Assumes nothing.
use Rattle.std.specs.Prelude.{◌≡◌, List, [], ◌∷◌, ◌++◌, ◌↔◌, ◌⊎◌, ℕ, ◌+◌, ◌≤◌}
use Rattle.std.proofs.Common.{inl, inr, arith}
use Rattle.field.specs.FieldLaws.{Laws}
use Rattle.linear.specs.Span.{All, none, more, Among, first, later, Row, InSpan}
use Rattle.linear.specs.Eliminate.{dimension}
use Rattle.linear.specs.Laws.Every.{all_append, among-append, among-either}
use Rattle.linear.specs.Laws.OneMore.{dimension-held, dimension-raised, span-decide}
use Rattle.spaces.specs.Spaces.{Within}
use Rattle.spaces.specs.Distance.{distance}
use Rattle.spaces.specs.Laws.Joint.{both-within}
use Rattle.spaces.specs.Laws.Growing.{among-within, dimension-grows}
use Rattle.spaces.proofs.Laws.Distance.{distance-symmetric, distance-within}

module _ (q : ℕ) (laws : Laws q) (n : ℕ) where
  -- the row x, at any place of a list, and the list without it
  module _ (us ws : List (List ℕ)) (x : List ℕ) (hu : All (Row q n) us) (hw : All (Row q n) ws) (hx : Row q n x) where
    others : All (Row q n) (us ++ ws)
    others = all_append hu hw

    whole : All (Row q n) (us ++ (x ∷ ws))
    whole = all_append hu (more hx hw)

    -- the list with the row at its end
    ended : All (Row q n) ((us ++ ws) ++ (x ∷ []))
    ended = all_append others (more hx none)

    without : Within q n (us ++ ws) (us ++ (x ∷ ws))
    without = among-within q laws n (us ++ ws) (us ++ (x ∷ ws)) whole (λ row a. among-append us (x ∷ ws) (still (among-either us ws a)))
      where
        still : {row : List ℕ} → Among row us ⊎ Among row ws → Among row us ⊎ Among row (x ∷ ws)
        still (inl a) = inl a
        still (inr a) = inr (later a)

    to_the_end : Within q n (us ++ (x ∷ ws)) ((us ++ ws) ++ (x ∷ []))
    to_the_end =
        among-within q laws n (us ++ (x ∷ ws)) ((us ++ ws) ++ (x ∷ [])) ended
        (λ row a. among-append (us ++ ws) (x ∷ []) (moved (among-either us (x ∷ ws) a)))
      where
        moved : {row : List ℕ} → Among row us ⊎ Among row (x ∷ ws) → Among row (us ++ ws) ⊎ Among row (x ∷ [])
        moved (inl a) = inl (among-append us ws (inl a))
        moved (inr first) = inr first
        moved (inr (later a)) = inl (among-append us ws (inr a))

    from-the-end : Within q n ((us ++ ws) ++ (x ∷ [])) (us ++ (x ∷ ws))
    from-the-end =
        both-within q laws n (us ++ ws) (x ∷ []) (us ++ (x ∷ ws)) others (more hx none) whole without
        (among-within q laws n (x ∷ []) (us ++ (x ∷ ws)) whole (λ row a. among-append us (x ∷ ws) (inr (only a))))
      where
        only : {row : List ℕ} → Among row (x ∷ []) → Among row (x ∷ ws)
        only first = first
        only (later a) = elim a [ ]

    moved-dimension : dimension q n (us ++ (x ∷ ws)) ≡ dimension q n ((us ++ ws) ++ (x ∷ []))
    moved-dimension =
        omega (
          arith,
          dimension-grows q laws n (us ++ (x ∷ ws)) ((us ++ ws) ++ (x ∷ [])) whole ended to_the_end,
          dimension-grows q laws n ((us ++ ws) ++ (x ∷ [])) (us ++ (x ∷ ws)) ended whole from-the-end,
        )

    apart : distance q n (us ++ (x ∷ ws)) (us ++ ws) + dimension q n (us ++ ws) ≡ dimension q n ((us ++ ws) ++ (x ∷ []))
    apart =
        omega (
          arith,
          distance-symmetric q laws n (us ++ (x ∷ ws)) (us ++ ws) whole others,
          distance-within q laws n (us ++ ws) (us ++ (x ∷ ws)) others whole without,
          moved-dimension,
        )

    pub distance-row : (distance q n (us ++ (x ∷ ws)) (us ++ ws) ≤ 1)
        × ((distance q n (us ++ (x ∷ ws)) (us ++ ws) ≡ 1) ↔ (InSpan q n (us ++ ws) x → ⊥))
    distance-row = cases (span-decide q laws n (us ++ ws) others x hx)
      where
        cases : Dec (InSpan q n (us ++ ws) x) → (distance q n (us ++ (x ∷ ws)) (us ++ ws) ≤ 1)
            × ((distance q n (us ++ (x ∷ ws)) (us ++ ws) ≡ 1) ↔ (InSpan q n (us ++ ws) x → ⊥))
        cases (yes s) =
            let held = dimension-held q laws n (us ++ ws) others x s in
            (omega (arith, apart), (λ e. absurd (omega (arith, apart)), λ outside. absurd (outside s)))
        cases (no outside) =
            let raised = dimension-raised q laws n (us ++ ws) others x hx outside in
            (omega (arith, apart), (λ e. outside, λ o. omega (arith, apart)))
