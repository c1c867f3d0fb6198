-- The dimensions of the joint and of the common space together are those of the two spaces together. The rows of the one list are taken
-- into the common rows and into the other list's rows side by side: a row raises both or neither.
--   raise-alike     == a row of the first span is in the span of vs and xs exactly where it is in that of the common rows and xs
--   dimensions-sum  == the law
-- Assumes nothing.
use Rattle.std.specs.Prelude.{◌≡◌}
use Rattle.std.proofs.Common.{ap, ◌∙◌, subst}
use Rattle.std.proofs.Math.Path.{sym}
use mathlib.Core.List.{List, [], ◌∷◌, ◌++◌, append-nil, append_assoc}
use Prim.Native.Nat.{ℕ, ◌+◌, ◌<◌, Fin}
use native.Mathlib.Omega.{arith}
use Rattle.basics.specs.Table.{tabulate}
use Rattle.field.specs.FieldLaws.{Laws}
use Rattle.linear.specs.Span.{All, none, more, Row, InSpan}
use Rattle.linear.specs.Eliminate.{dimension}
use Rattle.linear.specs.Laws.Every.{all_map, all_append}
use Rattle.linear.specs.Laws.Scalars.{Scalars, unit-times}
use Rattle.linear.specs.Laws.FieldSpan.{Spanned, spanned-same, spanned-mix, spanned-through}
use Rattle.linear.specs.Laws.Element.{scalars, element-zero, element-value, element-of}
use Rattle.linear.specs.Laws.Entries.{at, row-tabulate, at-tabulate}
use Rattle.linear.specs.Laws.Coefficients.{span-spanned, spanned-span}
use Rattle.linear.specs.Laws.Mixture.{span-row, span-each}
use Rattle.linear.specs.Laws.OneMore.{dimension-held, dimension-raised, span-decide}
use Rattle.spaces.specs.Spaces.{Within, common_rows, joint_dimension, common_dimension}
use Rattle.spaces.specs.Laws.Append.{Parted, spanned-part, part-spanned}
use Rattle.spaces.specs.Laws.Joint.{first-within, last_within, both-within}
use Rattle.spaces.specs.Laws.Growing.{joint-swap, joint-within}
use Rattle.spaces.specs.Laws.Common.{minus-cancels, spanned-beyond, common-rows, common-both, common-dimension}

module _ (q : ℕ) (laws : Laws q) (n : ℕ) (us vs : List (List ℕ)) (hu : All (Row q n) us) (hv : All (Row q n) vs) where
  open scalars q laws use {nought, unit, ◌⊕◌, ◌⊗◌, minus, plus_assoc, plus-nought}

  infixl 60 ◌⊕◌
  infixl 70 ◌⊗◌
  cs : List (List ℕ)
  cs = common_rows q n us vs

  hc : All (Row q n) cs
  unfolding cs
  hc = common-rows q laws n us vs hu hv

  common-within : Within q n cs vs
  unfolding Within cs
  common-within v s = ((common-both q laws n us vs hu hv v).0 s).1

  raise-down : (xs : List (List ℕ)) → All (Row q n) xs → (y : List ℕ) → InSpan q n (cs ++ xs) y → InSpan q n (vs ++ xs) y
  unfolding Within
  raise-down xs hx =
      both-within q laws n cs xs (vs ++ xs) hc hx (all_append hv hx) (λ v s. first-within q laws n vs xs hv hx v (common-within v s))
      (last_within q laws n vs xs hv hx)

  -- a spanned vector as a row
  vector_row : {rows : List (List ℕ)} {v : ℕ → Fin q} → All (Row q n) rows → Spanned (scalars q laws) (at q laws) rows v
      → (w : List ℕ) × Row q n w × ((j : ℕ) → at q laws w j ≡ v j)
  vector_row {v = v} h s = (
    tabulate (λ j. (v j).0) 0 n,
    row-tabulate q laws n (λ j. (v j).0) (λ j. (v j).1),
    λ j.
        at-tabulate q laws n (λ i. (v i).0)
        (λ i l. ap (λ x. x.0) (spanned-beyond q laws n us vs hu hv h s i l ∙ sym (element-zero q laws)) ∙ element-value q laws 0 below) j
        ∙ element-of q laws (v j),
  )
    where
      below : 0 < q
      below = omega (arith, laws.one_below)

  -- what is left of b + x when x is taken off
  take-off : (b x : Fin q) → unit ⊗ (b ⊕ x) ⊕ minus unit ⊗ x ≡ b
  take-off b x =
      ap (λ y. y ⊕ minus unit ⊗ x) (unit-times (scalars q laws) (b ⊕ x)) ∙ plus_assoc b x (minus unit ⊗ x)
      ∙ ap (λ y. b ⊕ y) (minus-cancels q laws n x) ∙ plus-nought b

  raise-up : (xs : List (List ℕ)) → All (Row q n) xs → All (InSpan q n us) xs → (y : List ℕ) → InSpan q n us y
      → InSpan q n (vs ++ xs) y → InSpan q n (cs ++ xs) y
  unfolding cs
  raise-up xs hx inside y hy s =
      spanned-span q laws n (all_append hc hx) (span-row q laws n us hu y hy)
      (part-spanned K see cs xs
      (record {
        first = p.first;
        last = p.last;
        first-spanned =
            spanned-same K see p.first
            (span-spanned q laws n w.0 hc ((common-both q laws n us vs hu hv w.0).1 (in-first, in-second))) (λ j. sym (w.2 j));
        last-spanned = p.last-spanned;
        sum = p.sum;
      }))
    where
      K : Scalars (Fin q)
      K = scalars q laws

      see : List ℕ → ℕ → Fin q
      see = at q laws

      p : Parted K see vs xs (see y)
      p = spanned-part K see vs xs (span-spanned q laws n y (all_append hv hx) s)

      w : (v : List ℕ) × Row q n v × ((j : ℕ) → see v j ≡ p.first j)
      w = vector_row hv p.first-spanned

      x-first : Spanned K see us p.last
      x-first = spanned-through K see (all_map (λ r i. span-spanned q laws n r hu i) inside) p.last-spanned

      in-first : InSpan q n us w.0
      in-first =
          spanned-span q laws n hu w.1
          (spanned-mix K see (see w.0) unit (minus unit) (span-spanned q laws n y hu hy) x-first
          (λ j. w.2 j ∙ sym (ap (λ z. unit ⊗ z ⊕ minus unit ⊗ p.last j) (p.sum j) ∙ take-off (p.first j) (p.last j))))

      in-second : InSpan q n vs w.0
      in-second = spanned-span q laws n hv w.1 (spanned-same K see (see w.0) p.first-spanned w.2)

  -- the law, once the rows xs are taken in on both sides
  Law : List (List ℕ) → Type 0
  Law xs = dimension q n (vs ++ xs) + dimension q n cs ≡ dimension q n (cs ++ xs) + dimension q n vs

  one_more : (xs : List (List ℕ)) → All (InSpan q n us) xs → (y : List ℕ) → InSpan q n us y → Law xs → Law (xs ++ (y ∷ []))
  unfolding Law
  one_more xs inside y hy law =
      rw (← append_assoc vs xs (y ∷ []), ← append_assoc cs xs (y ∷ []))
      (cases (span-decide q laws n (vs ++ xs) (all_append hv hx) y hr))
    where
      hx : All (Row q n) xs
      hx = all_map (span-row q laws n us hu) inside

      hr : Row q n y
      hr = span-row q laws n us hu y hy

      cases : Dec (InSpan q n (vs ++ xs) y)
          → dimension q n ((vs ++ xs) ++ (y ∷ [])) + dimension q n cs ≡ dimension q n ((cs ++ xs) ++ (y ∷ [])) + dimension q n vs
      cases (yes s) =
          omega (
            arith,
            law,
            dimension-held q laws n (vs ++ xs) (all_append hv hx) y s,
            dimension-held q laws n (cs ++ xs) (all_append hc hx) y (raise-up xs hx inside y hy s),
          )
      cases (no s) =
          omega (
            arith,
            law,
            dimension-raised q laws n (vs ++ xs) (all_append hv hx) y hr s,
            dimension-raised q laws n (cs ++ xs) (all_append hc hx) y hr (λ t. s (raise-down xs hx y t)),
          )

  all_more : (xs ys : List (List ℕ)) → All (InSpan q n us) xs → All (InSpan q n us) ys → Law xs → Law (xs ++ ys)
  all_more xs [] inside none law = subst Law (sym (append-nil xs)) law
  all_more xs (y ∷ ys) inside (more i is) law =
      subst Law (append_assoc xs (y ∷ []) ys)
      (all_more (xs ++ (y ∷ [])) ys (all_append inside (more i none)) is (one_more xs inside y i law))

  at_first : Law []
  unfolding Law
  at_first = rw (append-nil vs, append-nil cs) (omega arith)

  at_last : Law us
  at_last = all_more [] us none (span-each q laws n us hu) at_first

  pub dimensions-sum : joint_dimension q n us vs + common_dimension q n us vs ≡ dimension q n us + dimension q n vs
  unfolding Law joint_dimension cs Within
  dimensions-sum =
      omega (
        arith,
        at_last,
        joint-swap q laws n us vs hu hv,
        joint-within q laws n cs us hc hu (λ v s. ((common-both q laws n us vs hu hv v).0 s).0),
        common-dimension q laws n us vs hu hv,
      )
