-- The leads of rows; no part of the meaning.
--   lead-inside   == every reduced row has a lead
--   lead-cleared  == clearing a later column in a row leaves its lead
--   leads-known   == the pivots of a matrix, as a list, are the leads of its rows
--   leads-among  == w's lead stands among those of the rows as w stands among the rows
--   raised-leads  == what `raise` makes of a list of leads with one more
-- Assumes nothing.
use Rattle.std.specs.Prelude.{◌≡◌, ◌⊎◌, ℕ, zero, suc, ◌+◌, ◌*◌, ◌-◌, ◌≤◌, ◌<◌, length, set}
use Rattle.std.proofs.Math.Path.{refl}
use Rattle.std.proofs.Common.{ap, ap₂, sym, ◌∙◌, subst, inl, inr, mul-one, arith, lt-ltb, le-ltb, length-append, length-drop, length-set, length-take-le, take_at, take-add, take-take, take-suc, drop_at, drop-cons, get_or-set_same}
use mathlib.Core.List.{List, [], ◌∷◌, ◌++◌, append_assoc}
use Rattle.std.proofs.Math.ListN.{get_or, take, drop}
use Rattle.std.proofs.lemmas.List.{take-set-le, drop-set-add}
use Rattle.basics.specs.Laws.Order.{le-or-lt}
use Rattle.field.specs.FieldLaws.{Laws}
use Rattle.matrix.specs.Matrix.{pivot}
use Rattle.linear.specs.Laws.InsertMany.{Kept}
use Rattle.linear.specs.Laws.ReducedRows.{rows-sized}
use Rattle.linear.specs.Laws.FlatMatrix.{rows-length, join-pivot}
use Rattle.linear.specs.Span.{All, none, more, Row, rows_of}
use Rattle.linear.specs.Laws.FlatRows.{rows_at, rows_last, lead-part}
use Rattle.linear.specs.Eliminate.{lead_of, eliminate, put_among, join}
use Rattle.linear.specs.Laws.Element.{scalars}
use Rattle.linear.specs.Laws.Elimination.{eliminate-row, eliminate-takes}
use Rattle.linear.specs.Laws.Entries.{at, zero-at, at_zero}
use Rattle.matrix.specs.Laws.Lead.{lead-unique}
use Rattle.linear.specs.Laws.Residual.{taken_off-kept}
use Rattle.linear.specs.Laws.RowLead.{lead_of-le, at_before, at-lead-nonzero}
use Rattle.rows.specs.Laws.Steps.{part, raised}
use Rattle.reduction.specs.Laws.Steps.{leads, above}

leads-append : (n : ℕ) (rs : List (List ℕ)) (r : List ℕ) → leads n (rs ++ (r ∷ [])) ≡ leads n rs ++ (lead_of n r ∷ [])
unfolding leads
leads-append n [] r = refl
leads-append n (s ∷ rs) r = ap (λ (x : List ℕ). lead_of n s ∷ x) (leads-append n rs r)

pub leads-known : (n d : ℕ) (m pivots : List ℕ) → d ≤ length pivots → ((i : ℕ) → i < d → get_or pivots i 0 ≡ pivot n m i)
    → take d pivots ≡ leads n (rows_of n d m)
unfolding leads rows_of
leads-known n zero m pivots room known = refl
leads-known n (suc d) m pivots room known =
    take-suc pivots d 0 room
    ∙ ap₂ (λ x y. x ++ (y ∷ [])) (leads-known n d m pivots (omega arith) (λ i h. known i (omega arith)))
    (known d (omega arith) ∙ lead-part n m (d * n))
    ∙ sym (ap (leads n) (rows_last n m d) ∙ leads-append n (rows_of n d m) (part n (d * n) m))

module _ (q : ℕ) (laws : Laws q) (n : ℕ) (w : List ℕ) (hw : Row q n w) where
  module _ (r : List ℕ) (hr : Row q n r) (h : lead_of n r < lead_of n w) where
    cleared_at : (j : ℕ) → j < lead_of n w → at q laws (eliminate q n w r) j ≡ at q laws r j
    cleared_at j b =
        taken_off-kept (scalars q laws) (at q laws) (at q laws r (lead_of n w)) (eliminate-takes q laws n w r hw hr) j
        (at_before q laws n w j b)

    pub lead-cleared : lead_of n (eliminate q n w r) ≡ lead_of n r
    unfolding lead_of
    lead-cleared =
        lead-unique (λ j. get_or (eliminate q n w r) j 0) n (lead_of n r) (lead_of-le q laws n r)
        (λ j b. zero-at q laws n (eliminate-row q laws n w r hw hr) j (cleared_at j (omega arith) ∙ at_before q laws n r j b))
        (λ b z. at-lead-nonzero q laws n r hr b (sym (cleared_at (lead_of n r) h) ∙ at_zero q laws n (eliminate q n w r) (lead_of n r) z))

  pub leads-among : {rs : List (List ℕ)} → All (Row q n) rs
      → leads n (put_among q n rs w) ≡ take (above n rs w) (leads n rs) ++ (lead_of n w ∷ drop (above n rs w) (leads n rs))
  unfolding leads put_among above
  leads-among none = refl
  leads-among (more {x = r} {xs = rs} h hs) = cases (le-or-lt (lead_of n w) (lead_of n r)) (leads-among hs)
    where
      cases : (lead_of n w ≤ lead_of n r) ⊎ (lead_of n r < lead_of n w)
          → leads n (put_among q n rs w) ≡ take (above n rs w) (leads n rs) ++ (lead_of n w ∷ drop (above n rs w) (leads n rs))
          → leads n (put_among q n (r ∷ rs) w) ≡ take (above n (r ∷ rs) w) (leads n (r ∷ rs))
          ++ (lead_of n w ∷ drop (above n (r ∷ rs) w) (leads n (r ∷ rs)))
      cases (inl l) e = rw (le-ltb (lead_of n r) (lead_of n w) l) refl
      cases (inr l) e =
          rw (lt-ltb (lead_of n r) (lead_of n w) l) (ap₂ (λ (x : ℕ) (y : List ℕ). x ∷ y) (lead-cleared r h l) e)

-- p after d leads, raised to `at`
pub raised-leads : (d at p : ℕ) (pivots : List ℕ) → at ≤ d → d < length pivots
    → take (d + 1) (raised 1 (d * 1) (at * 1) (set pivots d p)) ≡ take at (take d pivots) ++ (p ∷ drop at (take d pivots))
raised-leads d at p pivots h room =
    ap₂ (λ x y. take (d + 1) (raised 1 x y new)) (mul-one d) (mul-one at)
    ∙ ap (λ x. take (d + 1) (take at new ++ x)) (sym (append_assoc (part 1 d new) (part (d - at) at new) (drop (d + 1) new)))
    ∙ ap (take (d + 1)) (sym (append_assoc (take at new) (part 1 d new ++ part (d - at) at new) (drop (d + 1) new)))
    ∙ ap (λ x. take (d + 1) (x ++ drop (d + 1) new)) whole ∙ take_at (old ++ (p ∷ rest)) (drop (d + 1) new) (d + 1) sized
  where
    new : List ℕ
    new = set pivots d p

    old : List ℕ
    old = take at (take d pivots)

    rest : List ℕ
    rest = drop at (take d pivots)

    split : at + (d - at) ≡ d
    split = omega arith

    front : take at new ≡ old
    front = take-set-le at pivots d p h ∙ sym (take-take at d pivots h)

    middle : part 1 d new ≡ p ∷ []
    middle =
        ap (take 1) (drop-cons new d 0 (omega (arith, length-set pivots d p)))
        ∙ ap (λ (x : ℕ). x ∷ []) (get_or-set_same pivots d p 0 room)

    back : part (d - at) at new ≡ rest
    back =
        ap (λ x. part (d - at) at (set pivots x p)) (sym split) ∙ ap (take (d - at)) (drop-set-add at pivots (d - at) p)
        ∙ take-set-le (d - at) (drop at pivots) (d - at) p (omega arith)
        ∙ sym
        (ap (λ x. drop at (take x pivots)) (sym split) ∙ ap (drop at) (take-add at (d - at) pivots)
        ∙ drop_at (take at pivots) (take (d - at) (drop at pivots)) at (length-take-le at pivots (omega arith)))

    whole : take at new ++ (part 1 d new ++ part (d - at) at new) ≡ old ++ (p ∷ rest)
    whole = ap₂ (λ x y. x ++ (y ++ part (d - at) at new)) front middle ∙ ap (λ (x : List ℕ). old ++ (p ∷ x)) back

    sized : length (old ++ (p ∷ rest)) ≡ d + 1
    sized =
        length-append old (p ∷ rest)
        ∙ omega (
          arith,
          length-take-le at (take d pivots) (omega (arith, length-take-le d pivots (omega arith))),
          length-drop at (take d pivots),
          length-take-le d pivots (omega arith),
        )

module _ (q n d : ℕ) (m : List ℕ) (kept : Kept q n (rows_of n d m)) where
  pivot-is : (i : ℕ) → i < d → pivot n (join (rows_of n d m)) i ≡ lead_of n (take n (drop (i * n) m))
  pivot-is i h = join-pivot n (rows-sized q n kept.rows) i (omega (arith, rows-length n d m)) ∙ ap (lead_of n) (rows_at n m d i h)

  pub lead-inside : (i : ℕ) → i < d → lead_of n (take n (drop (i * n) m)) < n
  lead-inside i h = subst (λ x. x < n) (pivot-is i h) (kept.reduced.no-zero-row i (omega (arith, rows-length n d m)))
