-- What demand 3 says of Draw, of a list of indexes that is drawn in one call and not refused.
--   batch-recovers == at a place that is answered 0 the part is a drawn matrix: Number gives the place's index back, and so do, as demand 3
--                     says, mixtures of its rows, by every list of calls on a receiver of any pack and by Receive
--   batch-otherwise == at a place that is not, the index is N or more, the answer is 5, and the part is as it was
--   batch-lists    == the list of 0 to N-1 is answered 0 throughout, and leaves every reduced matrix in exactly one place, strictly rising
-- Assumes nothing.
use Rattle.std.specs.Prelude.{◌≡◌, List, ◌⊎◌, ℕ, ◌*◌, ◌<◌, ◌≤◌, length, get_or, Ok}
use Rattle.std.proofs.Common.{ap, sym, ◌∙◌, subst, subst₂, inl, inr, lt_trans, arith}
use Rattle.basics.specs.Laws.Order.{le-or-lt}
use Rattle.basics.specs.Laws.Parts.{part_length}
use Rattle.counts.specs.Gaussian.{gaussian}
use Rattle.settings.specs.Laws.Accepted.{not-refused}
use Rattle.matrix.specs.Matrix.{Reduced}
use Rattle.linear.specs.Span.{All, Mixed, rows_of}
use Rattle.numbering.specs.Numbering.{before, index_in}
use Rattle.numbering.specs.Laws.Chosen.{chosen}
use Rattle.draw.specs.Draw.{draw_buffer}
use Rattle.drawing.specs.Drawing.{drawing}
use Rattle.draw_batch.specs.Batch.{batch_refusal, batch_matrices, batch_answers}
use Rattle.draw_batch.specs.Places.{part, Place}
use Rattle.draw_batch.proofs.Theorems.{order-6}
use Rattle.draw_batch.specs.Laws.BatchAccepted.{BatchAccepted, batch-accepted}
use Rattle.number.specs.Number.{number_of}
use Rattle.number.proofs.NumberAccepted.{reduced-numbered}
use Rattle.reduce.specs.Reduce.{most_rows}
use Rattle.receiver.specs.Receiver.{setup}
use Rattle.promise_recovery.specs.Calls.{Call, begun, accepted}
use Rattle.promise_recovery.specs.Demand.{Buffer, Listing, Recovery, Reception, Demand}
use Rattle.promise_recovery.proofs.Theorem.{demand-3}

module _ (q n k t : ℕ) (indexes matrices answers : List ℕ)
    (unrefused : batch_refusal q n k t (length indexes) (length matrices) (length answers) ≡ 0) where
  -- the place's index, its part before and after the call, and its answer
  abbrev index_at : ℕ → ℕ
  index_at place = get_or indexes place 0

  abbrev lent : ℕ → List ℕ
  lent place = part (k * n) place matrices

  abbrev left : ℕ → List ℕ
  left place = part (k * n) place (batch_matrices q n k t indexes matrices (length answers))

  abbrev answer : ℕ → ℕ
  answer place = get_or (batch_answers q n k t indexes (length matrices) answers) place 0

  whole : BatchAccepted q n k t (length indexes) (length matrices) (length answers)
  whole = batch-accepted q n k t (length indexes) (length matrices) (length answers) unrefused

  demand : (pack : ℕ) → Demand (setup q n k pack) t (drawing q n k t)
  demand pack = let c = chosen q n k t whole.choice in demand-3 (setup q n k pack) t (not-refused q n k c.settings) c.known

  placed : (place : ℕ) → place < length indexes → Place q n k t (index_at place) (lent place) (left place) (answer place)
  placed place h =
      let p = (order-6 q n k t indexes matrices answers).0 unrefused place h in
      record { leaves = p.0; answers = p.1; done = p.2; beyond = p.3 }

  sized : (place : ℕ) → place < length indexes → Buffer n k (lent place)
  sized place h = part_length (k * n) (length indexes) place matrices whole.sized h

  -- an answer of 0 is that of an index below N
  below : (place : ℕ) → place < length indexes → answer place ≡ 0 → index_at place < gaussian q n k
  below place h z = cases (le-or-lt (gaussian q n k) (index_at place))
    where
      cases : (gaussian q n k ≤ index_at place) ⊎ (index_at place < gaussian q n k) → index_at place < gaussian q n k
      cases (inl g) = absurd (omega (arith, z, ((placed place h).beyond g).0))
      cases (inr l) = l

  pub batch-recovers : (place : ℕ) → place < length indexes → answer place ≡ 0
      → (index_at place < gaussian q n k)
      × (number_of q n k t (left place) ≡ Ok (index_in t (index_at place)))
      × ((pack : ℕ) → let s = setup q n k pack in
      (cs : List Call) → All (Mixed q n (rows_of n k (left place))) (accepted (begun s) cs) → Recovery s t (index_at place) cs)
      × ((rows : List (List ℕ)) → length rows ≤ most_rows → All (Mixed q n (rows_of n k (left place))) rows
      → Reception q n k t (index_at place) rows)
  batch-recovers place h z =
      let l = below place h z in
      let e = (placed place h).leaves in
      let d = (placed place h).done l in (
        l,
        reduced-numbered q n k t (left place) whole.choice d.1 ∙ ap (λ x. Ok (index_in t x)) d.2,
        λ pack cs m. (demand pack).recovery (index_at place) l (lent place) (sized place h) cs
            (subst (λ x. All (Mixed q n (rows_of n k x)) (accepted (begun (setup q n k pack)) cs)) e m),
        λ rows few m. (demand 0).reception (index_at place) l (lent place) (sized place h) rows few
            (subst (λ x. All (Mixed q n (rows_of n k x)) rows) e m),
      )

  -- and no other index is refused
  above : (place : ℕ) → place < length indexes → (answer place ≡ 0 → ⊥) → gaussian q n k ≤ index_at place
  above place h refused = cases (le-or-lt (gaussian q n k) (index_at place))
    where
      cases : (gaussian q n k ≤ index_at place) ⊎ (index_at place < gaussian q n k) → gaussian q n k ≤ index_at place
      cases (inl g) = g
      cases (inr l) = absurd (refused ((placed place h).done l).0)

  pub batch-otherwise : (place : ℕ) → place < length indexes → (answer place ≡ 0 → ⊥)
      → (gaussian q n k ≤ index_at place) × (answer place ≡ 5) × (left place ≡ lent place)
  batch-otherwise place h refused =
      let g = above place h refused in
      let b = (placed place h).beyond g in
      (g, b.0, b.1)

  pub batch-lists : length indexes ≡ gaussian q n k → ((i : ℕ) → i < gaussian q n k → index_at i ≡ i)
      → ((i : ℕ) → i < gaussian q n k → (answer i ≡ 0) × Reduced q n k (left i))
      × ((m : List ℕ) → Reduced q n k m → (i : ℕ) × (i < gaussian q n k) × (left i ≡ m))
      × ((i j : ℕ) → i < gaussian q n k → j < gaussian q n k → left i ≡ left j → i ≡ j)
      × ((i j : ℕ) → i < j → j < gaussian q n k → before q n k t (left i) (left j))
  batch-lists all each = (
    λ i h. let d = (place i h).done (here i h) in (d.0, d.1),
    λ m r.
        let e = L.every m r in
        (e.0, e.1, is e.0 e.1 ∙ e.2 (lent e.0) (room e.0 e.1)),
    λ i j h g e. L.once i j h g (lent i) (lent j) (room i h) (room j g) (sym (is i h) ∙ e ∙ is j g),
    λ i j h g.
        let l = lt_trans h g in
        subst₂ (before q n k t) (sym (is i l)) (sym (is j g)) (L.rising i j h g (lent i) (lent j) (room i l) (room j g)),
  )
    where
      L : Listing q n k (drawing q n k t)
      L = (demand 0).listing

      inside : (i : ℕ) → i < gaussian q n k → i < length indexes
      inside i h = subst (λ x. i < x) (sym all) h

      place : (i : ℕ) → i < gaussian q n k → Place q n k t (index_at i) (lent i) (left i) (answer i)
      place i h = placed i (inside i h)

      here : (i : ℕ) → i < gaussian q n k → index_at i < gaussian q n k
      here i h = subst (λ x. x < gaussian q n k) (sym (each i h)) h

      room : (i : ℕ) → i < gaussian q n k → Buffer n k (lent i)
      room i h = sized i (inside i h)

      is : (i : ℕ) → i < gaussian q n k → left i ≡ draw_buffer q n k t i (lent i)
      is i h = (place i h).leaves ∙ ap (λ x. draw_buffer q n k t x (lent i)) (each i h)
