-- Order 6, place by place: what is proved of the definitions of draw_batch/Places.
--   place-alone   == what Draw alone gives, of a part of k×n bytes
--   parts-exactly == draw_parts are the bytes, as many as before, whose every part is what Draw leaves of it
--   place-drawn   == a list that is not refused gives each place what Draw alone gives it
--   order-6       == this and the refusals of the whole, without a record, under the order's words
-- Assumes nothing.
use Rattle.std.specs.Prelude.{◌≡◌, List, ◌↔◌, ℕ, ◌*◌, ◌<◌, ◌≤◌, length}
use Rattle.std.proofs.Math.Path.{ap, sym}
use Rattle.std.proofs.Common.{◌∙◌, subst, arith}
use Rattle.std.proofs.Math.Decide.{ℕ_discrete}
use Rattle.std.proofs.Math.ListN.{get_or}
use Rattle.basics.specs.Laws.Parts.{part_length, parts_same}
use Rattle.basics.specs.Laws.Table.{table_at}
use Rattle.basics.specs.Laws.TableSize.{tabulate-length}
use Rattle.refusal.specs.Refusal.{index_refusal}
use Rattle.refusal.specs.Laws.First.{done, kept, positive}
use Rattle.counts.specs.Gaussian.{gaussian}
use Rattle.matrix.specs.Matrix.{Reduced}
use Rattle.settings.specs.Laws.Accepted.{not-refused}
use Rattle.numbering.specs.Numbering.{choice_refusal, index_of, drawn}
use Rattle.numbering.specs.Laws.Chosen.{chosen}
use Rattle.numbering.specs.Laws.Either.{either}
use Rattle.draw.specs.Draw.{draw_refusal, draw_buffer}
use Rattle.draw.specs.Laws.DrawAccepted.{draw-unrefused, draw-beyond, draw-leaves, draw-kept}
use Rattle.draw_batch.specs.Batch.{batch_refusal, draw_parts, answer_at, draw_answers, batch_matrices, batch_answers}
use Rattle.draw_batch.specs.Laws.BatchAccepted.{batch-accepted, batch-unrefused, batch-choice, batch-length}
use Rattle.draw_batch.specs.Places.{part, Place}
use Rattle.draw_batch.proofs.DrawParts.{parts-length, parts_at}

-- what Draw alone gives, of a part of k×n bytes
pub place-alone : (q n k t i : ℕ) (before after : List ℕ) (answer : ℕ) → choice_refusal q n k t ≡ 0 → length before ≡ k * n
    → after ≡ draw_buffer q n k t i before → answer ≡ draw_refusal q n k t i (length before) → Place q n k t i before after answer
place-alone q n k t i before after answer c sized l a =
    record {
      leaves = l;
      answers = a;
      done =
          λ h.
          let z = draw-unrefused q n k t i (length before) c sized h in
          let e : drawn q n k t i ≡ after = draw-leaves q n k t i before z ∙ sym l in
          let o = either q n k t (not-refused q n k (chosen q n k t c).settings) in (
            a ∙ z,
            subst (Reduced q n k) e (o.drawn-reduced i h),
            ap (index_of q n k t) (sym e) ∙ o.index-of-drawn i h,
          );
      beyond =
          λ h.
          let z = draw-beyond q n k t i (length before) c sized h in
          (a ∙ z, l ∙ sym (draw-kept q n k t i before (λ o. positive index_refusal tt (sym z ∙ o))));
    }

pub parts-exactly : (q n k t : ℕ) (indexes bytes after : List ℕ) → length bytes ≡ length indexes * (k * n)
    → (after ≡ draw_parts q n k t indexes bytes)
    ↔ ((length after ≡ length bytes)
    × ((place : ℕ) → place < length indexes
    → part (k * n) place after ≡ draw_buffer q n k t (get_or indexes place 0) (part (k * n) place bytes)))
parts-exactly q n k t indexes bytes after sized = (
  λ e. (
    ap length e ∙ parts-length q n k t indexes bytes,
    λ place h. ap (part (k * n) place) e ∙ parts_at q n k t indexes bytes place h (omega (arith, sized)),
  ),
  λ h.
      parts_same (k * n) (length indexes) after (draw_parts q n k t indexes bytes)
      (h.0 ∙ sized)
      (parts-length q n k t indexes bytes ∙ sized)
      (λ place l. h.1 place l ∙ sym (parts_at q n k t indexes bytes place l (omega (arith, sized)))),
)

answers-length : (q n k t : ℕ) (indexes : List ℕ) → length (draw_answers q n k t indexes) ≡ length indexes
unfolding draw_answers
answers-length q n k t indexes = tabulate-length _ 0 (length indexes)

module _ (q n k t : ℕ) (indexes matrices answers : List ℕ) where
  -- what the call returns, and leaves in the two buffers
  abbrev returned : ℕ
  returned = batch_refusal q n k t (length indexes) (length matrices) (length answers)

  abbrev left : List ℕ
  left = batch_matrices q n k t indexes matrices (length answers)

  abbrev told : List ℕ
  told = batch_answers q n k t indexes (length matrices) answers

  left-drawn : returned ≡ 0 → left ≡ draw_parts q n k t indexes matrices
  unfolding batch_matrices
  left-drawn z = sym (done _ _ _ z)

  told-drawn : returned ≡ 0 → told ≡ draw_answers q n k t indexes
  unfolding batch_answers
  told-drawn z = sym (done _ _ _ z)

  untouched : (returned ≡ 0 → ⊥) → (left ≡ matrices) × (told ≡ answers)
  unfolding batch_matrices batch_answers
  untouched z = (sym (kept _ _ _ z), sym (kept _ _ _ z))

  pub place-drawn : returned ≡ 0 → (place : ℕ) → place < length indexes
      → Place q n k t (get_or indexes place 0) (part (k * n) place matrices) (part (k * n) place left) (get_or told place 0)
  unfolding draw_answers
  place-drawn z place h =
      let a = batch-accepted q n k t (length indexes) (length matrices) (length answers) z in
      let sized = part_length (k * n) (length indexes) place matrices a.sized h in
      place-alone q n k t (get_or indexes place 0) (part (k * n) place matrices) (part (k * n) place left) (get_or told place 0)
      a.choice sized
      (((parts-exactly q n k t indexes matrices left a.sized).0 (left-drawn z)).1 place h)
      (ap (λ x. get_or x place 0) (told-drawn z)
      ∙ table_at (answer_at q n k t indexes) (length indexes) place h
      ∙ ap (draw_refusal q n k t (get_or indexes place 0)) (sym sized))

  pub order-6 :
      -- (The call returns a number, and leaves the two lent buffers.) "Every place gets what Draw alone gives:
      (returned ≡ 0 → (place : ℕ) → place < length indexes
      → let i = get_or indexes place 0 in
      let before = part (k * n) place matrices in
      let after = part (k * n) place left in
      (after ≡ draw_buffer q n k t i before)
      × (get_or told place 0 ≡ draw_refusal q n k t i (length before))
      -- the matrix and 0, (the reduced matrix with this index, which is below N,)
      × (i < gaussian q n k → (get_or told place 0 ≡ 0) × Reduced q n k after × (index_of q n k t after ≡ i))
      -- or 5 with its part of the buffer untouched.
      × (gaussian q n k ≤ i → (get_or told place 0 ≡ 5) × (after ≡ before)))
      -- (An empty list is fine, and) it refuses as a whole, touching nothing,
      × ((returned ≡ 0 → ⊥) → (left ≡ matrices) × (told ≡ answers))
      -- with 1, 2, 3, 10,
      × ((choice_refusal q n k t ≡ 0 → ⊥) → returned ≡ choice_refusal q n k t)
      -- and then 4 if either buffer isn't exactly as long as the list needs." (It is done exactly when both are.)
      × (choice_refusal q n k t ≡ 0
      → ((returned ≡ 0) ↔ ((length matrices ≡ length indexes * (k * n)) × (length answers ≡ length indexes)))
      × ((returned ≡ 0 → ⊥) → returned ≡ 4))
      -- (Neither buffer grows or shrinks.)
      × (length left ≡ length matrices)
      × (length told ≡ length answers)
  order-6 = (
    λ z place h. let p = place-drawn z place h in (p.leaves, p.answers, p.done, p.beyond),
    untouched,
    batch-choice q n k t (length indexes) (length matrices) (length answers),
    λ c. (
      (
        λ z. let a = batch-accepted q n k t (length indexes) (length matrices) (length answers) z in (a.sized, a.counted),
        λ l.
            batch-unrefused q n k t (length indexes) (length matrices) (length answers)
            (record { choice = c; sized = l.0; counted = l.1 }),
      ),
      batch-length q n k t (length indexes) (length matrices) (length answers) c,
    ),
    (lengths (ℕ_discrete returned 0)).0,
    (lengths (ℕ_discrete returned 0)).1,
  )
    where
      lengths : Dec (returned ≡ 0) → (length left ≡ length matrices) × (length told ≡ length answers)
      lengths (yes z) =
          let a = batch-accepted q n k t (length indexes) (length matrices) (length answers) z in (
            ap length (left-drawn z) ∙ parts-length q n k t indexes matrices,
            ap length (told-drawn z) ∙ answers-length q n k t indexes ∙ sym a.counted,
          )
      lengths (no z) = let u = untouched z in (ap length u.0, ap length u.1)
