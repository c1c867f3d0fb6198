-- Laws of the steps; no part of the meaning.
--   begun-malformed, -refused, -header == the state in which the program begins, by what its input is found to be
--   live-is, is_live, refused-dead, past-dead  == when lines are left
--   end_short, end-long, end-within == up to which index the next chunk lists
--   remaining-from   == where the settings are not refused, the lines from the index on are left
--   chunk-live, chunk-dead, next-live, next-dead == a step among the lines
--   dead-step, live-step == what it answers and leaves
--   after_none, after-further == the state after no step, and after one step more
-- Assumes nothing.
use Rattle.std.specs.Prelude.{Some, None, ◌≡◌, refl, List, [], ℕ, zero, suc, ◌+◌, ◌-◌, ◌≤◌, ◌<◌, eqb, ltb, length}
use Rattle.std.proofs.Math.Path.{ap}
use Rattle.std.proofs.Common.{◌∙◌, sym, ⊎_elim, add-one, arith, eq-eqb, ne_eqb, eqb-true, ltb-true, lt-ltb, le-ltb}
use Rattle.std.proofs.Math.Bool.{true, false, and-false, and-eq-true_iff}
use Rattle.basics.specs.Laws.Order.{le-or-lt}
use Rattle.refusal.specs.Refusal.{line_refusal}
use Rattle.settings.specs.Settings.{list_refusal}
use Rattle.settings_line.specs.SettingsLine.{parsed}
use Rattle.settings_line.specs.declared.Settings.{Settings}
use Rattle.listing.specs.Listing.{lines_from}
use Rattle.listing.specs.Steps.{refusal_of, count_of, lines_of}
use Rattle.listing.specs.Steps.{chunk_lines, live, lines_end, progress_to, remaining_lines, begun_for, begun, lines_chunk, lines_next}
use Rattle.listing.specs.Steps.{next_state}
use Rattle.listing.specs.Steps.{state_after}
use Rattle.listing.specs.Front.{written}
use Rattle.listing.specs.declared.Progress.{Progress}
use Rattle.listing.specs.declared.State.{State}
use Rattle.listing.specs.declared.State.TheVariants.{Header, Lines, Refused, Done}

pub live-is : (p : Progress) → live p ≡ true → (refusal_of p ≡ 0) × (p.index.0 < count_of p)
unfolding live
live-is p e =
    let t = (and-eq-true_iff (eqb (refusal_of p) 0) (ltb p.index.0 (count_of p))).0 e in
    (eqb-true (refusal_of p) 0 t.0, ltb-true p.index.0 (count_of p) t.1)

pub is_live : (p : Progress) → refusal_of p ≡ 0 → p.index.0 < count_of p → live p ≡ true
unfolding live
is_live p r h = rw (eq-eqb (refusal_of p) 0 r, lt-ltb p.index.0 (count_of p) h)

pub refused-dead : (p : Progress) → (refusal_of p ≡ 0 → ⊥) → live p ≡ false
unfolding live
refused-dead p r = rw (ne_eqb (refusal_of p) 0 r)

pub past-dead : (p : Progress) → count_of p ≤ p.index.0 → live p ≡ false
unfolding live
past-dead p h = rw (le-ltb p.index.0 (count_of p) h) (and-false (eqb (refusal_of p) 0))

pub end_short : (count i : ℕ) → count - i < chunk_lines → lines_end count i ≡ count
unfolding lines_end
end_short count i h = rw (lt-ltb (count - i) chunk_lines h, lines_end)

pub end-long : (count i : ℕ) → chunk_lines ≤ count - i → lines_end count i ≡ i + chunk_lines
unfolding lines_end
end-long count i h = rw (le-ltb (count - i) chunk_lines h, lines_end)

-- the end of the chunk lies past the index, within the count, at most 64 further, and all or 64 lines are listed
pub end-within : (count i : ℕ) → i < count
    → (i < lines_end count i) × (lines_end count i ≤ count) × (lines_end count i ≤ i + chunk_lines) ×
    (count - lines_end count i ≤ count - i - chunk_lines)
end-within count i h =
    ⊎_elim (λ long. rw (end-long count i long) (omega arith, omega arith, omega arith, omega arith))
    (λ short. rw (end_short count i short) (h, omega arith, omega arith, omega arith)) (le-or-lt chunk_lines (count - i))

pub remaining-live : (p : Progress) → live p ≡ true → remaining_lines p ≡ lines_of p p.index.0
    (count_of p - p.index.0)
unfolding remaining_lines
remaining-live p e = rw (e, remaining_lines)

pub remaining-dead : (p : Progress) → live p ≡ false → remaining_lines p ≡ []
unfolding remaining_lines
remaining-dead p e = rw (e, remaining_lines)

-- where the settings are not refused, the lines from the index on are left, none past the count
pub remaining-from : (p : Progress) → refusal_of p ≡ 0 → remaining_lines p ≡ lines_of p p.index.0
    (count_of p - p.index.0)
unfolding lines_from
remaining-from p r =
    ⊎_elim
    (λ past.
    let none : count_of p - p.index.0 ≡ 0 = omega arith in
    remaining-dead p (past-dead p past) ∙ sym (ap (lines_of p p.index.0) none))
    (λ within. remaining-live p (is_live p r within)) (le-or-lt (count_of p) p.index.0)

pub begun-malformed : (input : List ℕ) → parsed input ≡ None → begun input ≡ Refused line_refusal
unfolding begun
begun-malformed input e = ap begun_for e

module _ (input : List ℕ) (x : Settings) (e : parsed input ≡ Some x) where
  pub begun-refused : (list_refusal x.q x.n x.k ≡ 0 → ⊥) → begun input ≡ Refused (list_refusal x.q x.n x.k)
  unfolding begun
  begun-refused r =
      ap begun_for e
      ∙ ap (λ b. elim b [ true ↦ Header x | false ↦ Refused (list_refusal x.q x.n x.k) ])
      (ne_eqb (list_refusal x.q x.n x.k) 0 r)

  pub begun-header : list_refusal x.q x.n x.k ≡ 0 → begun input ≡ Header x
  unfolding begun
  begun-header r =
      ap begun_for e
      ∙ ap (λ b. elim b [ true ↦ Header x | false ↦ Refused (list_refusal x.q x.n x.k) ])
      (eq-eqb (list_refusal x.q x.n x.k) 0 r)

pub chunk-live : (p : Progress) → live p ≡ true
    → lines_chunk p ≡ lines_of p p.index.0 (lines_end (count_of p) p.index.0 - p.index.0)
unfolding lines_chunk
chunk-live p e = rw (e, lines_chunk)

pub chunk-dead : (p : Progress) → live p ≡ false → lines_chunk p ≡ []
unfolding lines_chunk
chunk-dead p e = rw (e, lines_chunk)

pub next-live : (p : Progress) → live p ≡ true → lines_next p ≡ Lines (progress_to p (lines_end (count_of p) p.index.0))
unfolding lines_next
next-live p e = rw (e, lines_next)

pub next-dead : (p : Progress) → live p ≡ false → lines_next p ≡ Done
unfolding lines_next
next-dead p e = rw (e, lines_next)

pub dead-step : (p : Progress) (chunk : List ℕ) → live p ≡ false
    → (Done ≡ lines_next p) × (0 ≡ length (lines_chunk p)) × (chunk ≡ written (lines_chunk p) chunk)
dead-step p chunk e = (sym (next-dead p e), sym (ap length (chunk-dead p e)), ap (λ t. written t chunk) (sym (chunk-dead p e)))

pub live-step : (p : Progress) (chunk : List ℕ) (to size : ℕ) (after : List ℕ) → live p ≡ true → to ≡ lines_end (count_of p) p.index.0
    → size ≡ length (lines_of p p.index.0 (to - p.index.0))
    → after ≡ written (lines_of p p.index.0 (to - p.index.0)) chunk
    → (Lines (progress_to p to) ≡ lines_next p) × (size ≡ length (lines_chunk p)) × (after ≡ written (lines_chunk p) chunk)
live-step p chunk to size after e t s a =
    let lines : lines_of p p.index.0 (to - p.index.0) ≡ lines_chunk p =
    ap (λ u. lines_of p p.index.0 (u - p.index.0)) t ∙ sym (chunk-live p e) in
    (ap (λ u. Lines (progress_to p u)) t ∙ sym (next-live p e), s ∙ ap length lines, a ∙ ap (λ u. written u chunk) lines)

pub after_none : (s : State) → s ≡ state_after 0 s
unfolding state_after
after_none s = refl

after_next : (m : ℕ) (s : State) → state_after (suc m) s ≡ next_state (state_after m s)
unfolding state_after
after_next zero s = refl
after_next (suc m) s = after_next m (next_state s)

pub after-further : (m : ℕ) (begin s : State) → s ≡ state_after m begin → next_state s ≡ state_after (m + 1) begin
after-further m begin s e = rw add-one (ap next_state e ∙ sym (after_next m begin))
