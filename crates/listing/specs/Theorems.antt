-- The chunks of the steps, one after the other, are what the program is to write, and the steps end.
--   begun-remaining  == at the beginning all of the output is still to be written
--   chunk-remaining  == a step writes the front of what is still to be written, and leaves the rest
--   chunk-empty      == a step writes nothing only where nothing is left, and then it ends
--   finished         == after 1,026 steps every state is Done
--   output-written   == where some steps reach Done, their chunks are the output
--   chunks-are-the-output == the chunks of 1,026 steps are the output, for every input
--   output-bounded   == the first 13 bytes of the input decide the output
--   program-writes-the-output == the chunks of 1,026 steps begun with the first 13 bytes are the output of the whole input
--   line-fits        == "a listing line, at most 276 bytes, always fits" in the lent 320
-- Assumes nothing.
use Rattle.std.specs.Prelude.{Option, Some, None, ◌≡◌, refl, Bool, true, false, List, [], ◌++◌, ℕ, zero, suc, ◌+◌, ◌*◌, ◌-◌, ◌≤◌, ◌<◌, eqb, length, take}
use Rattle.std.proofs.Common.{ap, ap₂, ◌∙◌, sym, append_assoc, append-nil, arith, eqb-true, length-append}
use Rattle.std.proofs.Math.Nat.{sub-zero}
use Rattle.counts.specs.Gaussian.{gaussian}
use Rattle.settings.specs.Settings.{list_refusal}
use Rattle.settings.specs.Laws.Listable.{listable}
use Rattle.settings_line.specs.SettingsLine.{decisive, parsed}
use Rattle.settings_line.specs.declared.Settings.{Settings}
use Rattle.settings_line.specs.Theorems.{parsed-bounded}
use Rattle.text.specs.Piece.{fits}
use Rattle.text.proofs.Theorems.{piece-fits}
use Rattle.listing.specs.Line.{line_room, longest_line}
use Rattle.listing.specs.Listing.{listing_line, lines_from, column_names, header, refused_word, refused_line, output_for}
use Rattle.listing.specs.Listing.{listing_output}
use Rattle.listing.specs.Laws.Listing.{lines-append}
use Rattle.listing.specs.Laws.Line.{line-short, line-nonempty}
use Rattle.listing.specs.Laws.Steps.{live-is, end-within, remaining-live, remaining-dead, remaining-from, chunk-live}
use Rattle.listing.specs.Laws.Steps.{chunk-dead, next-live, next-dead, past-dead}
use Rattle.listing.specs.Steps.{count_of, lines_of, chunk_lines, most_steps, live, lines_end, progress_to, started, remaining_lines, remaining, begun_for}
use Rattle.listing.specs.Steps.{begun}
use Rattle.listing.specs.Steps.{lines_chunk, chunk_of, lines_next, next_state, state_after, chunks}
use Rattle.listing.specs.declared.Progress.{Progress}
use Rattle.listing.specs.declared.State.{State}
use Rattle.listing.specs.declared.State.TheVariants.{Header, Lines, Refused, Done}

output-for : (found : Option Settings) → remaining (begun_for found) ≡ output_for found
output-for None = refl
output-for (Some x) = cases (eqb (list_refusal x.q x.n x.k) 0) refl
  where
    cases : (b : Bool) → eqb (list_refusal x.q x.n x.k) 0 ≡ b
        → remaining (elim b [ true ↦ Header x | false ↦ Refused (list_refusal x.q x.n x.k) ])
        ≡ elim b [
          | true ↦ header ++ lines_from x.q x.n x.k 0 (gaussian x.q x.n x.k)
          | false ↦ refused_line (list_refusal x.q x.n x.k)
        ]
    cases true e =
        ap (λ t. header ++ t)
        (remaining-from (started x) (eqb-true (list_refusal x.q x.n x.k) 0 e)
        ∙ ap (lines_from x.q x.n x.k 0) (sub-zero (gaussian x.q x.n x.k)))
    cases false e = refl

pub begun-remaining : (input : List ℕ) → remaining (begun input) ≡ listing_output input
unfolding begun listing_output
begun-remaining input = output-for (parsed input)

-- a step among the lines
lines-remaining : (p : Progress) (b : Bool) → live p ≡ b → lines_chunk p ++ remaining (lines_next p) ≡ remaining_lines p
lines-remaining p false e = rw (chunk-dead p e, next-dead p e, remaining-dead p e)
lines-remaining p true e =
    let end = lines_end (count_of p) p.index.0 in
    let known = live-is p e in
    let within = end-within (count_of p) p.index.0 known.1 in
    let lines = lines_of p in
    let place : p.index.0 + (end - p.index.0) ≡ end = omega arith in
    let size : (end - p.index.0) + (count_of p - end) ≡ count_of p - p.index.0 = omega arith in
    ap₂ (λ c s. c ++ remaining s) (chunk-live p e) (next-live p e)
    ∙ ap (λ t. lines p.index.0 (end - p.index.0) ++ t)
    (remaining-from (progress_to p end) known.0 ∙ ap (λ j. lines j (count_of p - end)) (sym place))
    ∙ sym (lines-append p.settings.q p.settings.n p.settings.k p.index.0 (end - p.index.0) (count_of p - end))
    ∙ ap (lines p.index.0) size
    ∙ sym (remaining-live p e)

pub chunk-remaining : (s : State) → chunk_of s ++ remaining (next_state s) ≡ remaining s
chunk-remaining (Header x) = refl
chunk-remaining (Lines p) = lines-remaining p (live p) refl
chunk-remaining (Refused r) = append-nil (refused_line r)
chunk-remaining Done = refl

some-lines : (q n k i m : ℕ) → 1 ≤ m → length (lines_from q n k i m) ≡ 0 → ⊥
unfolding lines_from
some-lines q n k i zero h z = omega arith
some-lines q n k i (suc m) h z = omega (arith, line-nonempty q n k i, simp length-append at z)

lines-empty : (p : Progress) (b : Bool) → live p ≡ b → length (lines_chunk p) ≡ 0 → (remaining_lines p ≡ []) × (lines_next p ≡ Done)
lines-empty p false e z = (remaining-dead p e, next-dead p e)
lines-empty p true e z =
    let within = end-within (count_of p) p.index.0 (live-is p e).1 in
    absurd
    (some-lines p.settings.q p.settings.n p.settings.k p.index.0 (lines_end (count_of p) p.index.0 - p.index.0) (omega arith)
    (sym (ap length (chunk-live p e)) ∙ z))

pub chunk-empty : (s : State) → length (chunk_of s) ≡ 0 → (remaining s ≡ []) × (next_state s ≡ Done)
unfolding column_names header refused_word refused_line
chunk-empty (Header x) z = absurd (omega arith)
chunk-empty (Lines p) z = lines-empty p (live p) refl z
chunk-empty (Refused r) z = let size = simp length-append at z in absurd (omega arith)
chunk-empty Done z = (refl, refl)

after-done : (m : ℕ) → state_after m Done ≡ Done
unfolding state_after
after-done zero = refl
after-done (suc m) = after-done m

after-step : (m : ℕ) (s : State) → state_after (suc m) s ≡ state_after m (next_state s)
unfolding state_after
after-step m s = refl

-- m chunks of 64 lines are enough for what is left
after-lines : (m : ℕ) (p : Progress) → count_of p - p.index.0 ≤ m * chunk_lines → state_after (suc m) (Lines p) ≡ Done
after-lines zero p h = after-step 0 (Lines p) ∙ ap (state_after 0) (next-dead p (past-dead p (omega arith))) ∙ after-done 0
after-lines (suc m) p h = after-step (suc m) (Lines p) ∙ cases (live p) refl (λ p g. after-lines m p g)
  where
    cases : (b : Bool) → live p ≡ b → ((r : Progress) → count_of r - r.index.0 ≤ m * chunk_lines → state_after (suc m) (Lines r) ≡ Done)
        → state_after (suc m) (lines_next p) ≡ Done
    cases false e ih = ap (state_after (suc m)) (next-dead p e) ∙ after-done (suc m)
    cases true e ih =
        let within = end-within (count_of p) p.index.0 (live-is p e).1 in
        ap (state_after (suc m)) (next-live p e) ∙ ih (progress_to p (lines_end (count_of p) p.index.0)) (omega arith)

after_any : (m : ℕ) (p : Progress) (b : Bool) → live p ≡ b → 1024 ≤ m → state_after (suc m) (Lines p) ≡ Done
after_any m p true e h = after-lines m p (omega (arith, (listable p.settings.q p.settings.n p.settings.k (live-is p e).0).few))
after_any m p false e h = after-step m (Lines p) ∙ ap (state_after m) (next-dead p e) ∙ after-done m

pub finished : (s : State) → state_after most_steps s ≡ Done
finished (Header x) = after-step 1025 (Header x) ∙ after_any 1024 (started x) (live (started x)) refl (omega arith)
finished (Lines p) = after_any 1025 p (live p) refl (omega arith)
finished (Refused r) = after-step 1025 (Refused r) ∙ after-done 1025
finished Done = after-done most_steps

chunks-remaining : (m : ℕ) (s : State) → chunks m s ++ remaining (state_after m s) ≡ remaining s
unfolding chunks state_after
chunks-remaining zero s = refl
chunks-remaining (suc m) s =
    append_assoc (chunk_of s) (chunks m (next_state s)) (remaining (state_after m (next_state s)))
    ∙ ap (λ t. chunk_of s ++ t) (chunks-remaining m (next_state s))
    ∙ chunk-remaining s

pub output-written : (m : ℕ) (input : List ℕ) → state_after m (begun input) ≡ Done → chunks m (begun input) ≡ listing_output input
output-written m input done =
    sym (append-nil (chunks m (begun input)))
    ∙ ap (λ s. chunks m (begun input) ++ remaining s) (sym done)
    ∙ chunks-remaining m (begun input)
    ∙ begun-remaining input

pub chunks-are-the-output : (input : List ℕ) → chunks most_steps (begun input) ≡ listing_output input
chunks-are-the-output input = output-written most_steps input (finished (begun input))

pub line-fits : (q n k i : ℕ) → list_refusal q n k ≡ 0 → i < gaussian q n k
    → (length (listing_line q n k i) ≤ longest_line) × (fits line_room 0 (listing_line q n k i) ≡ true)
line-fits q n k i r inside =
    let short = line-short q n k i (listable q n k r) inside in
    (short, piece-fits line_room 0 (listing_line q n k i) (omega (arith, short)))

-- the program reads at most 13 bytes of its input
pub output-bounded : (input : List ℕ) → listing_output (take decisive input) ≡ listing_output input
unfolding listing_output
output-bounded input = ap output_for (parsed-bounded input)

pub program-writes-the-output : (input : List ℕ) → chunks most_steps (begun (take decisive input)) ≡ listing_output input
program-writes-the-output input = chunks-are-the-output (take decisive input) ∙ output-bounded input
