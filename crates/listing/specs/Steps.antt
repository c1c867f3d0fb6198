-- The listing written chunk by chunk: a state, what is still to be written in it, and one step. The settings in a state are tested anew at
-- each step, so that a state which no step made does no harm: of settings that are refused no line is left.
--   chunk_lines, chunk_size == a chunk has at most 64 lines, and room for them: 320 bytes for each
--   most_steps       == 1,026: the header, 1,024 chunks of lines, and the empty chunk that ends the listing
--   started x, progress_to p i == a listing of the settings x at its first line; p at the line of the index i
--   refusal_of p, count_of p, lines_of p == the refusal of its settings, the count of their spaces, and their lines
--   live p          == the settings of p are not refused, and its index is below their count
--   lines_end N i    == the index up to which the next chunk lists: 64 lines further than i, or all
--   remaining s     == all that is still to be written in the state s; remaining_lines p, among the lines
--   begun_for, begun == the state in which the program begins
--   chunk_of s, lines_chunk p == what a step writes in the state s: the line of a refusal, the header, up to 64 lines, or nothing at the end;
--                      among the lines
--   next_state s, lines_next p == the state after it; among the lines
--   state_after m s, chunks m s == the state after m steps, and what they write
-- Theorems has `chunk-remaining`, `chunk-empty`, `finished` and `chunks-are-the-output`.
-- Assumes nothing.
use Rattle.std.specs.Prelude.{Option, Some, None, Bool, true, false, ◌&&◌, List, [], ◌++◌, ℕ, zero, suc, ◌+◌, ◌*◌, ◌-◌, eqb, ltb}
use Rattle.refusal.specs.Refusal.{line_refusal}
use Rattle.counts.specs.Gaussian.{gaussian}
use Rattle.settings.specs.Settings.{list_refusal}
use Rattle.settings_line.specs.SettingsLine.{parsed}
use Rattle.settings_line.specs.declared.Settings.{Settings}
use Rattle.listing.specs.Line.{line_room}
use Rattle.listing.specs.Listing.{lines_from, header, refused_line}
use Rattle.listing.specs.declared.Progress.{Progress}
use Rattle.listing.specs.declared.State.{State}
use Rattle.listing.specs.declared.State.TheVariants.{Header, Lines, Refused, Done}

abbrev pub chunk_lines : ℕ
chunk_lines = 64

abbrev pub chunk_size : ℕ
chunk_size = chunk_lines * line_room

abbrev pub most_steps : ℕ
most_steps = 1026

abbrev pub refusal_of : Progress → ℕ
refusal_of p = list_refusal p.settings.q p.settings.n p.settings.k

abbrev pub count_of : Progress → ℕ
count_of p = gaussian p.settings.q p.settings.n p.settings.k

abbrev pub lines_of : Progress → ℕ → ℕ → List ℕ
lines_of p = lines_from p.settings.q p.settings.n p.settings.k

unfoldable pub live : Progress → Bool
live p = eqb (refusal_of p) 0 && ltb p.index.0 (count_of p)

-- a chunk's lines further than the index, and no further than the count
unfoldable pub lines_end : ℕ → ℕ → ℕ
lines_end count index = elim (ltb (count - index) chunk_lines) [ true ↦ count | false ↦ index + chunk_lines ]

abbrev pub progress_to : Progress → ℕ → Progress
progress_to p index = record { settings = p.settings; index = record { 0 = index } }

abbrev pub started : Settings → Progress
started x = record { settings = x; index = record { 0 = 0 } }

unfoldable pub remaining_lines : Progress → List ℕ
remaining_lines p =
    elim (live p) [
      | true ↦ lines_of p p.index.0 (count_of p - p.index.0)
      | false ↦ []
    ]

abbrev pub remaining : State → List ℕ
remaining (Header x) = header ++ remaining_lines (started x)
remaining (Lines p) = remaining_lines p
remaining (Refused r) = refused_line r
remaining Done = []

abbrev pub begun_for : Option Settings → State
begun_for None = Refused line_refusal
begun_for (Some x) =
    elim (eqb (list_refusal x.q x.n x.k) 0) [ true ↦ Header x | false ↦ Refused (list_refusal x.q x.n x.k) ]

unfoldable pub begun : List ℕ → State
begun input = begun_for (parsed input)

unfoldable pub lines_chunk : Progress → List ℕ
lines_chunk p =
    elim (live p) [
      | true ↦ lines_of p p.index.0 (lines_end (count_of p) p.index.0 - p.index.0)
      | false ↦ []
    ]

abbrev pub chunk_of : State → List ℕ
chunk_of (Header x) = header
chunk_of (Lines p) = lines_chunk p
chunk_of (Refused r) = refused_line r
chunk_of Done = []

unfoldable pub lines_next : Progress → State
lines_next p =
    elim (live p) [ true ↦ Lines (progress_to p (lines_end (count_of p) p.index.0)) | false ↦ Done ]

abbrev pub next_state : State → State
next_state (Header x) = Lines (started x)
next_state (Lines p) = lines_next p
next_state (Refused r) = Done
next_state Done = Done

unfoldable pub state_after : ℕ → State → State
state_after zero s = s
state_after (suc m) s = state_after m (next_state s)

unfoldable pub chunks : ℕ → State → List ℕ
chunks zero s = []
chunks (suc m) s = chunk_of s ++ chunks m (next_state s)
