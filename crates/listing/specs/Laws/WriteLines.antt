-- What the loop that writes lines keeps; no part of the meaning.
--   Filling q n k from to start buffer at index == the lines from `from` up to `index` stand at the front of the buffer, which was `start`
--   lines-short     == m lines have at most 276 m bytes
--   filling-start, -more, -end == it holds at the start and after one more line, and what it tells at the end
--   filling-small, -length == how far the buffer is filled at most, and that it keeps its length
--   filling-room    == 320 bytes are there for the next line
-- Assumes nothing.
use Rattle.std.specs.Prelude.{◌≡◌, List, ◌++◌, ℕ, zero, suc, ◌+◌, ◌*◌, ◌-◌, ◌≤◌, ◌<◌, length, take, drop}
use Rattle.std.proofs.Common.{ap, ap₂, ◌∙◌, sym, arith, length-append, length-drop, take_at, drop_at, length-take-le}
use Rattle.counts.specs.Gaussian.{gaussian}
use Rattle.settings.specs.Laws.Listable.{Listable}
use Rattle.listing.specs.Line.{line_room, longest_line}
use Rattle.listing.specs.Listing.{listing_line, lines_from}
use Rattle.listing.specs.Steps.{chunk_lines, chunk_size}
use Rattle.listing.specs.Laws.Listing.{lines_more}
use Rattle.listing.specs.Laws.Line.{line-short}
use Rattle.listing.specs.Front.{written}
use Rattle.listing.specs.Laws.Front.{written-length, written-more, written-part}

pub record Filling (q n k from to : ℕ) (start buffer : List ℕ) (at index : ℕ) : Type 0 where
  pub above : from ≤ index
  pub below : index ≤ to
  pub place : at ≡ length (lines_from q n k from (index - from))
  pub holds : buffer ≡ written (lines_from q n k from (index - from)) start

pub lines-short : (q n k i m : ℕ) → Listable q n k → i + m ≤ gaussian q n k → length (lines_from q n k i m) ≤ m * longest_line
unfolding lines_from
lines-short q n k i zero l h = omega arith
lines-short q n k i (suc m) l h =
    rw (length-append (listing_line q n k i) (lines_from q n k (suc i) m))
    (omega (arith, line-short q n k i l (omega arith), lines-short q n k (suc i) m l (omega arith)))

pub filling-start : (q n k from to : ℕ) (start : List ℕ) → from ≤ to → Filling q n k from to start start 0 from
unfolding lines_from
filling-start q n k from to start h =
    let none : from - from ≡ 0 = omega arith in
    record {
      above = omega arith;
      below = h;
      place = ap (λ m. length (lines_from q n k from m)) (sym none);
      holds = ap (λ m. written (lines_from q n k from m) start) (sym none);
    }

module _ (q n k from to : ℕ) (start buffer : List ℕ) (at index : ℕ) (f : Filling q n k from to start buffer at index)
    (l : Listable q n k) (inside : to ≤ gaussian q n k) (few : to - from ≤ chunk_lines) (room : chunk_size ≤ length start) where
  pub filling-small : at ≤ (index - from) * longest_line
  filling-small =
      let above : from ≤ index = f.above in
      let below : index ≤ to = f.below in
      let place = f.place in
      omega (arith, lines-short q n k from (index - from) l (omega arith))

  pub filling-length : length buffer ≡ length start
  filling-length =
      let above : from ≤ index = f.above in
      let below : index ≤ to = f.below in
      let place = f.place in
      ap length f.holds ∙ written-length start (lines_from q n k from (index - from)) (omega (arith, filling-small))

  -- w bytes, which are 320, are lent to the next line
  module _ (w : ℕ) (lent : w ≡ line_room) (more : index < to) where
    pub filling-room : (at + line_room ≤ length buffer) × (length (take w (drop at buffer)) ≡ line_room)
    filling-room =
        let above : from ≤ index = f.above in
        let size = filling-length in
        let far = filling-small in
        let room-left : at + line_room ≤ length buffer = omega arith in
        (room-left, length-take-le w (drop at buffer) (omega (arith, length-drop at buffer)) ∙ lent)

    pub filling-more : (size : ℕ) (part : List ℕ) → size ≡ length (listing_line q n k index)
        → part ≡ written (listing_line q n k index) (take w (drop at buffer))
        → Filling q n k from to start (take at buffer ++ (part ++ drop w (drop at buffer))) (at + size) (index + 1)
    filling-more size part e b =
        let line = listing_line q n k index in
        let lines = lines_from q n k from (index - from) in
        let above : from ≤ index = f.above in
        let count : index + 1 - from ≡ index - from + 1 = omega arith in
        let next : from + (index - from) ≡ index = omega arith in
        let further : lines_from q n k from (index + 1 - from) ≡ lines ++ line =
        ap (lines_from q n k from) count ∙ lines_more q n k from (index - from) ∙ ap (λ i. lines ++ listing_line q n k i) next in
        let front : take at buffer ≡ lines = ap (take at) f.holds ∙ take_at lines (drop (length lines) start) at (sym f.place) in
        let rest : drop at buffer ≡ drop (length lines) start = ap (drop at) f.holds
        ∙ drop_at lines (drop (length lines) start) at (sym f.place) in
        let short : length line ≤ length (take w (drop at buffer)) = omega
        (arith, line-short q n k index l (omega arith), filling-room.1) in
        record {
          above = omega arith;
          below = omega (arith, more);
          place = ap₂ ◌+◌ f.place e ∙ sym (length-append lines line) ∙ ap length (sym further);
          holds =
              ap₂ (λ x y. x ++ (y ++ drop w (drop at buffer))) front b
              ∙ ap (λ t. lines ++ t) (written-part (drop at buffer) line w short ∙ ap (written line) rest)
              ∙ written-more start lines line
              ∙ ap (λ t. written t start) (sym further);
        }

pub filling-end : (q n k from to : ℕ) (start buffer : List ℕ) (at index : ℕ) → Filling q n k from to start buffer at index → to ≤ index
    → (at ≡ length (lines_from q n k from (to - from))) × (buffer ≡ written (lines_from q n k from (to - from)) start)
filling-end q n k from to start buffer at index f h =
    let below : index ≤ to = f.below in
    let same : index ≡ to = omega arith in (
      f.place ∙ ap (λ i. length (lines_from q n k from (i - from))) same,
      f.holds ∙ ap (λ i. written (lines_from q n k from (i - from)) start) same,
    )
