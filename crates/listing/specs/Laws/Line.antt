-- Laws of a line; no part of the meaning.
--   word_line s   == a line of one word
--   line_text-length == how many bytes a line has: those of its two numbers and its rows, two commas and a line feed
--   line-short   == a line of listable settings has at most 276 bytes
--   drawn-is-reduced, ferrers-inside == the drawn matrix is reduced, and its Ferrers index is below the count
--   line-nonempty == no line is empty
--   digit-rows   == the drawn matrix is one of decimal digits, as its text asks, whatever stands behind it
-- Assumes nothing.
use Rattle.std.specs.Prelude.{◌≡◌, List, [], ◌∷◌, ◌++◌, ℕ, ◌+◌, ◌*◌, ◌≤◌, ◌<◌, length}
use Rattle.std.proofs.Common.{ap, ◌∙◌, ⊎_elim, mul-le-mul, arith, length-append}
use Rattle.std.proofs.Math.ListN.{get_or-append}
use Rattle.basics.specs.Laws.Order.{le-or-lt}
use Rattle.field.specs.Laws.Small.{size_small}
use Rattle.matrix.specs.Matrix.{Reduced}
use Rattle.counts.specs.Gaussian.{gaussian}
use Rattle.counts.specs.Laws.GaussianLaws.{gaussian-whole}
use Rattle.settings.specs.Laws.Accepted.{Accepted}
use Rattle.settings.specs.Settings.{greatest_listing}
use Rattle.settings.specs.Laws.Listable.{Listable}
use Rattle.extended.specs.Drawn.{drawn_extended}
use Rattle.extended.specs.Laws.Theorems.{drawn-reduced}
use Rattle.ferrers.specs.Ferrers.{ferrers_index}
use Rattle.ferrers.proofs.Theorems.{index-below-count}
use Rattle.text.specs.Text.{line_feed, numeral}
use Rattle.rows_text.specs.Rows.{DigitRows, rows_text}
use Rattle.text.specs.Laws.Numeral.{numeral-length}
use Rattle.rows_text.specs.Laws.Rows.{rows_text-length}
use Rattle.listing.specs.Line.{longest_line, line_text}
use Rattle.listing.specs.Listing.{listing_line}

abbrev pub word_line : List ℕ → List ℕ
word_line s = s ++ (line_feed ∷ [])

pub line_text-length : (extended ferrers n k : ℕ) (m : List ℕ)
    → length (line_text extended ferrers n k m) ≡ length (numeral extended) + length (numeral ferrers) + length (rows_text n k m) + 3
unfolding line_text
line_text-length extended ferrers n k m = simp length-append (omega arith)

pub line-nonempty : (q n k i : ℕ) → 1 ≤ length (listing_line q n k i)
unfolding listing_line
line-nonempty q n k i =
    omega (arith, line_text-length i (ferrers_index q n k (drawn_extended q n k i)) n k (drawn_extended q n k i))

module _ (q n k i : ℕ) (a : Accepted q n k) (inside : i < gaussian q n k) where
  pub drawn-is-reduced : Reduced q n k (drawn_extended q n k i)
  drawn-is-reduced = drawn-reduced q n k (size_small q a.size).0 i inside

  pub ferrers-inside : ferrers_index q n k (drawn_extended q n k i) < gaussian q n k
  ferrers-inside = index-below-count drawn-is-reduced

  pub digit-rows : (rest : List ℕ) → DigitRows n k (drawn_extended q n k i ++ rest)
  digit-rows rest =
      let r = drawn-is-reduced in
      let m = drawn_extended q n k i in
      record {
        rows = omega (arith, a.dimension, a.narrow);
        columns = a.narrow;
        size = omega (arith, r.size, length-append m rest);
        digits = λ place h.
            rw (get_or-append m rest 0 place (omega (arith, r.size)))
            (omega (arith, r.below place (omega (arith, r.size)), size_small q a.size));
      }

-- numerals of at most 5 digits where k is below n; where k is n there is one space, and its indexes are 0
pub line-short : (q n k i : ℕ) → Listable q n k → i < gaussian q n k → length (listing_line q n k i) ≤ longest_line
unfolding listing_line
line-short q n k i l inside =
    let a = l.settings in
    let few : gaussian q n k ≤ greatest_listing = l.few in
    let narrow : n ≤ 16 = a.narrow in
    let dimension : k ≤ n = a.dimension in
    let m = drawn_extended q n k i in
    let f = ferrers_index q n k m in
    let below : f < gaussian q n k = ferrers-inside q n k i a inside in
    let size = line_text-length i f n k m in
    let rows = rows_text-length n m k in
    ⊎_elim
    (λ whole.
    let same : k ≡ n = omega arith in
    let one : gaussian q n k ≡ 1 = ap (gaussian q n) same ∙ gaussian-whole q n in
    let first : length (numeral i) ≤ 1 = numeral-length 0 i (omega arith) in
    let second : length (numeral f) ≤ 1 = numeral-length 0 f (omega arith) in
    let area : k * n ≤ 256 = mul-le-mul {n₁ = k} {m₁ = n} {n₂ = 16} {m₂ = 16} (omega arith) narrow in
    omega arith)
    (λ part.
    let first : length (numeral i) ≤ 5 = numeral-length 4 i (omega arith) in
    let second : length (numeral f) ≤ 5 = numeral-length 4 f (omega arith) in
    let area : k * n ≤ 240 = mul-le-mul {n₁ = k} {m₁ = n} {n₂ = 15} {m₂ = 16} (omega arith) narrow in
    omega arith)
    (le-or-lt n k)
