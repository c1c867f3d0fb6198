-- What the list program writes. Document 01: "List, the program: 11 if the input isn't one line `q,n,k` ..; 1, 2, 3; 12 if N exceeds
-- 65,536. A refusal prints one line, `refused,` and the number, ended by a line feed." "Fields: extended index, Ferrers index, rows as
-- digits with `/` between rows. Lines rise by extended index."
--   listing_line q n k i    == the line of the space with the extended index i
--   lines_from q n k i m    == the lines of the m extended indexes from i on, rising
--   column_names, header     == "extended,ferrers,rows"; this and a line feed
--   refused_word, refused_line r == "refused"; this, a comma, the number r and a line feed
--   listing_output input    == all that the program writes for the bytes of its input; output_for found == for what these are found to be
-- Assumes nothing.
use Rattle.std.specs.Prelude.{Option, Some, None, true, false, List, [], ◌∷◌, ◌++◌, ℕ, zero, suc, eqb}
use Rattle.refusal.specs.Refusal.{line_refusal}
use Rattle.counts.specs.Gaussian.{gaussian}
use Rattle.settings.specs.Settings.{list_refusal}
use Rattle.extended.specs.Drawn.{drawn_extended}
use Rattle.ferrers.specs.Ferrers.{ferrers_index}
use Rattle.text.specs.Text.{comma, line_feed, numeral}
use Rattle.settings_line.specs.SettingsLine.{parsed}
use Rattle.settings_line.specs.declared.Settings.{Settings}
use Rattle.listing.specs.Line.{line_text}

unfoldable pub listing_line : ℕ → ℕ → ℕ → ℕ → List ℕ
listing_line q n k i = line_text i (ferrers_index q n k (drawn_extended q n k i)) n k (drawn_extended q n k i)

unfoldable pub lines_from : ℕ → ℕ → ℕ → ℕ → ℕ → List ℕ
lines_from q n k i zero = []
lines_from q n k i (suc m) = listing_line q n k i ++ lines_from q n k (suc i) m

unfoldable pub column_names : List ℕ
column_names = 101 ∷ 120 ∷ 116 ∷ 101 ∷ 110 ∷ 100 ∷ 101 ∷ 100 ∷ 44 ∷ 102 ∷ 101 ∷ 114 ∷ 114 ∷ 101 ∷ 114 ∷ 115 ∷ 44 ∷ 114 ∷ 111 ∷ 119 ∷ 115 ∷ []

unfoldable pub header : List ℕ
header = column_names ++ (line_feed ∷ [])

unfoldable pub refused_word : List ℕ
refused_word = 114 ∷ 101 ∷ 102 ∷ 117 ∷ 115 ∷ 101 ∷ 100 ∷ []

unfoldable pub refused_line : ℕ → List ℕ
refused_line r = refused_word ++ (comma ∷ (numeral r ++ (line_feed ∷ [])))

abbrev pub output_for : Option Settings → List ℕ
output_for None = refused_line line_refusal
output_for (Some x) =
    elim (eqb (list_refusal x.q x.n x.k) 0) [
      | true ↦ header ++ lines_from x.q x.n x.k 0 (gaussian x.q x.n x.k)
      | false ↦ refused_line (list_refusal x.q x.n x.k)
    ]

unfoldable pub listing_output : List ℕ → List ℕ
listing_output input = output_for (parsed input)
