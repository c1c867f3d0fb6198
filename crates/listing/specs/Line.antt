-- A line of the listing. Document 01: "Fields: extended index, Ferrers index, rows as digits with `/` between rows"; the line writer keeps
-- "the lent 320-byte buffer"; "a listing line, at most 276 bytes, always fits".
--   line_text extended ferrers n k m == the line of the two indexes and a matrix of k rows of n entries
--   line_room, longest_line           == 320 and 276
-- Assumes nothing.
use Rattle.std.specs.Prelude.{List, [], ◌∷◌, ◌++◌, ℕ}
use Rattle.text.specs.Text.{comma, line_feed, numeral}
use Rattle.rows_text.specs.Rows.{rows_text}

abbrev pub line_room : ℕ
line_room = 320

abbrev pub longest_line : ℕ
longest_line = 276

unfoldable pub line_text : ℕ → ℕ → ℕ → ℕ → List ℕ → List ℕ
line_text extended ferrers n k m = numeral extended ++ (comma ∷ (numeral ferrers ++ (comma ∷ (rows_text n k m ++ (line_feed ∷ [])))))
