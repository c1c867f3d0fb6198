-- The pieces of a line of the listing.
--   line_pieces extended ferrers rows == two numbers and the rows' text, a comma after each number, and a line feed
-- Assumes nothing.
use Rattle.std.specs.Prelude.{List, [], ◌∷◌, ℕ}
use Rattle.text.specs.Text.{comma, line_feed, numeral}

abbrev pub line_pieces : ℕ → ℕ → List ℕ → List (List ℕ)
line_pieces extended ferrers rows = numeral extended ∷ (comma ∷ []) ∷ numeral ferrers ∷ (comma ∷ []) ∷ rows ∷ (line_feed ∷ []) ∷ []
