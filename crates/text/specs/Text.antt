-- Text as bytes.
--   comma, slash, line_feed == the bytes of `,`, `/` and the line feed
--   glyph d                == the byte of the decimal digit d
--   numeral x              == x in decimal digits, with no leading zero except 0 itself
-- Assumes nothing.
use Rattle.std.specs.Prelude.{true, false, List, [], ◌∷◌, ◌++◌, ℕ, zero, suc, ◌+◌, ◌/◌, ◌%◌, ltb}

abbrev pub comma : ℕ
comma = 44

abbrev pub slash : ℕ
slash = 47

abbrev pub line_feed : ℕ
line_feed = 10

abbrev pub glyph : ℕ → ℕ
glyph d = 48 + d

-- the numeral of x, which has at most `more` digits besides its last
unfoldable pub numeral_within : ℕ → ℕ → List ℕ
numeral_within zero x = glyph (x % 10) ∷ []
numeral_within (suc more) x =
    elim (ltb x 10) [ true ↦ glyph x ∷ [] | false ↦ numeral_within more (x / 10) ++ (glyph (x % 10) ∷ []) ]

-- x has at most x digits besides its last
unfoldable pub numeral : ℕ → List ℕ
numeral x = numeral_within x x
