-- Decimal numbers read from a text at a cursor, a place of the text; past its end nothing stands.
--   is_digit b           == the byte b is that of a decimal digit
--   digit_run s          == the digits with which s begins, up to the first byte that is none
--   reading v s         == the number that the digits s make behind those of the number v
--   is_numeral most s    == the digits s are 1 to `most`, with no leading zero except 0 itself
--   greatest            == 2^64 - 1; a greater number is not read
--   read_at text at      == the number of all digits from the cursor on, with the cursor past them
--   decimal_at text at most     == the same, where they are a numeral of 1 to `most` digits
--   marked_at text at most mark  == the same, where the byte `mark` follows, with the cursor past the mark
-- laws.Marked shows what is read: exactly the numerals.
-- Assumes nothing.
use Rattle.std.specs.Prelude.{Option, Some, None, Bool, true, false, ◌&&◌, ◌||◌, not, List, [], ◌∷◌, ℕ, ◌+◌, ◌*◌, ◌-◌, leb, ltb, eqb, length, get_or, drop}
use Rattle.basics.specs.Choice.{pick}
use Rattle.text.specs.Text.{glyph}
use Rattle.settings_line.specs.declared.decimal.Numeral.{Numeral}

unfoldable pub is_digit : ℕ → Bool
is_digit b = leb (glyph 0) b && leb b (glyph 9)

unfoldable pub digit_run : List ℕ → List ℕ
digit_run [] = []
digit_run (b ∷ s) = elim (is_digit b) [ true ↦ b ∷ digit_run s | false ↦ [] ]

unfoldable pub reading : ℕ → List ℕ → ℕ
reading v [] = v
reading v (b ∷ s) = reading (v * 10 + (b - glyph 0)) s

unfoldable pub is_numeral : ℕ → List ℕ → Bool
is_numeral most s = leb 1 (length s) && leb (length s) most && (eqb (length s) 1 || not (eqb (get_or s 0 0) (glyph 0)))

abbrev pub greatest : ℕ
greatest = 18446744073709551615

-- the number of the digits s that stand at the cursor, where the test holds
abbrev pub read_if : Bool → ℕ → List ℕ → Option Numeral
read_if b at s = pick b (Some (record { value = reading 0 s; end = at + length s })) None

unfoldable pub read_at : List ℕ → ℕ → Option Numeral
read_at text at = let s = digit_run (drop at text) in read_if (leb (reading 0 s) greatest) at s

unfoldable pub decimal_at : List ℕ → ℕ → ℕ → Option Numeral
decimal_at text at most = let s = digit_run (drop at text) in read_if (leb (reading 0 s) greatest && is_numeral most s) at s

-- what was read, where the byte `mark` follows it
abbrev pub marked : List ℕ → ℕ → Option Numeral → Option Numeral
marked text mark (Some x) =
    pick (ltb x.end (length text) && eqb (get_or text x.end 0) mark) (Some (record { value = x.value; end = x.end + 1 })) None
marked text mark None = None

unfoldable pub marked_at : List ℕ → ℕ → ℕ → ℕ → Option Numeral
marked_at text at most mark = marked text mark (decimal_at text at most)
