-- The settings line. Document 01: "one line `q,n,k` of three decimal numbers of 1 to 3 digits, no leading zero except 0 itself, ended by a
-- line feed with nothing after it".
--   settings_line q n k  == that line
--   IsSettingsLine s x  == the text s is that line of the settings x, three numbers below 1000
--   BeginsLine s x rest == the text s begins with that line of the settings x, three numbers below 1000, and `rest` follows
--   line_at s at         == the settings line that begins at the cursor, whatever follows it, with the cursor past it; `line-at-exactly` of
--                          Theorems: the line with which the text begins from there on, and None where it begins with none
--   parsed s            == what the text s is found to be; `parsed-exactly` of Theorems: the settings of which s is the line, and None
--                          where there are none such
--   decisive            == 13: so many bytes of a text decide what it is, one more than the longest settings line has
-- Assumes nothing.
use Rattle.std.specs.Prelude.{Option, Some, None, ◌≡◌, List, [], ◌∷◌, ◌++◌, ℕ, ◌<◌, eqb, length}
use Rattle.basics.specs.Choice.{pick}
use Rattle.text.specs.Text.{comma, line_feed, numeral}
use Rattle.settings_line.specs.Decimal.{marked_at}
use Rattle.settings_line.specs.declared.decimal.Numeral.{Numeral}
use Rattle.settings_line.specs.declared.Settings.{Settings}
use Rattle.settings_line.specs.declared.Line.{Line}

abbrev pub decisive : ℕ
decisive = 13

unfoldable pub settings_line : ℕ → ℕ → ℕ → List ℕ
settings_line q n k = numeral q ++ (comma ∷ numeral n ++ (comma ∷ numeral k ++ (line_feed ∷ [])))

pub record IsSettingsLine (s : List ℕ) (x : Settings) : Type 0 where
  pub line : s ≡ settings_line x.q x.n x.k
  pub q-short : x.q < 1000
  pub n-short : x.n < 1000
  pub k-short : x.k < 1000

pub record BeginsLine (s : List ℕ) (x : Settings) (rest : List ℕ) : Type 0 where
  pub line : s ≡ settings_line x.q x.n x.k ++ rest
  pub q-short : x.q < 1000
  pub n-short : x.n < 1000
  pub k-short : x.k < 1000

-- what follows from a number that was read
abbrev pub next : {A : Type 0} → Option Numeral → (Numeral → Option A) → Option A
next (Some x) more = more x
next None more = None

unfoldable pub line_at : List ℕ → ℕ → Option Line
line_at s at =
    next (marked_at s at 3 comma)
    (λ q. next (marked_at s q.end 3 comma)
    (λ n. next (marked_at s n.end 3 line_feed)
    (λ k. Some (record { settings = record { q = q.value; n = n.value; k = k.value }; end = k.end }))))

unfoldable pub parsed : List ℕ → Option Settings
parsed s =
    next (marked_at s 0 3 comma)
    (λ q. next (marked_at s q.end 3 comma)
    (λ n. next (marked_at s n.end 3 line_feed)
    (λ k. pick (eqb k.end (length s)) (Some (record { q = q.value; n = n.value; k = k.value })) None)))
