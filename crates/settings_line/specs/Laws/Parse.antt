-- What stands at a cursor, number by number, and what a text is found to be; no part of the meaning.
--   line_first, -second, -third == no line, where that number is not read. line-whole == the line, where all are
--   whole size found   == the settings of the line that was found, where it ends the text
--   parsed-line        == a text is found to be what stands at its start, where that ends it
-- Assumes nothing.
use Rattle.std.specs.Prelude.{Option, Some, None, ◌≡◌, refl, List, ℕ, eqb, length}
use Rattle.basics.specs.Choice.{pick}
use Rattle.text.specs.Text.{comma, line_feed}
use Rattle.settings_line.specs.Decimal.{marked_at}
use Rattle.settings_line.specs.SettingsLine.{next, line_at, parsed}
use Rattle.settings_line.specs.declared.decimal.Numeral.{Numeral}
use Rattle.settings_line.specs.declared.Settings.{Settings}
use Rattle.settings_line.specs.declared.Line.{Line}

module _ (s : List ℕ) (at : ℕ) where
  pub line_first : marked_at s at 3 comma ≡ None → line_at s at ≡ None
  unfolding line_at
  line_first e = rw e

  module _ (q : Numeral) (e : marked_at s at 3 comma ≡ Some q) where
    pub line_second : marked_at s q.end 3 comma ≡ None → line_at s at ≡ None
    unfolding line_at
    line_second f = rw (e, f)

    module _ (n : Numeral) (f : marked_at s q.end 3 comma ≡ Some n) where
      pub line-third : marked_at s n.end 3 line_feed ≡ None → line_at s at ≡ None
      unfolding line_at
      line-third g = rw (e, f, g)

      pub line-whole : (k : Numeral) → marked_at s n.end 3 line_feed ≡ Some k
          → line_at s at ≡ Some (record { settings = record { q = q.value; n = n.value; k = k.value }; end = k.end })
      unfolding line_at
      line-whole k g = rw (e, f, g)

abbrev pub whole : ℕ → Option Line → Option Settings
whole size (Some l) = pick (eqb l.end size) (Some l.settings) None
whole size None = None

whole-next : (size : ℕ) (d : Option Numeral) (f : Numeral → Option Line) (g : Numeral → Option Settings) → ((x : Numeral) → g x ≡ whole size (f x))
    → next d g ≡ whole size (next d f)
whole-next size (Some x) f g h = h x
whole-next size None f g h = refl

pub parsed-line : (s : List ℕ) → parsed s ≡ whole (length s) (line_at s 0)
unfolding parsed line_at
parsed-line s =
    whole-next (length s) (marked_at s 0 3 comma) _ _
    (λ q. whole-next (length s) (marked_at s q.end 3 comma) _ _
    (λ n. whole-next (length s) (marked_at s n.end 3 line_feed) _ _ (λ k. refl)))
