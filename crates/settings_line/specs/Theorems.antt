-- What is found to be a settings line is exactly one.
--   LineAtExactly s at  == from the cursor on, the text s is found to begin with the line of x, and this to end at a place, exactly when it
--                          begins with the line of x, three numbers below 1000, whatever follows, and the place is the one behind that
--                          line; and nothing is found exactly when it begins with no such line
--   line-at-exactly     == it holds of every text and every cursor
--   ParsedExactly s     == the text s is found to be the settings x exactly when it is the line of x, three numbers below 1000, and
--                          None exactly when it is no such line
--   parsed-exactly      == it holds of every text
--   settings-line-short == a settings line has at most 12 bytes
--   parsed-bounded      == the first 13 bytes of a text decide what it is
-- Assumes nothing.
use Rattle.std.specs.Prelude.{Option, Some, None, ◌≡◌, refl, Bool, true, false, List, [], ◌++◌, ℕ, ◌+◌, ◌≤◌, ◌<◌, eqb, length, take, drop}
use Rattle.std.proofs.Common.{ap, ◌∙◌, sym, ⊎_elim, append-nil, zero-add, arith, eq-eqb, eqb-true, length-append, take_all, length-take-le}
use Rattle.std.proofs.Math.Seq.{drop-length}
use Rattle.basics.specs.Choice.{pick}
use Rattle.basics.specs.Laws.Order.{le-or-lt}
use Rattle.text.specs.Text.{numeral}
use Rattle.text.specs.Laws.Numeral.{numeral-length}
use Rattle.settings_line.specs.SettingsLine.{decisive, settings_line, IsSettingsLine, BeginsLine, line_at, parsed}
use Rattle.settings_line.specs.Laws.Parse.{whole, parsed-line}
use Rattle.settings_line.specs.Laws.LineAt.{found-begins, begins-found}
use Rattle.settings_line.specs.declared.Settings.{Settings}
use Rattle.settings_line.specs.declared.Line.{Line}

-- what is found at the start of the text is the settings, where it ends the text
settings-are : (s : List ℕ) (x : Settings) → parsed s ≡ Some x → IsSettingsLine s x
settings-are s x e = cases (line_at s 0) refl (sym (parsed-line s) ∙ e)
  where
    at-end : (b : Bool) (y : Settings) → pick b (Some y) None ≡ Some x → (b ≡ true) × (x ≡ y)
    at-end true y e = (refl, cc)
    at-end false y e = let z : ◌≡◌ {A = ℕ} 0 1 = cc in absurd (omega arith)

    cases : (f : Option Line) → line_at s 0 ≡ f → whole (length s) f ≡ Some x → IsSettingsLine s x
    cases None f e = let z : ◌≡◌ {A = ℕ} 0 1 = cc in absurd (omega arith)
    cases (Some l) f e =
        let end = at-end (eqb l.end (length s)) l.settings e in
        let b = (found-begins s 0 l f).0 in
        let none : drop l.end s ≡ [] = ap (λ i. drop i s) (eqb-true l.end (length s) end.0) ∙ drop-length s in
        rw end.1
        (record {
          line = b.line ∙ ap (λ t. settings_line l.settings.q l.settings.n l.settings.k ++ t) none ∙ append-nil _;
          q-short = b.q-short;
          n-short = b.n-short;
          k-short = b.k-short;
        })

line-parsed : (s : List ℕ) (x : Settings) → IsSettingsLine s x → parsed s ≡ Some x
line-parsed s x l =
    let b : BeginsLine (drop 0 s) x [] =
    record { line = l.line ∙ sym (append-nil _); q-short = l.q-short; n-short = l.n-short; k-short = l.k-short } in
    let end : 0 + length (settings_line x.q x.n x.k) ≡ length s = zero-add _ ∙ ap length (sym l.line) in
    parsed-line s ∙ ap (whole (length s)) (begins-found s 0 x [] b) ∙ rw (eq-eqb _ (length s) end)

never_both : (s : List ℕ) (x : Settings) → parsed s ≡ Some x → parsed s ≡ None → ⊥
never_both s x e f = let z : ◌≡◌ {A = ℕ} 0 1 = cc in omega arith

pub record ParsedExactly (s : List ℕ) : Type 0 where
  pub found-is-line : (x : Settings) → parsed s ≡ Some x → IsSettingsLine s x
  pub line-is-found : (x : Settings) → IsSettingsLine s x → parsed s ≡ Some x
  pub malformed-is-none : parsed s ≡ None → (x : Settings) → IsSettingsLine s x → ⊥
  pub none-is-malformed : ((x : Settings) → IsSettingsLine s x → ⊥) → parsed s ≡ None

pub parsed-exactly : (s : List ℕ) → ParsedExactly s
parsed-exactly s =
    record {
      found-is-line = settings-are s;
      line-is-found = line-parsed s;
      malformed-is-none = λ e x l. never_both s x (line-parsed s x l) e;
      none-is-malformed = λ h. cases (parsed s) refl h;
    }
  where
    cases : (p : Option Settings) → parsed s ≡ p → ((x : Settings) → IsSettingsLine s x → ⊥) → parsed s ≡ None
    cases (Some x) e h = absurd (h x (settings-are s x e))
    cases None e h = e

pub record LineAtExactly (s : List ℕ) (at : ℕ) : Type 0 where
  pub found-is-line : (x : Settings) (end : ℕ) → line_at s at ≡ Some (record { settings = x; end = end })
      → BeginsLine (drop at s) x (drop end s) × (end ≡ at + length (settings_line x.q x.n x.k))
  pub line-is-found : (x : Settings) (rest : List ℕ) → BeginsLine (drop at s) x rest
      → line_at s at ≡ Some (record { settings = x; end = at + length (settings_line x.q x.n x.k) })
  pub nothing-is-none : line_at s at ≡ None → (x : Settings) (rest : List ℕ) → BeginsLine (drop at s) x rest → ⊥
  pub none-is-nothing : ((x : Settings) (rest : List ℕ) → BeginsLine (drop at s) x rest → ⊥) → line_at s at ≡ None

pub line-at-exactly : (s : List ℕ) (at : ℕ) → LineAtExactly s at
line-at-exactly s at =
    record {
      found-is-line = λ x end e. found-begins s at (record { settings = x; end = end }) e;
      line-is-found = begins-found s at;
      nothing-is-none = λ e x rest b. not-both _ (begins-found s at x rest b) e;
      none-is-nothing = λ h. cases (line_at s at) refl h;
    }
  where
    not-both : (l : Line) → line_at s at ≡ Some l → line_at s at ≡ None → ⊥
    not-both l e f = let z : ◌≡◌ {A = ℕ} 0 1 = cc in omega arith

    cases : (f : Option Line) → line_at s at ≡ f → ((x : Settings) (rest : List ℕ) → BeginsLine (drop at s) x rest → ⊥) → line_at s at ≡ None
    cases (Some l) e h = absurd (h l.settings (drop l.end s) (found-begins s at l e).0)
    cases None e h = e

pub settings-line-short : (q n k : ℕ) → q < 1000 → n < 1000 → k < 1000 → length (settings_line q n k) ≤ 12
unfolding settings_line
settings-line-short q n k h i j =
    let a : length (numeral q) ≤ 3 = numeral-length 2 q h in
    let b : length (numeral n) ≤ 3 = numeral-length 2 n i in
    let c : length (numeral k) ≤ 3 = numeral-length 2 k j in
    simp length-append (omega arith)

line-short : (s : List ℕ) (x : Settings) → IsSettingsLine s x → length s ≤ 12
line-short s x l = rw l.line (settings-line-short x.q x.n x.k l.q-short l.n-short l.k-short)

-- a text of more than 12 bytes is no line, and so are its first 13
pub parsed-bounded : (s : List ℕ) → parsed (take decisive s) ≡ parsed s
parsed-bounded s =
    ⊎_elim (λ short. ap parsed (take_all decisive s short)) (λ long. none (take decisive s) (front long) ∙ sym (none s (omega arith)))
    (le-or-lt (length s) decisive)
  where
    front : decisive < length s → 12 < length (take decisive s)
    front long = omega (arith, length-take-le decisive s (omega arith))

    none : (t : List ℕ) → 12 < length t → parsed t ≡ None
    none t long = (parsed-exactly t).none-is-malformed (λ x l. omega (arith, line-short t x l))
