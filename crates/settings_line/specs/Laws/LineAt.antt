-- What stands at a cursor is exactly a settings line and what follows it; no part of the meaning.
--   found-begins == the line that is found stands there, and the cursor past it is where the rest begins
--   begins-found == a line that stands there is found
-- Assumes nothing.
use Rattle.std.specs.Prelude.{Option, Some, None, ◌≡◌, List, [], ◌∷◌, ◌++◌, ℕ, ◌+◌, ◌-◌, ◌≤◌}
use Rattle.std.proofs.Math.Path.{refl, ap, sym}
use Rattle.std.proofs.Common.{◌∙◌, append_assoc, arith, length-drop}
use Rattle.std.proofs.Math.ListN.{length, drop, length-append}
use Rattle.text.specs.Text.{comma, line_feed, numeral}
use Rattle.settings_line.specs.Decimal.{is_digit, marked_at}
use Rattle.settings_line.specs.SettingsLine.{settings_line, BeginsLine, next, line_at}
use Rattle.settings_line.specs.Laws.Marked.{marked-is, marked-reads}
use Rattle.settings_line.specs.Laws.Parse.{line-whole}
use Rattle.settings_line.specs.declared.decimal.Numeral.{Numeral}
use Rattle.settings_line.specs.declared.Settings.{Settings}
use Rattle.settings_line.specs.declared.Line.{Line}

-- what was read before a line was found
record Before (d : Option Numeral) (more : Numeral → Option Line) (l : Line) : Type 0 where
  number : Numeral
  read : d ≡ Some number
  rest : more number ≡ Some l

before : (d : Option Numeral) (more : Numeral → Option Line) (l : Line) → next d more ≡ Some l → Before d more l
before (Some y) more l e = record { number = y; read = refl; rest = e }
before None more l e = let z : ◌≡◌ {A = ℕ} 0 1 = cc in absurd (omega arith)

same : (l m : Line) → Some l ≡ Some m → l ≡ m
same l m e = cc

-- the line, number by number, and what follows it
line-rest : (q n k : ℕ) (rest : List ℕ)
    → settings_line q n k ++ rest ≡ numeral q ++ (comma ∷ (numeral n ++ (comma ∷ (numeral k ++ (line_feed ∷ rest)))))
unfolding settings_line
line-rest q n k rest =
    let last = numeral k ++ (line_feed ∷ []) in
    append_assoc (numeral q) (comma ∷ numeral n ++ (comma ∷ last)) rest
    ∙ ap (λ t. numeral q ++ (comma ∷ t))
    (append_assoc (numeral n) (comma ∷ last) rest
    ∙ ap (λ t. numeral n ++ (comma ∷ t)) (append_assoc (numeral k) (line_feed ∷ []) rest))

line-nonempty : (q n k : ℕ) → 1 ≤ length (settings_line q n k)
unfolding settings_line
line-nonempty q n k = simp length-append (omega arith)

module _ (s : List ℕ) (at : ℕ) where
  found-line : (l : Line) → line_at s at ≡ Some l → BeginsLine (drop at s) l.settings (drop l.end s)
  unfolding line_at
  found-line l e =
      let q = before (marked_at s at 3 comma) _ l e in
      let n = before (marked_at s q.number.end 3 comma) _ l q.rest in
      let k = before (marked_at s n.number.end 3 line_feed) _ l n.rest in
      let first = marked-is s at 3 comma q.number q.read in
      let second = marked-is s q.number.end 3 comma n.number n.read in
      let third = marked-is s n.number.end 3 line_feed k.number k.read in
      rw (sym (same _ l k.rest))
      (record {
        line =
            first.0
            ∙ ap (λ t. numeral q.number.value ++ (comma ∷ t))
            (second.0 ∙ ap (λ t. numeral n.number.value ++ (comma ∷ t)) third.0)
            ∙ sym (line-rest q.number.value n.number.value k.number.value (drop k.number.end s));
        q-short = first.1;
        n-short = second.1;
        k-short = third.1;
      })

  pub begins-found : (x : Settings) (rest : List ℕ) → BeginsLine (drop at s) x rest
      → line_at s at ≡ Some (record { settings = x; end = at + length (settings_line x.q x.n x.k) })
  unfolding is_digit
  begins-found x rest b =
      let third = numeral x.k ++ (line_feed ∷ rest) in
      let second = numeral x.n ++ (comma ∷ third) in
      let stands = b.line ∙ line-rest x.q x.n x.k rest in
      let q = marked-reads s at 2 comma x.q second refl stands b.q-short (omega (arith, b.q-short)) in
      let n = marked-reads s q.end 2 comma x.n third refl q.ahead b.n-short (omega (arith, b.n-short)) in
      let k = marked-reads s n.end 2 line_feed x.k rest refl n.ahead b.k-short (omega (arith, b.k-short)) in
      line-whole s at _ q.read _ n.read _ k.read
      ∙ ap (λ e. Some (record { settings = x; end = e })) (behind k.end k.ahead k.within b.line)
    where
      behind : (end : ℕ) → drop end s ≡ rest → end ≤ length s → drop at s ≡ settings_line x.q x.n x.k ++ rest
          → end ≡ at + length (settings_line x.q x.n x.k)
      behind end e inside f =
          let whole : length s - at ≡ length (settings_line x.q x.n x.k) + length rest =
          sym (length-drop at s) ∙ ap length f ∙ length-append (settings_line x.q x.n x.k) rest in
          let left : length s - end ≡ length rest = sym (length-drop end s) ∙ ap length e in
          omega (arith, line-nonempty x.q x.n x.k)

  pub found-begins : (l : Line) → line_at s at ≡ Some l
      → BeginsLine (drop at s) l.settings (drop l.end s)
      × (l.end ≡ at + length (settings_line l.settings.q l.settings.n l.settings.k))
  found-begins l e =
      let b = found-line l e in
      (b, ap (λ m. m.end) (same l _ (sym e ∙ begins-found l.settings (drop l.end s) b)))
