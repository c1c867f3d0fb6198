-- The part of the local array that is drawn into is the drawn matrix, which is reduced, numbered and written.
use Rattle.std.proofs.Common.{◌≡◌, List, [], ◌∷◌, ◌++◌, ℕ, refl, ◌∙◌, subst, append-nil, ap, ap₂, sym, arith}
use Rattle.extended.specs.Drawn.{drawn_extended}
use Rattle.ferrers.specs.Ferrers.{ferrers_index}
use Rattle.numbering.specs.Numbering.{extended}
use Rattle.numbering.specs.Laws.Either.{is-extended}
use Rattle.text.specs.Text.{comma, line_feed, numeral}
use Rattle.text.specs.Piece.{joined}
use Rattle.rows_text.specs.Rows.{DigitRows, rows_text}
use Rattle.line.specs.Line.{line_pieces}
use Rattle.listing.specs.Line.{line_text}
use Rattle.listing.specs.Listing.{listing_line}
use Rattle.listing.specs.Laws.Line.{digit-rows, line-short}
use Rattle.listing.specs.Laws.Front.{composed-line}
use Rattle.listing.proofs.write.write_space.Goals as goal

-- the line that is put together is the listing's
line : (q n k i f : ℕ) (m : List ℕ) → m ≡ drawn_extended q n k i → f ≡ ferrers_index q n k (drawn_extended q n k i)
    → joined (line_pieces i f (rows_text n k m)) ≡ listing_line q n k i
unfolding listing_line line_text
line q n k i f m drawn numbered =
    ap₂ (λ j t. numeral i ++ (comma ∷ (numeral j ++ (comma ∷ (rows_text n k t ++ (line_feed ∷ [])))))) numbered drawn

pub put_space-requires : goal.put_space-requires
put_space-requires c =
    let s = c.args.settings in
    let drawn : c.unrank_indexes-found.new.m ≡ drawn_extended s.q s.n s.k c.args.index.0 =
    c.unrank_indexes-found.ensures.m_after ∙ sym (ap (λ N. N.matrix s.q s.n s.k c.args.index.0) (is-extended extended refl)) in
    subst (DigitRows s.n s.k) (append-nil _ ∙ sym drawn)
    (digit-rows s.q s.n s.k c.args.index.0 c.requires.0.settings c.requires.1 [])

pub returns : goal.returns
returns c =
    let s = c.args.settings in
    let i = c.args.index.0 in
    let u = c.unrank_indexes-found in
    let drawn : u.new.m ≡ drawn_extended s.q s.n s.k i =
    u.ensures.m_after ∙ sym (ap (λ N. N.matrix s.q s.n s.k i) (is-extended extended refl)) in
    let numbered : u.result.ferrers.0 ≡ ferrers_index s.q s.n s.k (drawn_extended s.q s.n s.k i) =
    u.ensures.extended_value.1 ∙ ap (ferrers_index s.q s.n s.k) (sym u.ensures.m_after ∙ drawn) in
    composed-line c.args.buffer.now (line_pieces i u.result.ferrers.0 (rows_text s.n s.k u.new.m)) (listing_line s.q s.n s.k i) _ _
    (line s.q s.n s.k i u.result.ferrers.0 u.new.m drawn numbered)
    (omega (arith, c.requires.2, line-short s.q s.n s.k i c.requires.0 c.requires.1)) c.put_space.ensures
