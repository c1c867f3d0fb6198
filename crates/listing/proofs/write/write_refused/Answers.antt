-- The word and the number are the line's, and have room in the 320 bytes that are lent.
use Rattle.std.proofs.Common.{[], ◌∷◌, ◌++◌, ap, arith, length-take-le, length-append}
use Rattle.text.specs.Text.{comma, line_feed, numeral}
use Rattle.text.specs.Laws.Numeral.{numeral-length}
use Rattle.listing.specs.Line.{line_room}
use Rattle.listing.specs.Listing.{refused_word, refused_line}
use Rattle.listing.specs.Laws.Front.{composed-front}
use Rattle.listing.proofs.write.write_refused.Goals as goal

pub returns : goal.returns
unfolding refused_word refused_line
returns c =
    let r = c.args.refusal in
    composed-front c.args.buffer.now line_room ((refused_word ++ (comma ∷ [])) ∷ numeral c.from.result ∷ (line_feed ∷ []) ∷ [])
    (refused_line r) _ _ (ap (λ n. refused_word ++ (comma ∷ (numeral n ++ (line_feed ∷ [])))) c.from.ensures)
    (omega (
      arith,
      length-take-le line_room c.args.buffer.now c.requires,
      length-append (numeral r) (line_feed ∷ []),
      numeral-length 19 r (omega arith),
    ))
    c.put_numbered.ensures
