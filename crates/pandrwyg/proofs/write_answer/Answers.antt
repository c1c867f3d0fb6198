-- `pandrwyg::write_answer` meets its contract: eight bytes, one, and two.
use Rattle.std.proofs.Common.{◌∙◌}
use Rattle.pandrwyg.specs.Laws.WriteAnswer.{eight-bytes, two-bytes, written-answer}
use Rattle.pandrwyg.proofs.write_answer.Goals as goal

pub returns : goal.returns
returns c =
    written-answer _ _ _ _ _ c.args.index c.args.space.dimension c.args.space.vector c.requires.0
    (c.to_le_bytes.ensures ∙ eight-bytes c.args.index) (c.to_le_bytes-2.ensures ∙ two-bytes c.args.space.vector)
    c.copy.ensures c.copy-2.ensures
