-- What is given for an index. The promises about drawn matrices speak of a way of drawing, and name no call for it.
--   Drawing         == a way of drawing: how many indexes it has; for an index the refusal, by the length of the lent buffer, and that buffer
--                      afterwards; and the order in which the matrices of its indexes rise
--   drawing q n k t == Draw, in the numbering t
-- Assumes nothing.
use Rattle.std.specs.Prelude.{List, ℕ}
use Rattle.counts.specs.Gaussian.{gaussian}
use Rattle.numbering.specs.Numbering.{before}
use Rattle.draw.specs.Draw.{draw_refusal, draw_buffer}

pub record Drawing : Type 1 where
  pub count : ℕ
  pub refusal : ℕ → ℕ → ℕ
  pub leaves : ℕ → List ℕ → List ℕ
  pub order : List ℕ → List ℕ → Type 0

abbrev pub drawing : ℕ → ℕ → ℕ → ℕ → Drawing
drawing q n k t = record { count = gaussian q n k; refusal = draw_refusal q n k t; leaves = draw_buffer q n k t; order = before q n k t }
