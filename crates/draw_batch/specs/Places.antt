-- Order 6, place by place; places are counted from 0. What is proved of them stands in draw_batch/Theorems.
--   part size place bytes == the place's part of bytes that are laid out in parts of `size` bytes
--   Place q n k t i before after answer == what Draw alone gives a place: i is its index, `before` and `after` its part of the matrices,
--                    `answer` its answer byte
use Rattle.std.specs.Prelude.{◌≡◌, List, ℕ, ◌*◌, ◌<◌, ◌≤◌, length, take, drop}
use Rattle.counts.specs.Gaussian.{gaussian}
use Rattle.matrix.specs.Matrix.{Reduced}
use Rattle.numbering.specs.Numbering.{index_of}
use Rattle.draw.specs.Draw.{draw_refusal, draw_buffer}

abbrev pub part : ℕ → ℕ → List ℕ → List ℕ
part size place bytes = take size (drop (place * size) bytes)

pub record Place (q n k t i : ℕ) (before after : List ℕ) (answer : ℕ) : Type 0 where
  pub leaves : after ≡ draw_buffer q n k t i before
  pub answers : answer ≡ draw_refusal q n k t i (length before)
  pub done : i < gaussian q n k → (answer ≡ 0) × Reduced q n k after × (index_of q n k t after ≡ i)
  pub beyond : gaussian q n k ≤ i → (answer ≡ 5) × (after ≡ before)
