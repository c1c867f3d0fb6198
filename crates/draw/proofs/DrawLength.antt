-- How many bytes Draw leaves; no part of the meaning.
--   draw-length == Draw leaves as many bytes as it was lent, refused or not
-- Assumes nothing.
use Rattle.std.specs.Prelude.{◌≡◌, ℕ, length}
use Rattle.std.proofs.Common.{ap, sym, ◌∙◌}
use mathlib.Core.List.{List}
use Rattle.std.proofs.Math.Decide.{ℕ_discrete}
use Rattle.settings.specs.Laws.Accepted.{not-refused}
use Rattle.numbering.specs.Laws.Either.{either}
use Rattle.draw.specs.Draw.{draw_refusal, draw_buffer}
use Rattle.draw.specs.Laws.DrawAccepted.{draw-accepted, draw-leaves, draw-kept}

module _ (q n k t i : ℕ) where
  pub draw-length : (b : List ℕ) → length (draw_buffer q n k t i b) ≡ length b
  draw-length b = cases (ℕ_discrete (draw_refusal q n k t i (length b)) 0)
    where
      cases : Dec (draw_refusal q n k t i (length b) ≡ 0) → length (draw_buffer q n k t i b) ≡ length b
      cases (yes z) =
          let a = draw-accepted q n k t i (length b) z in
          ap length (sym (draw-leaves q n k t i b z))
          ∙ ((either q n k t (not-refused q n k a.choice.settings)).drawn-reduced i a.inside).size
          ∙ sym a.sized
      cases (no z) = ap length (sym (draw-kept q n k t i b z))
