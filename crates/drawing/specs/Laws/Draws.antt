-- What the promises need of a way of drawing; no part of the meaning.
--   Draws q n k t D == for the indexes below N, D is not refused and leaves the matrix with that index in the numbering t; it rises as the
--                      numbering does
--   draws           == it is so of `drawing`, for all settings and numberings that are accepted
-- Assumes nothing.
use Rattle.std.specs.Prelude.{◌≡◌, refl, true, List, ℕ, ◌*◌, ◌<◌, length}
use Rattle.counts.specs.Gaussian.{gaussian}
use Rattle.settings.specs.Settings.{settings_refusal}
use Rattle.numbering.specs.Numbering.{is_numbering, drawn, before}
use Rattle.numbering.specs.Laws.Chosen.{unrefused}
use Rattle.draw.specs.Draw.{draw_refusal}
use Rattle.draw.specs.Laws.DrawAccepted.{draw-unrefused, draw-leaves}
use Rattle.drawing.specs.Drawing.{Drawing, drawing}

pub record Draws (q n k t : ℕ) (D : Drawing) : Type 0 where
  pub counted : D.count ≡ gaussian q n k
  pub done : (i : ℕ) → i < gaussian q n k → (b : List ℕ) → length b ≡ k * n → D.refusal i (length b) ≡ 0
  pub given : (i : ℕ) → i < gaussian q n k → (b : List ℕ) → length b ≡ k * n → drawn q n k t i ≡ D.leaves i b
  pub ordered : (a b : List ℕ) → before q n k t a b → D.order a b

pub draws : (q n k t : ℕ) → settings_refusal q n k ≡ 0 → is_numbering t ≡ true → Draws q n k t (drawing q n k t)
draws q n k t settings known =
    record { counted = refl; done = unrefused-draw; given = λ i h b l. draw-leaves q n k t i b (unrefused-draw i h b l); ordered = λ a b o. o }
  where
    unrefused-draw : (i : ℕ) → i < gaussian q n k → (b : List ℕ) → length b ≡ k * n → draw_refusal q n k t i (length b) ≡ 0
    unrefused-draw i h b l = draw-unrefused q n k t i (length b) (unrefused q n k t settings known) l h
