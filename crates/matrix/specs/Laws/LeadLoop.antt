-- The search for a row's lead, place by place; no part of the meaning.
--   lead-here    == the search ends at a place that is not 0
--   lead-next    == and goes on from a place that is
--   lead-end     == past the last place there is none
-- Assumes nothing.
use Rattle.std.specs.Prelude.{◌≡◌}
use Rattle.std.proofs.Math.Path.{ap}
use Rattle.std.proofs.Common.{◌∙◌, eq-eqb, ne_eqb}
use Prim.Native.Nat.{ℕ, suc, ◌-◌, ◌<◌}
use native.Mathlib.Omega.{arith}
use Rattle.basics.specs.Choice.{pick}
use Rattle.matrix.specs.Matrix.{lead_from}

module _ (f : ℕ → ℕ) (n j : ℕ) where
  one_more : j < n → n - j ≡ suc (n - suc j)
  one_more h = omega arith

  pub lead-here : j < n → (f j ≡ 0 → ⊥) → lead_from f j (n - j) ≡ j
  unfolding lead_from
  lead-here h ne = ap (lead_from f j) (one_more h) ∙ ap (λ b. pick b (lead_from f (suc j) (n - suc j)) j) (ne_eqb (f j) 0 ne)

  pub lead-next : j < n → f j ≡ 0 → lead_from f j (n - j) ≡ lead_from f (suc j) (n - suc j)
  unfolding lead_from
  lead-next h e = ap (lead_from f j) (one_more h) ∙ ap (λ b. pick b (lead_from f (suc j) (n - suc j)) j) (eq-eqb (f j) 0 e)

  pub lead-end : j ≡ n → lead_from f j (n - j) ≡ n
  unfolding lead_from
  lead-end e = let z : n - j ≡ 0 = omega arith in ap (lead_from f j) z ∙ e
