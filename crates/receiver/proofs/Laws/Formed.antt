-- What the test of a receiver finds, asked for as a refusal; no part of the meaning.
--   found, missing == the identifying vector of a receiver that passes the test, and the refusal of one that does not
-- Assumes nothing.
use Rattle.std.specs.Prelude.{◌≡◌, refl, Bool, true, false, ℕ, Ok, Err, Option}
use Rattle.std.proofs.Common.{ap, ◌∙◌}
use Rattle.std.specs.Bool.{then_some}
use Rattle.std.specs.Option.{ok_or}
use Rattle.matrix.specs.Matrix.{identifying}
use Rattle.refusal.specs.declared.Refusal.{Refusal}
use Rattle.receiver.specs.Receiver.{used, well_formed}
use Rattle.receiver.specs.declared.Receiver.{Receiver}

found_of : (b : Bool) (v x : ℕ) (r : Refusal) → Ok x ≡ ok_or (then_some b v) r → (b ≡ true) × (x ≡ v)
found_of true v x r e = (refl, cc)
found_of false v x r e = cc

missing_of : (b : Bool) (v : ℕ) (y r : Refusal) → Err y ≡ ok_or (then_some b v) r → (b ≡ false) × (y ≡ r)
missing_of true v y r e = cc
missing_of false v y r e = (refl, cc)

module _ (r : Receiver) (o : Option ℕ) (test : o ≡ then_some (well_formed r) (identifying r.n r.dimension (used r))) where
  pub found : (x : ℕ) (refusal : Refusal) → Ok x ≡ ok_or o refusal
      → (well_formed r ≡ true) × (x ≡ identifying r.n r.dimension (used r))
  found x refusal e = found_of _ _ x refusal (e ∙ ap (λ p. ok_or p refusal) test)

  pub missing : (y refusal : Refusal) → Err y ≡ ok_or o refusal → (well_formed r ≡ false) × (y ≡ refusal)
  missing y refusal e = missing_of _ _ y refusal (e ∙ ap (λ p. ok_or p refusal) test)
