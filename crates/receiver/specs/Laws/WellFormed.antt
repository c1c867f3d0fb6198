-- The test of a receiver, part by part; no part of the meaning.
--   formed-settings, -dimension == one of these parts fails
--   formed-entries, -rest == a part that fails, after those before it
--   formed-reduced            == the last part, after all others
--   formed-any-pack           == the test reads no pack: it holds of a receiver whatever pack number is in it
-- Assumes nothing.
use Rattle.std.specs.Prelude.{◌≡◌, Bool, ◌&&◌, ℕ, ◌<◌, ◌≤◌, eqb}
use Rattle.std.proofs.Math.Path.{refl}
use Rattle.std.proofs.Math.Bool.{true, false}
use borrow.Author.Tests.{eq-eqb, ne_eqb, le-leb, lt-leb}
use Rattle.matrix.specs.Matrix.{entries_below, is_reduced}
use Rattle.receiver.specs.Receiver.{setup, setup_of, setup_refusal, made, used, unused, well_formed}
use Rattle.receiver.specs.declared.Receiver.{Receiver}

module _ (r : Receiver) where
  pub formed-any-pack : (pack : ℕ) → well_formed (made (setup r.q r.n r.k pack) r.dimension r.entries) ≡ well_formed r
  unfolding well_formed
  formed-any-pack pack = refl

  pub formed-settings : (setup_refusal (setup_of r) ≡ 0 → ⊥) → false ≡ well_formed r
  unfolding well_formed
  formed-settings s = rw (ne_eqb (setup_refusal (setup_of r)) 0 s)

  pub formed-dimension : r.n < r.dimension → false ≡ well_formed r
  unfolding well_formed
  formed-dimension h = rw (lt-leb r.dimension r.n h) (neither (eqb (setup_refusal (setup_of r)) 0))
    where
      neither : (b : Bool) → false ≡ b && false
      neither true = refl
      neither false = refl

  module _ (s : setup_refusal (setup_of r) ≡ 0) where
    module _ (h : r.dimension ≤ r.n) where
      pub formed-entries : entries_below r.q (used r) ≡ false → false ≡ well_formed r
      unfolding well_formed
      formed-entries b = rw (eq-eqb (setup_refusal (setup_of r)) 0 s, le-leb r.dimension r.n h, b)

      pub formed-rest : entries_below r.q (used r) ≡ true → entries_below 1 (unused r) ≡ false → false ≡ well_formed r
      unfolding well_formed
      formed-rest b z = rw (eq-eqb (setup_refusal (setup_of r)) 0 s, le-leb r.dimension r.n h, b, z)

      pub formed-reduced : entries_below r.q (used r) ≡ true → entries_below 1 (unused r) ≡ true
          → is_reduced r.n r.dimension (used r) ≡ well_formed r
      unfolding well_formed
      formed-reduced b z = rw (eq-eqb (setup_refusal (setup_of r)) 0 s, le-leb r.dimension r.n h, b, z)
