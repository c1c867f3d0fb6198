-- What a receiver that passes the test obeys; no part of the meaning.
--   Sound r         == the settings are accepted, the dimension is at most n, the entries used are a reduced matrix, and the others are 0
--   sound           == a receiver that passes the test, and has 256 entries as every real one has, is Sound
--   used-reduced    == the entries that a Sound receiver uses pass the test of a reduced matrix
--   well-formed     == a Sound receiver passes the test
-- Assumes nothing.
use Rattle.std.specs.Prelude.{◌≡◌, ℕ, ◌+◌, ◌-◌, ◌*◌, ◌≤◌, ◌<◌, eqb, leb}
use Rattle.std.proofs.Math.Path.{ap, ap₂, sym}
use Rattle.std.proofs.Common.{◌∙◌, mul-le-mul, eq-eqb, le-leb}
use Rattle.std.proofs.Math.Bool.{true, ◌&&◌}
use native.Mathlib.Omega.{arith}
use Rattle.std.proofs.Math.Dec.{eqb→eq, leb→le}
use Rattle.std.proofs.Math.ListN.{length, get_or, length-drop}
use Rattle.std.proofs.Math.Seq.{length-take-le, get_or-drop}
use Rattle.basics.specs.Laws.Choice.{is_true, holds}
use Rattle.basics.specs.Laws.Test.{and_left, and_right}
use Rattle.settings.specs.Settings.{settings_refusal}
use Rattle.settings.specs.Laws.Accepted.{accepted}
use Rattle.matrix.specs.Matrix.{entries_below, is_reduced, Reduced}
use Rattle.matrix.specs.Laws.Tests.{entries_below_lem, entries-below-true, reduced-exactly}
use Rattle.receiver.specs.Receiver.{setup_of, setup_refusal, used, unused, well_formed}
use Rattle.receiver.specs.declared.Receiver.{Receiver}

pub record Sound (r : Receiver) : Type 0 where
  pub settings : setup_refusal (setup_of r) ≡ 0
  pub fits : r.dimension ≤ r.n
  pub reduced : Reduced r.q r.n r.dimension (used r)
  pub rest : (i : ℕ) → i < 256 → r.dimension * r.n ≤ i → get_or r.entries i 0 ≡ 0

-- the entries used are among the 256
pub used-fit : (q n k d : ℕ) → settings_refusal q n k ≡ 0 → d ≤ n → d * n ≤ 256
used-fit q n k d s h = let a = accepted q n k s in mul-le-mul {n₁ = d} {m₁ = n} {n₂ = 16} {m₂ = 16} (omega (arith, a.narrow)) a.narrow

module _ (r : Receiver) where
  pub sound : length r.entries ≡ 256 → well_formed r ≡ true → Sound r
  unfolding well_formed
  sound size w =
      let t₀ = holds (well_formed r) w in
      let t₁ = and_right (eqb (setup_refusal (setup_of r)) 0) _ t₀ in
      let t₂ = and_right (leb r.dimension r.n) _ t₁ in
      let t₃ = and_right (entries_below r.q (used r)) _ t₂ in
      let s : setup_refusal (setup_of r) ≡ 0 = eqb→eq _ 0 (and_left (eqb (setup_refusal (setup_of r)) 0) _ t₀) in
      let h : r.dimension ≤ r.n = leb→le _ _ (and_left (leb r.dimension r.n) _ t₁) in
      let fit : r.dimension * r.n ≤ 256 = used-fit r.q r.n r.k r.dimension s h in
      let l : length (used r) ≡ r.dimension * r.n = length-take-le (r.dimension * r.n) r.entries (omega (arith, fit)) in
      record {
        settings = s;
        fits = h;
        reduced =
            (reduced-exactly r.q r.n r.dimension (used r) l (and_left (entries_below r.q (used r)) _ t₂)).0
            (and_right (entries_below 1 (unused r)) _ t₃);
        rest =
            λ i b g.
            let at : r.dimension * r.n + (i - r.dimension * r.n) ≡ i = omega arith in
            let below =
            entries_below_lem 1 (unused r) (and_left (entries_below 1 (unused r)) _ t₃) (i - r.dimension * r.n)
            (simp length-drop (omega arith))
            in
            ap (λ x. get_or r.entries x 0) (sym at) ∙ sym (get_or-drop (r.dimension * r.n) r.entries (i - r.dimension * r.n) 0)
            ∙ omega (arith, below);
      }

  used-below : Sound r → entries_below r.q (used r) ≡ true
  used-below s = entries-below-true r.q (used r) (λ i h. s.reduced.below i (omega (arith, s.reduced.size)))

  pub used-reduced : Sound r → is_reduced r.n r.dimension (used r) ≡ true
  used-reduced s =
      is_true (is_reduced r.n r.dimension (used r))
      ((reduced-exactly r.q r.n r.dimension (used r) s.reduced.size (holds (entries_below r.q (used r)) (used-below s))).1
      s.reduced)

  pub well-formed : length r.entries ≡ 256 → Sound r → well_formed r ≡ true
  unfolding well_formed
  well-formed size s =
      ap₂ ◌&&◌ (eq-eqb _ 0 s.settings) (ap₂ ◌&&◌ (le-leb _ _ s.fits) (ap₂ ◌&&◌ (used-below s) (ap₂ ◌&&◌ others (used-reduced s))))
    where
      others : entries_below 1 (unused r) ≡ true
      others =
          entries-below-true 1 (unused r)
          (λ i h.
          let l : length (unused r) ≡ 256 - r.dimension * r.n = length-drop (r.dimension * r.n) r.entries ∙ omega arith in
          let z = get_or-drop (r.dimension * r.n) r.entries i 0 ∙ s.rest (r.dimension * r.n + i) (omega arith) (omega arith) in
          omega (arith, z))
