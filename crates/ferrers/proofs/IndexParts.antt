-- The parts of formula (14) fit 64 bits, for accepted settings: the index is below the settings' count; no part of the meaning.
--   place_of n k m   == the place of a matrix's diagram among those of its size, formula (12)
--   Parts, parts    == the power, the place, their product, the larger diagrams with it, the tableau and the index
-- Assumes nothing.
use Rattle.std.specs.Prelude.{List, ℕ, ◌+◌, ◌*◌, ◌-◌, ◌^◌, ◌≤◌}
use Rattle.std.proofs.Common.{mul-le-mul_right, arith}
use Rattle.std.proofs.Math.Nat.{one-le-pow}
use Rattle.field.specs.Laws.Small.{size_small}
use Rattle.counts.specs.Gaussian.{greatest_count}
use Rattle.settings.specs.Laws.Accepted.{Accepted}
use Rattle.matrix.specs.Matrix.{Reduced}
use Rattle.ferrers.specs.Laws.SizeOf.{size-within}
use Rattle.ferrers.specs.Ferrers.{size, diagram, diagram_place, larger_diagrams, tableau_value, ferrers_index}
use Rattle.ferrers.proofs.Theorems.{index-below-count}

abbrev pub place_of : ℕ → ℕ → List ℕ → ℕ
place_of n k m = diagram_place k (n - k) (diagram n k m) (size n k m)

pub record Parts (q n k : ℕ) (m : List ℕ) : Type 0 where
  pub within : size n k m ≤ k * (n - k)
  pub place : place_of n k m ≤ greatest_count
  pub product : q ^ size n k m * place_of n k m ≤ greatest_count
  pub two : larger_diagrams q k (n - k) (size n k m) + q ^ size n k m * place_of n k m ≤ greatest_count
  pub tableau : tableau_value q n k m ≤ greatest_count
  pub index : ferrers_index q n k m ≤ greatest_count

pub parts : {q n k : ℕ} {m : List ℕ} → Accepted q n k → Reduced q n k m → Parts q n k m
unfolding ferrers_index
parts {q} {n} {k} {m} a r =
    let (big, small) = size_small q a.size in
    let one : 1 * place_of n k m ≤ q ^ size n k m * place_of n k m =
    mul-le-mul_right (place_of n k m) (one-le-pow (size n k m) q (omega arith)) in
    let b = index-below-count r in
    let c = a.counted in
    record {
      within = size-within r;
      place = omega arith;
      product = omega arith;
      two = omega arith;
      tableau = omega arith;
      index = omega arith;
    }
