-- The size of the diagram with a given Ferrers index, searched from the largest down: the contract of `ferrers::find_size`, and its steps;
-- no part of the meaning.
--   Found q n k index size rest     == the matrix with the index has `size` dots, and `rest` is its index among those of that size
--   Searching q n k index m rest    == the matrix has at most m dots, and `rest` is its index among those
--   searching-start                 == at the start nothing is passed
--   searching-found, -next, -end    == the size is m; it is smaller; it is 0
--   found-place, found-drawn        == its diagram has the quotient by q^size as its place, and its tableau is the remainder
-- Assumes nothing.
use Rattle.std.specs.Prelude.{◌≡◌, refl, ℕ, suc, ◌+◌, ◌*◌, ◌-◌, ◌^◌, ◌/◌, ◌%◌, ◌<◌, ◌≤◌}
use Rattle.std.proofs.Math.Path.{ap, sym}
use Rattle.std.proofs.Common.{◌∙◌, subst, le_refl, add-sub_of_le, div-one, div-lt_iff_lt-mul, lt-ltb, le-ltb}
use Rattle.std.proofs.Math.Nat.{pow-zero, mod-one}
use native.Mathlib.Omega.{arith}
use Rattle.basics.specs.Sum.{sum}
use Rattle.counts.specs.Gaussian.{gaussian}
use Rattle.matrix.specs.Shape.{cell, flatten}
use Rattle.partitions.specs.Laws.GaussianPartitions.{weight, gaussian-sized}
use Rattle.partitions.specs.Partitions.{box_count}
use Rattle.ferrers.specs.Drawn.{diagram_shape, sized_shape, ferrers_shape, drawn_ferrers}

pub record Found (q n k index size rest : ℕ) : Type 0 where
  pub within : size ≤ k * (n - k)
  pub below : rest < box_count n k size * q ^ size
  pub shape : ferrers_shape q n k index ≡ diagram_shape q n k size (rest / q ^ size) (rest % q ^ size)

pub record Searching (q n k index m rest : ℕ) : Type 0 where
  pub within : m ≤ k * (n - k)
  pub below : rest < sum (suc m) (weight q n k)
  pub shape : ferrers_shape q n k index ≡ sized_shape q n k m rest

pub searching-start : {q n k index : ℕ} → k ≤ n → index < gaussian q n k → Searching q n k index (k * (n - k)) index
unfolding ferrers_shape
searching-start {q} {n} {k} {index} rows h =
    record {
      within = le_refl (k * (n - k));
      below = subst (λ g. index < g) (gaussian-sized q n k (n - k) (sym (add-sub_of_le rows))) h;
      shape = refl;
    }

pub searching-end : {q n k index m rest : ℕ} → m ≡ 0 → Searching q n k index m rest → Found q n k index 0 rest
unfolding sum sized_shape
searching-end {q} {n} {k} {index} {m} {rest} z s =
    let below : rest < 0 + weight q n k 0 = subst (λ j. rest < sum (suc j) (weight q n k)) z s.below in
    record {
      within = omega arith;
      below = omega arith;
      shape = s.shape ∙ ap (λ j. sized_shape q n k j rest) z ∙ rw (pow-zero, div-one, mod-one);
    }

module _ (q n k index m rest w : ℕ) (counted : w ≡ box_count n k (suc m) * q ^ suc m) (s : Searching q n k index (suc m) rest) where
  found : rest < w → Found q n k index (suc m) rest
  unfolding sized_shape
  found h =
      let below : rest < weight q n k (suc m) = omega arith in
      record { within = s.within; below = below; shape = s.shape ∙ rw (lt-ltb rest (weight q n k (suc m)) below) }

  next : w ≤ rest → Searching q n k index m (rest - w)
  unfolding sized_shape sum
  next h =
      let above : weight q n k (suc m) ≤ rest = omega arith in
      let below = s.below in
      record {
        within = omega (arith, s.within);
        below = omega arith;
        shape = s.shape ∙ rw (le-ltb rest (weight q n k (suc m)) above, counted);
      }

module _ {q n k index m rest : ℕ} (w : ℕ) (some : 0 < m) (counted : w ≡ box_count n k m * q ^ m) (s : Searching q n k index m rest) where
  pub searching-found : rest < w → Found q n k index m rest
  searching-found h =
      let e : m ≡ suc (m - 1) = omega arith in
      subst (λ j. Found q n k index j rest) (sym e)
      (found q n k index (m - 1) rest w (subst (λ j. w ≡ box_count n k j * q ^ j) e counted)
      (subst (λ j. Searching q n k index j rest) e s) h)

  pub searching-next : w ≤ rest → Searching q n k index (m - 1) (rest - w)
  searching-next h =
      let e : m ≡ suc (m - 1) = omega arith in
      next q n k index (m - 1) rest w (subst (λ j. w ≡ box_count n k j * q ^ j) e counted) (subst (λ j. Searching q n k index j rest) e s) h

-- p is the power that the code divides by
module _ {q n k index size rest : ℕ} (p : ℕ) (power : p ≡ q ^ size) (f : Found q n k index size rest) where
  pub found-place : 0 < p → rest / p < box_count n k size
  found-place positive = (div-lt_iff_lt-mul positive).1 (rw power f.below)

  pub found-drawn : flatten k n (cell q (diagram_shape q n k size (rest / p) (rest % p)) k n) ≡ drawn_ferrers q n k index
  unfolding drawn_ferrers
  found-drawn =
      ap (λ s. flatten k n (cell q s k n)) (ap (λ y. diagram_shape q n k size (rest / y) (rest % y)) power ∙ sym f.shape)
