-- Laws of the listing's lines; no part of the meaning.
--   lines-append    == the lines of some indexes, and then those of the next
--   lines_more      == one more line
-- Assumes nothing.
use Rattle.std.specs.Prelude.{◌≡◌, ◌++◌}
use Rattle.std.proofs.Math.Path.{ap, ap₂, sym}
use Rattle.std.proofs.Common.{◌∙◌, append_assoc, append-nil, add-zero, zero-add}
use Prim.Native.Nat.{ℕ, zero, suc, ◌+◌}
use native.Mathlib.Omega.{arith}
use Rattle.listing.specs.Listing.{listing_line, lines_from}

module _ (q n k : ℕ) where
  pub lines-append : (i a b : ℕ) → lines_from q n k i (a + b) ≡ lines_from q n k i a ++ lines_from q n k (i + a) b
  unfolding lines_from
  lines-append i zero b = ap₂ (lines_from q n k) (sym (add-zero i)) (zero-add b)
  lines-append i (suc a) b =
      let size : suc a + b ≡ suc (a + b) = omega arith in
      let place : suc i + a ≡ i + suc a = omega arith in
      ap (lines_from q n k i) size
      ∙ ap (λ t. listing_line q n k i ++ t) (lines-append (suc i) a b ∙ ap (λ j. lines_from q n k (suc i) a ++ lines_from q n k j b) place)
      ∙ sym (append_assoc (listing_line q n k i) (lines_from q n k (suc i) a) (lines_from q n k (i + suc a) b))

  pub lines_more : (i m : ℕ) → lines_from q n k i (m + 1) ≡ lines_from q n k i m ++ listing_line q n k (i + m)
  unfolding lines_from
  lines_more i m = lines-append i m 1 ∙ ap (λ t. lines_from q n k i m ++ t) (append-nil (listing_line q n k (i + m)))
