-- The counts as the code looks them up. By [n, k] = [n, n-k] those up to k = n / 2 are enough.
--   half_place n k  == the place of n and of the smaller of k and n - k among all pairs of a row length and a number up to its half
--   halves         == the table's counts at these pairs, a part of 81 for each field size
--   square-small, half-below == what the code computes for it, and it, are small
--   half_at        == so each count of the table is found
-- Assumes nothing.
use Rattle.std.specs.Prelude.{◌≡◌, refl, List, ℕ, suc, ◌+◌, ◌*◌, ◌<◌, ◌≤◌, ◌%◌, ◌/◌, T}
use Rattle.std.proofs.Math.Path.{ap, ap₂}
use Rattle.std.proofs.Common.{◌∙◌, sym, mul-le-mul}
use native.Mathlib.Omega.{arith}
use Rattle.std.proofs.Math.ListN.{length, get_or}
use Rattle.basics.specs.Laws.Member.{position, position-below, position_at}
use Rattle.basics.specs.Laws.Ragged.{ragged, ragged-at}
use Rattle.basics.specs.Sum.{sum}
use Rattle.basics.specs.Table.{tabulate}
use Rattle.basics.specs.Laws.Table.{table_at}
use Rattle.basics.specs.Laws.TableSize.{tabulate-length}
use Rattle.basics.specs.Laws.Test.{every, equal}
use Rattle.field.specs.Field.{field_sizes, is_field_size}
use Rattle.counts.specs.Gaussian.{table_entry, capped, entry}
use Rattle.counts.specs.Laws.GaussianLaws.{gaussian-symmetric}
use Rattle.counts.specs.Laws.Nearer.{nearer, nearer-either, nearer-twice}

abbrev pub half_place : ℕ → ℕ → ℕ
half_place n k = (n + 1) * (n + 1) / 4 + nearer n k

pub square-small : (n : ℕ) → n ≤ 16 → (n + 1) * (n + 1) ≤ 289
square-small n h = let l : n + 1 ≤ 17 = omega arith in mul-le-mul l l

pub half-below : (n k : ℕ) → n ≤ 16 → k ≤ n → half_place n k ≤ 81
half-below n k narrow inside = omega (arith, square-small n narrow, nearer-twice n k inside)

-- of the table's row t, that of the row length t % 17
abbrev half_size : ℕ → ℕ
half_size t = suc (t % 17 / 2)

abbrev half_row : ℕ → List ℕ
half_row t = tabulate (λ k. entry (t * 17 + k)) 0 (half_size t)

unfoldable pub halves : List ℕ
halves = ragged half_row 0 (length field_sizes * 17)

pub part-below : (q : ℕ) → T (is_field_size q) → position q field_sizes < length field_sizes
unfolding is_field_size
part-below q t = position-below q field_sizes t

-- where each row's half begins, by one computed test
begins : (t : ℕ) → t < length field_sizes * 17 → sum t half_size ≡ t / 17 * 81 + (t % 17 + 1) * (t % 17 + 1) / 4
unfolding sum
begins =
    (every (λ t. sum t half_size ≡ t / 17 * 81 + (t % 17 + 1) * (t % 17 + 1) / 4)
    (λ t. equal (sum t half_size) (t / 17 * 81 + (t % 17 + 1) * (t % 17 + 1) / 4)) (length field_sizes * 17)
    ).shows tt

module _ (q n k : ℕ) (size : T (is_field_size q)) (narrow : n ≤ 16) (inside : k ≤ n) where
  -- the entry of q, n and j in the table's order
  entry_of : (j : ℕ) → j ≤ 16 → entry ((position q field_sizes * 17 + n) * 17 + j) ≡ table_entry q n j
  unfolding entry is_field_size
  entry_of j few =
      let p = position q field_sizes in
      let part : ((p * 17 + n) * 17 + j) / 289 ≡ p = omega arith in
      let row : ((p * 17 + n) * 17 + j) / 17 % 17 ≡ n = omega arith in
      let column : ((p * 17 + n) * 17 + j) % 17 ≡ j = omega arith in
      ap (λ s. table_entry s (((p * 17 + n) * 17 + j) / 17 % 17) (((p * 17 + n) * 17 + j) % 17))
      (ap (λ x. get_or field_sizes x 0) part ∙ position_at q field_sizes size)
      ∙ ap₂ (table_entry q) row column

  same : table_entry q n (nearer n k) ≡ table_entry q n k
  same = nearer-either n k (λ j. table_entry q n j ≡ table_entry q n k) (λ l. refl) (λ l. ap capped (sym (gaussian-symmetric q n k inside)))

  pub half_at : get_or halves (position q field_sizes * 81 + half_place n k) 0 ≡ table_entry q n k
  unfolding halves
  half_at =
      let p = position q field_sizes in
      let b : position q field_sizes < length field_sizes = part-below q size in
      let half : nearer n k + nearer n k ≤ n = nearer-twice n k inside in
      let low : p * 17 + n < length field_sizes * 17 = omega arith in
      let part : (p * 17 + n) / 17 ≡ p = omega arith in
      let row : (p * 17 + n) % 17 ≡ n = omega arith in
      let within : nearer n k < half_size (p * 17 + n) = rw row (omega arith) in
      let begin : sum (p * 17 + n) half_size ≡ p * 81 + (n + 1) * (n + 1) / 4 = begins (p * 17 + n) low ∙ rw (part, row) in
      let place : p * 81 + half_place n k ≡ sum (p * 17 + n) half_size + nearer n k = rw begin (omega arith) in
      ap (λ i. get_or (ragged half_row 0 (length field_sizes * 17)) i 0) place
      ∙ ragged-at half_row half_size (length field_sizes * 17) (p * 17 + n) (nearer n k)
      (λ s h. tabulate-length (λ i. entry (s * 17 + i)) 0 (half_size s)) low within
      ∙ table_at (λ i. entry ((p * 17 + n) * 17 + i)) (half_size (p * 17 + n)) (nearer n k) within
      ∙ entry_of (nearer n k) (omega arith)
      ∙ same
