-- The packed partition counts: their rule at the places where the code reads, and the bounds of these places.
use mathlib.Core.Path.{◌≡◌, ap, ap₂, ◌∙◌, sym}
use mathlib.Core.List.{List, []}
use Prim.Native.Nat.{ℕ, ◌+◌, ◌*◌, ◌-◌, ◌<◌, ◌≤◌, ◌/◌, ◌%◌}
use native.Mathlib.Omega.{arith}
use borrow.Author.Tests.{le-leb}
use lib.ListN.{get_or, length}
use Rattle.basics.specs.Laws.Ragged.{ragged, ragged-at}
use Rattle.basics.specs.Sum.{sum}
use Rattle.basics.specs.Laws.Test.{every, equal, equal_lists, below}
use Rattle.basics.specs.Table.{tabulate}
use Rattle.basics.specs.Laws.Table.{table_at}
use Rattle.basics.specs.Laws.TableSize.{tabulate-length}
use Rattle.counts.specs.Laws.Halves.{half_place, half-below}
use Rattle.partitions.specs.Partitions.{box_count}
use Rattle.partitions.specs.Laws.BoxTable.{box_row, box_size, box_table, level, next_rows, add_rows, shifted, level-at}
use Rattle.partitions.specs.Laws.PackedCounts.{kept_counts, pack_four, words, begins, box_begin, read_box}

-- each row has its length, by one computed test
rows-sized : (t : ℕ) → t < 289 → length (box_row t) ≡ box_size t
unfolding level next_rows add_rows shifted
rows-sized = (every (λ t. length (box_row t) ≡ box_size t) (λ t. equal (length (box_row t)) (box_size t)) 289).shows tt

abbrev read_row : ℕ → List ℕ
read_row t = tabulate (read_box (t / 17) (t % 17)) 0 (box_size t)

-- all counts are read right, by one computed test
tables-right : ragged read_row 0 289 ≡ box_table
unfolding box_table ragged tabulate level next_rows add_rows shifted kept_counts pack_four words begins sum
tables-right = (equal_lists (ragged read_row 0 289) box_table).shows tt

module _ (n k m : ℕ) (narrow : n ≤ 16) (inside : k ≤ n) (room : m ≤ k * (n - k)) where
  row_of : (n * 17 + k) / 17 ≡ n
  row_of = omega arith

  column-of : (n * 17 + k) % 17 ≡ k
  column-of = omega arith

  within : m < box_size (n * 17 + k)
  within = rw (row_of, column-of, le-leb k n inside) (omega arith)

  pub box-at : read_box n k m ≡ box_count n k m
  unfolding box_table
  box-at =
      let t = n * 17 + k in
      let low : n * 17 + k < 289 = omega arith in
      sym (ap₂ (λ a b. read_box a b m) row_of column-of)
      ∙ sym (table_at (read_box (t / 17) (t % 17)) (box_size t) m within)
      ∙ sym (ragged-at read_row box_size 289 t m (λ s h. tabulate-length (read_box (s / 17) (s % 17)) 0 (box_size s)) low within)
      ∙ ap (λ l. get_or l (sum t box_size + m) 0) tables-right
      ∙ ragged-at box_row box_size 289 t m rows-sized low within
      ∙ ap₂ (λ a b. get_or (get_or (level a) b []) m 0) row_of column-of
      ∙ level-at n k m

-- the counts begin below 888, by one computed test
place-below : (t : ℕ) → t < 82 → get_or begins t 0 < 888
unfolding begins ragged tabulate sum
place-below = (every (λ t. get_or begins t 0 < 888) (λ t. below (get_or begins t 0) 888) 82).shows tt

pub begin-below : (n k : ℕ) → n ≤ 16 → k ≤ n → box_begin n k < 888
begin-below n k narrow inside = let h : half_place n k ≤ 81 = half-below n k narrow inside in place-below (half_place n k) (omega arith)
