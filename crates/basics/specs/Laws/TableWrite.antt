-- A list that a table is written into, one entry after the other from the front, as a loop writes it.
--   write-none   == before the first entry it is the list
--   write_read   == what stands at the next place is the list's own
--   write-more   == one more entry
--   write-all    == with all entries written it is the table
--   table-itself == a list is the table of its own entries
-- Assumes nothing.
use Rattle.std.specs.Prelude.{◌≡◌, List, ◌++◌, ℕ, suc, ◌+◌, ◌<◌, ◌≤◌, length, get_or, drop, set}
use Rattle.std.proofs.Math.Path.{refl}
use Rattle.std.proofs.Common.{ap, sym, ◌∙◌, append-nil, add-one, arith, drop_of_length-le, drop-cons, ext_get_or}
use Rattle.std.proofs.lemmas.List.{set_at, get_or_at}
use Rattle.std.proofs.Math.Seq.{append_snoc}
use Rattle.basics.specs.Table.{tabulate}
use Rattle.basics.specs.Laws.Table.{table_at}
use Rattle.basics.specs.Laws.TableLaws.{tabulate-last}
use Rattle.basics.specs.Laws.TableSize.{tabulate-length}

pub table-itself : (l : List ℕ) (n : ℕ) → length l ≡ n → tabulate (λ j. get_or l j 0) 0 n ≡ l
table-itself l n e =
    ext_get_or 0 (tabulate (λ j. get_or l j 0) 0 n) l (tabulate-length _ 0 n ∙ sym e)
    (λ j h. table_at (λ j. get_or l j 0) n j (omega (arith, tabulate-length (λ j. get_or l j 0) 0 n)))

module _ (f : ℕ → ℕ) (l : List ℕ) where
  pub write-none : l ≡ tabulate f 0 0 ++ drop 0 l
  unfolding tabulate
  write-none = refl

  pub write_read : (j : ℕ) → j < length l → get_or (tabulate f 0 j ++ drop j l) j 0 ≡ get_or l j 0
  write_read j h =
      ap (λ (x : List ℕ). get_or (tabulate f 0 j ++ x) j 0) (drop-cons l j 0 h)
      ∙ get_or_at (tabulate f 0 j) (get_or l j 0) (drop (suc j) l) 0 j (tabulate-length f 0 j)

  pub write-more : (j : ℕ) → j < length l → set (tabulate f 0 j ++ drop j l) j (f j) ≡ tabulate f 0 (j + 1) ++ drop (j + 1) l
  write-more j h =
      ap (λ (x : List ℕ). set (tabulate f 0 j ++ x) j (f j)) (drop-cons l j 0 h)
      ∙ set_at (tabulate f 0 j) (get_or l j 0) (drop (suc j) l) (f j) j (tabulate-length f 0 j)
      ∙ sym (append_snoc (tabulate f 0 j) (f j) (drop (suc j) l))
      ∙ ap (λ (x : List ℕ). x ++ drop (suc j) l) (sym (tabulate-last f j))
      ∙ ap (λ k. tabulate f 0 k ++ drop k l) (sym (add-one j))

  pub write-all : (j : ℕ) → length l ≤ j → tabulate f 0 j ++ drop j l ≡ tabulate f 0 j
  write-all j h = ap (λ (x : List ℕ). tabulate f 0 j ++ x) (drop_of_length-le l h) ∙ append-nil (tabulate f 0 j)
