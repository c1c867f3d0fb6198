-- A row written over a part of bytes, entry by entry; no part of the meaning.
--   entered n to w m j == m with the first j entries of the row w in their places from `to` on
--   entered-none, entered-more, entered_all == before the first entry, one entry more, all entries
--   entered-to, entered-apart == the place of the next entry, and every part that lies apart, are m's own
--   sum-length, sum-at == the length and the entries of a row plus a multiple of another
-- Assumes nothing.
use Rattle.std.specs.Prelude.{◌≡◌, List, ℕ, suc, ◌+◌, ◌<◌, ◌≤◌, length, get_or, take, drop, set}
use Rattle.std.proofs.Common.{ap, sym, arith, length-take-le}
use Rattle.basics.specs.Laws.Table.{table_at}
use Rattle.basics.specs.Laws.TableSize.{tabulate-length}
use Rattle.rows.specs.Laws.Steps.{part, put, Apart, plus_multiple, plus_multiple_at}
use Rattle.rows.specs.Laws.Write.{over, part_length, put_same, put-apart, over-length, over-all, over-read, over-more}

abbrev pub entered : ℕ → ℕ → List ℕ → List ℕ → ℕ → List ℕ
entered n to w m j = put n to (over j w (part n to m)) m

module _ (n to : ℕ) (w m : List ℕ) where
  pub entered-none : m ≡ entered n to w m 0
  entered-none = sym (put_same n to m)

  module _ (lw : length w ≡ n) (h : to + n ≤ length m) where
    old-length : length (part n to m) ≡ n
    old-length = part_length n to m h

    front : length (take to m) ≡ to
    front = length-take-le to m (omega arith)

    pub entered_all : entered n to w m n ≡ put n to w m
    entered_all = ap (λ x. put n to x m) (over-all n w (part n to m) lw old-length)

    module _ (j : ℕ) (l : j < n) where
      pub entered-to : get_or (entered n to w m j) (to + j) 0 ≡ get_or (part n to m) j 0
      entered-to = over-read n w (part n to m) lw old-length to (take to m) (drop (to + n) m) front j l

      pub entered-apart : (from : ℕ) → Apart n from to → get_or (entered n to w m j) (from + j) 0 ≡ get_or (part n from m) j 0
      entered-apart from =
          put-apart n from to m (over j w (part n to m)) (over-length n w (part n to m) lw old-length j (omega arith)) h j l

      pub entered-more : set (entered n to w m j) (to + j) (get_or w j 0) ≡ entered n to w m (suc j)
      entered-more = over-more n w (part n to m) lw old-length to (take to m) (drop (to + n) m) front j l

pub sum-length : (q n c : ℕ) (r v : List ℕ) → length (plus_multiple q n c r v) ≡ n
unfolding plus_multiple
sum-length q n c r v = tabulate-length _ 0 n

pub sum-at : (q n c : ℕ) (r v : List ℕ) (j : ℕ) → j < n → plus_multiple_at q c r v j ≡ get_or (plus_multiple q n c r v) j 0
unfolding plus_multiple
sum-at q n c r v j l = sym (table_at (plus_multiple_at q c r v) n j l)
