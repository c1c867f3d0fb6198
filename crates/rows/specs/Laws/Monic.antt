-- A row taken once, and a row whose first nonzero entry is 1, need no scaling; no part of the meaning.
--   once          == once an entry is the entry
--   only-multiple == a multiple added to 0 is the multiple
--   monic-same    == a row whose first nonzero entry is 1 is itself, scaled
-- Assumes nothing.
use Rattle.std.specs.Prelude.{◌≡◌, List, ℕ, ◌<◌, get_or}
use Rattle.std.proofs.Common.{ap, ◌∙◌, zero-lt-suc, arith, ext_get_or}
use Rattle.std.proofs.Math.Path.{sym}
use Rattle.basics.specs.Laws.Table.{table_at}
use Rattle.basics.specs.Laws.TableSize.{tabulate-length}
use Rattle.field.specs.Field.{add, multiply, invert}
use Rattle.field.specs.FieldLaws.{Laws}
use Rattle.linear.specs.Span.{Row}
use Rattle.linear.specs.Eliminate.{lead_of, monic}
use Rattle.linear.specs.Laws.Entries.{row_below}

pub only-multiple : (q : ℕ) (laws : Laws q) (c x : ℕ) → c < q → x < q → add q 0 (multiply q c x) ≡ multiply q c x
only-multiple q laws c x hc hx =
    let zero-below : 0 < q = omega (arith, laws.one_below) in
    let below : multiply q c x < q = laws.multiply-below c hc x hx in
    laws.add_comm 0 zero-below (multiply q c x) below ∙ laws.add-zero (multiply q c x) below

module _ (q : ℕ) (laws : Laws q) (n : ℕ) (v : List ℕ) (row : Row q n v) where
  inverse-one : invert q 1 ≡ 1
  inverse-one =
      let one = laws.one_below in
      let below : invert q 1 < q = laws.invert-below 1 one in
      sym (laws.multiply-one (invert q 1) below) ∙ laws.multiply-comm (invert q 1) below 1 one
      ∙ laws.multiply-invert 1 one (zero-lt-suc 0)

  once : (j : ℕ) → multiply q 1 (get_or v j 0) ≡ get_or v j 0
  once j =
      let one = laws.one_below in
      let below : get_or v j 0 < q = row_below q laws n row j in
      laws.multiply-comm 1 one (get_or v j 0) below ∙ laws.multiply-one (get_or v j 0) below

  entry-same : get_or v (lead_of n v) 0 ≡ 1 → (j : ℕ) → multiply q (invert q (get_or v (lead_of n v) 0)) (get_or v j 0) ≡ get_or v j 0
  entry-same e j = ap (λ a. multiply q a (get_or v j 0)) (ap (invert q) e ∙ inverse-one) ∙ once j

  pub monic-same : get_or v (lead_of n v) 0 ≡ 1 → v ≡ monic q n v
  unfolding monic
  monic-same e =
      sym
      (ext_get_or 0 _ _ (tabulate-length _ 0 n ∙ sym row.0)
      (λ j h. table_at _ n j (rw tabulate-length at h) ∙ entry-same e j))
