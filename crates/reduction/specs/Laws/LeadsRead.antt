-- The leads of the rows of a flat matrix; no part of the meaning.
--   leads-at                  == the lead of row i, read from the list of leads
--   lead-read, lead-taken     == read from a list that begins with them, and from its front
--   read-inside, taken-inside == of reduced rows that is the place of an entry
-- Assumes nothing.
use Rattle.std.specs.Prelude.{◌≡◌, refl, List, [], ◌∷◌, ℕ, zero, suc, ◌*◌, ◌<◌, length, get_or, take}
use Rattle.std.proofs.Common.{ap, sym, ◌∙◌, le_of_suc-le-suc, not-suc-le-zero, arith, get_or-take}
use Rattle.linear.specs.Span.{rows_of}
use Rattle.linear.specs.Eliminate.{lead_of}
use Rattle.linear.specs.Laws.FlatMatrix.{rows-length}
use Rattle.linear.specs.Laws.FlatRows.{rows_at}
use Rattle.linear.specs.Laws.InsertMany.{Kept}
use Rattle.rows.specs.Laws.Steps.{part}
use Rattle.reduction.specs.Laws.Leads.{lead-inside}
use Rattle.reduction.specs.Laws.Steps.{leads}

pub leads-at : (n : ℕ) (rs : List (List ℕ)) (i : ℕ) → i < length rs → get_or (leads n rs) i 0 ≡ lead_of n (get_or rs i [])
unfolding leads
leads-at n [] i h = absurd (not-suc-le-zero h)
leads-at n (r ∷ rs) zero h = refl
leads-at n (r ∷ rs) (suc i) h = leads-at n rs i (le_of_suc-le-suc h)

module _ (n d : ℕ) (m pivots : List ℕ) (known : take d pivots ≡ leads n (rows_of n d m)) (i : ℕ) (h : i < d) where
  pub lead-taken : get_or (take d pivots) i 0 ≡ lead_of n (part n (i * n) m)
  lead-taken =
      ap (λ x. get_or x i 0) known ∙ leads-at n (rows_of n d m) i (omega (arith, rows-length n d m)) ∙ ap (lead_of n) (rows_at n m d i h)

  pub lead-read : get_or pivots i 0 ≡ lead_of n (part n (i * n) m)
  lead-read = sym (get_or-take d pivots i 0 h) ∙ lead-taken

  pub read-inside : (q : ℕ) → Kept q n (rows_of n d m) → get_or pivots i 0 < n
  read-inside q kept = rw lead-read (lead-inside q n d m kept i h)

  pub taken-inside : (q : ℕ) → Kept q n (rows_of n d m) → get_or (take d pivots) i 0 < n
  taken-inside q kept = rw lead-taken (lead-inside q n d m kept i h)
