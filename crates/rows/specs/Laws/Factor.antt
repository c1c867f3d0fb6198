-- The factor of an elimination, the negative of an entry; no part of the meaning.
--   negative-below == it is an element
--   eliminated-by  == the row plus that multiple of the other is the row eliminated
-- Assumes nothing.
use Rattle.std.specs.Prelude.{◌≡◌, List, ℕ, ◌<◌, T, get_or}
use Rattle.std.proofs.Common.{ap, ◌∙◌}
use Rattle.field.specs.Field.{is_field_size, negate}
use Rattle.field.specs.Laws.Decide.{laws}
use Rattle.linear.specs.Span.{Row}
use Rattle.linear.specs.Eliminate.{lead_of, eliminate}
use Rattle.linear.specs.Laws.Entries.{row_below}
use Rattle.rows.specs.Laws.Steps.{plus_multiple}

module _ (q n : ℕ) (v : List ℕ) (p x : ℕ) (is : x ≡ negate q (get_or v p 0)) where
  pub negative-below : T (is_field_size q) → Row q n v → x < q
  negative-below size row = let law = laws q size in rw is (law.negate-below _ (row_below q law n row p))

  pub eliminated-by : (r : List ℕ) → p ≡ lead_of n r → plus_multiple q n x r v ≡ eliminate q n r v
  unfolding eliminate plus_multiple
  eliminated-by r e = ap (λ y. plus_multiple q n y r v) (is ∙ ap (λ i. negate q (get_or v i 0)) e)
