-- The field sizes are small: a computed test over the six.
--   size_small   == a field size is above 1 and at most 8
-- Assumes nothing.
use Rattle.std.specs.Prelude.{ℕ, ◌<◌, ◌≤◌, T}
use Rattle.std.proofs.Common.{le_of_suc-le-suc}
use Rattle.basics.specs.Laws.Member.{for_each}
use Rattle.basics.specs.Laws.Test.{below, always, ◌⊛◌}
use Rattle.field.specs.Field.{field_sizes, is_field_size}

pub size_small : (q : ℕ) → T (is_field_size q) → (1 < q) × (q ≤ 8)
unfolding is_field_size
size_small = (for_each (λ q. (1 < q) × (q ≤ 8)) (λ q. always (λ a b. (a, le_of_suc-le-suc b)) ⊛ below 1 q ⊛ below q 9) field_sizes).shows tt
