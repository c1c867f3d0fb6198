-- The inverses of all fields as one list, which the code reads; no part of the meaning: what an inverse is says Field.
--   inverses    == a part of eight for each field size: what stands at a is the inverse of a, 0 where a is no element
--   place-small == the place of an element is within the list
--   inverse-at  == there its inverse stands
-- Assumes nothing.
use Rattle.std.specs.Prelude.{◌≡◌, List, ℕ, ◌+◌, ◌*◌, ◌/◌, ◌%◌, ◌<◌, T, ltb, length, get_or}
use Rattle.std.proofs.Common.{ap, ap₂, ◌∙◌, arith, lt-ltb}
use Rattle.basics.specs.Choice.{pick}
use Rattle.basics.specs.Table.{tabulate}
use Rattle.basics.specs.Laws.Member.{position, position-below, position_at}
use Rattle.basics.specs.Laws.Table.{table_at}
use Rattle.field.specs.Field.{field_sizes, is_field_size, invert}
use Rattle.field.specs.Laws.Small.{size_small}

-- the inverse of a, if a is below q
abbrev inverse_below : ℕ → ℕ → ℕ
inverse_below q a = pick (ltb a q) (invert q a) 0

-- what stands at place i: the inverse of i % 8 in the field of part i / 8
unfoldable pub entry : ℕ → ℕ
entry i = inverse_below (get_or field_sizes (i / 8) 0) (i % 8)

unfoldable pub inverses : List ℕ
inverses = tabulate entry 0 (length field_sizes * 8)

pub place-small : (q a : ℕ) → T (is_field_size q) → a < q → position q field_sizes * 8 + a < length field_sizes * 8
unfolding is_field_size
place-small q a size element =
    let part : position q field_sizes < length field_sizes = position-below q field_sizes size in
    omega (arith, size_small q size)

pub inverse-at : (q a : ℕ) → T (is_field_size q) → a < q → get_or inverses (position q field_sizes * 8 + a) 0 ≡ invert q a
unfolding is_field_size entry inverses
inverse-at q a size element =
    let p = position q field_sizes in
    let small : a < 8 = omega (arith, size_small q size) in
    let part : (p * 8 + a) / 8 ≡ p = omega arith in
    let rest : (p * 8 + a) % 8 ≡ a = omega arith in
    table_at entry (length field_sizes * 8) (p * 8 + a) (place-small q a size element)
    ∙ ap₂ (λ x y. inverse_below (get_or field_sizes x 0) y) part rest
    ∙ ap (λ s. inverse_below s a) (position_at q field_sizes size)
    ∙ ap (λ b. pick b (invert q a) 0) (lt-ltb a q element)
