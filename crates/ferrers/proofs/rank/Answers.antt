-- `ferrers::rank`: formula (14) part by part, each at most the index, which is below the settings' count.
use Rattle.std.proofs.Common.{◌≡◌, ℕ, List, ◌+◌, ◌*◌, ◌-◌, ◌^◌, ap, ap₂, ◌∙◌, arith}
use Rattle.ferrers.specs.Ferrers.{size, larger_diagrams, ferrers_index}
use Rattle.ferrers.specs.Laws.Weight.{sizes}
use Rattle.ferrers.proofs.IndexParts.{parts, place_of}
use Rattle.ferrers.proofs.rank.Goals as goal

pub larger-requires : goal.larger-requires
larger-requires c = (c.requires.0, rw c.size_of-total.ensures (parts c.requires.0 c.requires.1).within)

pub power-requires : goal.power-requires
power-requires c =
    let z = sizes c.size_of-total.result c.requires.0 (rw c.size_of-total.ensures (parts c.requires.0 c.requires.1).within) in
    (z.size, z.short, z.power)

-- the larger diagrams, and the product of the power and the place
counted : (q n k total larger : ℕ) (m : List ℕ) → total ≡ size n k m → larger ≡ larger_diagrams q k (n - k) total
    → larger ≡ larger_diagrams q k (n - k) (size n k m)
counted q n k total larger m t l = l ∙ ap (larger_diagrams q k (n - k)) t

multiplied : (q n k total power place : ℕ) (m : List ℕ) → total ≡ size n k m → power ≡ q ^ total → place ≡ place_of n k m
    → power * place ≡ q ^ size n k m * place_of n k m
multiplied q n k total power place m t e p = ap₂ ◌*◌ (e ∙ ap (◌^◌ q) t) p

pub overflow_mul-index : goal.overflow_mul-index
overflow_mul-index c =
    omega (
      arith,
      multiplied c.args.q _ _ _ _ _ c.args.m.now c.size_of-total.ensures c.power.ensures c.place_of-place.ensures,
      (parts c.requires.0 c.requires.1).product,
    )

pub overflow_add-index : goal.overflow_add-index
overflow_add-index c =
    omega (
      arith,
      counted c.args.q _ _ _ _ c.args.m.now c.size_of-total.ensures c.larger.ensures,
      multiplied c.args.q _ _ _ _ _ c.args.m.now c.size_of-total.ensures c.power.ensures c.place_of-place.ensures,
      (parts c.requires.0 c.requires.1).two,
    )

pub returns : goal.returns
unfolding ferrers_index
returns c =
    ap₂ ◌+◌
    (ap₂ ◌+◌ (counted c.args.q _ _ _ _ c.args.m.now c.size_of-total.ensures c.larger.ensures)
    (multiplied c.args.q _ _ _ _ _ c.args.m.now c.size_of-total.ensures c.power.ensures c.place_of-place.ensures))
    c.tableau_of-tableau.ensures

pub overflow_add-index-2 : goal.overflow_add-index-2
overflow_add-index-2 c = omega (arith, returns c, (parts c.requires.0 c.requires.1).index)
