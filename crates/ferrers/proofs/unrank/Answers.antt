-- `ferrers::unrank`: the size is found, and the rest is the place of the diagram and the tableau, in base q^size.
use Rattle.std.proofs.Common.{◌/◌, ◌%◌, ◌<◌, ◌^◌, ◌≡◌, ℕ, ap, sym, subst, ◌∙◌, mod-lt, arith}
use Rattle.field.specs.Laws.Small.{size_small}
use Rattle.settings.specs.Laws.Accepted.{Accepted}
use Rattle.matrix.specs.Matrix.{identifying}
use Rattle.matrix.proofs.Laws.ShapeMatrix.{shape-vector}
use Rattle.ferrers.specs.Drawn.{diagram_shape}
use Rattle.ferrers.specs.Laws.FindSize.{Found, found-place, found-drawn}
use Rattle.ferrers.specs.Laws.VectorAt.{diagram_vector}
use Rattle.ferrers.specs.Laws.WriteMatrix.{Shaped, diagram-shaped}
use Rattle.ferrers.specs.Laws.Weight.{sizes}
use Rattle.ferrers.proofs.unrank.Goals as goal

-- p is the power that the code divides by
module _ {q n k index size rest p : ℕ} (a : Accepted q n k) (f : Found q n k index size rest) (power : p ≡ q ^ size) where
  positive : 0 < p
  positive = rw power (sizes size a f.within).positive

  shaped : (v : ℕ) → v ≡ diagram_vector n k size (rest / p) → Shaped q n k v (rest % p) (diagram_shape q n k size (rest / p) (rest % p))
  shaped v e =
      let some : 0 < q = omega (arith, (size_small q a.size).0) in
      let below : rest % p < q ^ size = subst (λ y. rest % p < y) power (mod-lt rest positive) in
      diagram-shaped q n k size _ _ v some (found-place p power f positive) below e

pub power-base-requires : goal.power-base-requires
power-base-requires c =
    let z = sizes c.find_size-found.result.size c.requires.0 c.find_size-found.ensures.within in (z.size, z.short, z.power)

pub draw-requires : goal.draw-requires
draw-requires c =
    (c.requires.0, (_, shaped c.requires.0 c.find_size-found.ensures c.power-base.ensures _ c.vector_at-v.ensures), c.requires.2)

pub returns-clause-m_after : goal.returns-clause-m_after
returns-clause-m_after c =
    let s = shaped c.requires.0 c.find_size-found.ensures c.power-base.ensures _ c.vector_at-v.ensures in
    c.draw.ensures _ s ∙ found-drawn _ c.power-base.ensures c.find_size-found.ensures

pub returns-clause-value : goal.returns-clause-value
returns-clause-value c =
    let s = shaped c.requires.0 c.find_size-found.ensures c.power-base.ensures _ c.vector_at-v.ensures in
    sym s.vector-is
    ∙ sym (shape-vector (size_small c.args.q c.requires.0.size).0 s.valid)
    ∙ ap (identifying c.args.n c.args.k) (found-drawn _ c.power-base.ensures c.find_size-found.ensures)
