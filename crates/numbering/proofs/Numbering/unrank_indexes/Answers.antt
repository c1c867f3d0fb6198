-- `Numbering::unrank_indexes` meets its contract: the drawn matrix is reduced, so it has an index in the other numbering, and its own is the
-- one it was drawn by.
use Rattle.std.proofs.Common.{◌≡◌, ap, sym, subst, ◌∙◌, ℕ, List, ◌<◌}
use Rattle.counts.specs.Gaussian.{gaussian}
use Rattle.settings.specs.Laws.Accepted.{Accepted, not-refused}
use Rattle.matrix.specs.Matrix.{Reduced, identifying}
use Rattle.extended.specs.Extended.{extended_index}
use Rattle.ferrers.specs.Ferrers.{ferrers_index}
use Rattle.numbering.specs.Numbering.{Numbering, numbering_of, drawn}
use Rattle.numbering.specs.Laws.Either.{Orderly, either, chose-extended, chose-ferrers}
use Rattle.numbering.proofs.Numbering.unrank_indexes.Goals as goal

module _ (q n k t i : ℕ) (a : Accepted q n k) (h : i < gaussian q n k) where
  orderly : Orderly (numbering_of t) q n k
  orderly = either q n k t (not-refused q n k a)

  ready : (m : List ℕ) (v : ℕ) → m ≡ drawn q n k t i → v ≡ identifying n k (drawn q n k t i)
      → Accepted q n k × Reduced q n k m × (v ≡ identifying n k m)
  ready m v e f = (a, subst (Reduced q n k) (sym e) (orderly.drawn-reduced i h), f ∙ ap (identifying n k) (sym e))

  own : (N : Numbering) → N ≡ numbering_of t → i ≡ N.index q n k (drawn q n k t i)
  own N e = sym (ap (λ M. M.index q n k (drawn q n k t i)) e ∙ orderly.index-of-drawn i h)

pub rank-requires : goal.rank-requires
rank-requires c =
    ready _ _ _ _ _ c.requires.0 c.requires.1 _ _ c.unrank-vector.ensures.m_after c.unrank-vector.ensures.value

pub rank-requires-in-Ferrers : goal.rank-requires-in-Ferrers
rank-requires-in-Ferrers c =
    ready _ _ _ _ _ c.requires.0 c.requires.1 _ _ c.unrank-vector.ensures.m_after c.unrank-vector.ensures.value

pub returns-in-Extended-clause-extended_value : goal.returns-in-Extended-clause-extended_value
returns-in-Extended-clause-extended_value c =
    let a = c.args in (
      own _ _ _ _ _ c.requires.0 c.requires.1 _ (chose-extended _ c.in-Extended.is),
      c.rank.ensures ∙ ap (ferrers_index a.q a.n a.k) c.unrank-vector.ensures.m_after,
    )

pub returns-in-Ferrers-clause-extended_value : goal.returns-in-Ferrers-clause-extended_value
returns-in-Ferrers-clause-extended_value c =
    let a = c.args in (
      c.rank-in-Ferrers.ensures ∙ ap (extended_index a.q a.n a.k) c.unrank-vector.ensures.m_after,
      own _ _ _ _ _ c.requires.0 c.requires.1 _ (chose-ferrers _ c.in-Ferrers.is),
    )
