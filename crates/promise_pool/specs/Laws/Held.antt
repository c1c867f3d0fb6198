-- Receivers that hold rows, pooled; no part of the meaning.
--   pool-holding    == pooling what holds us and what holds vs, unrefused, hands back what holds both
-- Assumes nothing.
use Rattle.std.specs.Prelude.{◌≡◌, List, ◌++◌, ℕ, ◌*◌}
use Rattle.std.proofs.Math.Path.{refl, ap, ap₂}
use Rattle.std.proofs.Common.{sym, ◌∙◌}
use borrow.Author.Tests.{eq-eqb}
use Rattle.refusal.specs.Laws.First.{done}
use Rattle.field.specs.FieldLaws.{Laws}
use Rattle.linear.specs.Span.{All, Row, SameSpan}
use Rattle.linear.specs.Eliminate.{reduced_rows}
use Rattle.linear.specs.Laws.Every.{all_append}
use Rattle.linear.specs.Laws.Mixture.{span_same}
use Rattle.linear.specs.Laws.ReducedOf.{reduced_rows-kept, reduced_rows-span}
use Rattle.spaces.specs.Spaces.{Within}
use Rattle.spaces.specs.Laws.Joint.{within-each, first-within, last_within}
use Rattle.receiver.specs.Receiver.{Setup, setup_refusal, holding}
use Rattle.receiver.specs.Laws.Held.{settings-laws, holding-rows, holding-exactly}
use Rattle.promise_recovery.proofs.Laws.HoldRows.{well-formed-holding}
use Rattle.pool.specs.Pool.{alike, pool_refusal, pooled, pool_of}
use Rattle.pool.specs.declared.Pooled.{Pooled}
use Rattle.pool.specs.Laws.PoolAccepted.{pool-unrefused}

module _ (s : Setup) (settings : setup_refusal s ≡ 0) where
  abbrev q : ℕ
  q = s.q

  abbrev n : ℕ
  n = s.n

  law : Laws q
  law = settings-laws q n s.k settings

  module _ (us vs : List (List ℕ)) (hu : All (Row q n) us) (hv : All (Row q n) vs) where
    -- the reduced rows of both lists together span what both lists do
    reduced-both : SameSpan q n (reduced_rows q n us ++ reduced_rows q n vs) (us ++ vs)
    unfolding SameSpan Within
    reduced-both =
        span_same q law n (reduced_rows q n us ++ reduced_rows q n vs) (us ++ vs) (all_append ru rv) (all_append hu hv)
        (all_append
        (within-each q law n (reduced_rows q n us) (us ++ vs) ru (λ v i. first-within q law n us vs hu hv v ((same-u v).0 i)))
        (within-each q law n (reduced_rows q n vs) (us ++ vs) rv (λ v i. last_within q law n us vs hu hv v ((same-v v).0 i))))
        (all_append
        (within-each q law n us (reduced_rows q n us ++ reduced_rows q n vs) hu
        (λ v i. first-within q law n (reduced_rows q n us) (reduced_rows q n vs) ru rv v ((same-u v).1 i)))
        (within-each q law n vs (reduced_rows q n us ++ reduced_rows q n vs) hv
        (λ v i. last_within q law n (reduced_rows q n us) (reduced_rows q n vs) ru rv v ((same-v v).1 i))))
      where
        ru : All (Row q n) (reduced_rows q n us)
        ru = (reduced_rows-kept q law n us hu).rows

        rv : All (Row q n) (reduced_rows q n vs)
        rv = (reduced_rows-kept q law n vs hv).rows

        same-u : SameSpan q n (reduced_rows q n us) us
        same-u = reduced_rows-span q law n us hu

        same-v : SameSpan q n (reduced_rows q n vs) vs
        same-v = reduced_rows-span q law n vs hv

    pub pool-none : pool_refusal (holding s us) (holding s vs) (n * n) (n * n) ≡ 0
    unfolding holding alike
    pool-none =
        pool-unrefused (holding s us) (holding s vs) (n * n) (n * n) (well-formed-holding s settings us hu)
        (well-formed-holding s settings vs hv)
        (rw (eq-eqb q q refl, eq-eqb n n refl, eq-eqb s.k s.k refl, eq-eqb s.pack s.pack refl)) refl refl

    pub pool-holding : (pool_of (holding s us) (holding s vs) (n * n) (n * n)).receiver ≡ holding s (us ++ vs)
    unfolding pool_of pooled holding
    pool-holding =
        ap (λ (p : Pooled). p.receiver) (sym (done _ _ _ pool-none))
        ∙ ap₂ (λ x y. holding s (x ++ y)) (holding-rows s settings us hu) (holding-rows s settings vs hv)
        ∙ (holding-exactly s settings (reduced_rows q n us ++ reduced_rows q n vs) (us ++ vs)
        (all_append (reduced_rows-kept q law n us hu).rows (reduced_rows-kept q law n vs hv).rows) (all_append hu hv)).1 reduced-both
