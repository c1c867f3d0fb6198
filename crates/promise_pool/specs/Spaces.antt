-- What pooling promises of the two spaces, for any two receivers that it does not refuse.
--   joint-exactly, common-exactly == which matrices these are, over any field: a reader need not believe the text of the definitions that
--                      compute them
--   pool-spaces     == "writes two reduced matrices into lent n×n buffers: that of the smallest space containing both, and that of their
--                      common space, each with zeros after its rows. It answers both dimensions, which together equal the two receivers'
--                      dimensions together."
--   pool-reachable  == the pooled receiver is one that Start and Take can leave, so that it takes rows, closes and is pooled again
-- Assumes nothing.
use Rattle.std.specs.Prelude.{◌≡◌, List, ◌++◌, ◌↔◌, length, Result}
use Rattle.std.proofs.Math.Path.{refl, ap, ap₂, sym, subst}
use Rattle.std.proofs.Common.{◌∙◌}
use Prim.Native.Nat.{ℕ, ◌+◌, ◌*◌, ◌-◌}
use Rattle.std.proofs.Math.ListN.{replicate}
use Rattle.refusal.specs.Refusal.{unless_refused}
use Rattle.refusal.specs.declared.Refusal.{Refusal}
use Rattle.refusal.specs.Laws.First.{done}
use Rattle.field.specs.FieldLaws.{Laws}
use Rattle.linear.specs.Span.{All, Row}
use Rattle.linear.specs.Eliminate.{dimension}
use Rattle.linear.specs.Laws.Every.{all_append}
use Rattle.linear.specs.Laws.SameMatrix.{reduced_rows-again}
use Rattle.reduction.specs.Padded.{padded}
use Rattle.spaces.specs.Spaces.{JointSpace, CommonSpace, joint_of, joint_dimension, common_of, common_dimension}
use Rattle.spaces.specs.Laws.Joint.{joint-space}
use Rattle.spaces.specs.Laws.Common.{common-space}
use Rattle.spaces.proofs.Laws.Unique.{joint-unique, common-unique}
use Rattle.spaces.specs.Laws.Dimensions.{dimensions-sum}
use Rattle.receiver.specs.Receiver.{setup_of, held_rows}
use Rattle.receiver.specs.Laws.Sound.{Sound, sound}
use Rattle.receiver.specs.Laws.Held.{settings-laws, held_kept, held-length}
use Rattle.receiver.specs.declared.Receiver.{Receiver}
use Rattle.promise_recovery.specs.Calls.{Reachable}
use Rattle.promise_recovery.proofs.Laws.Reachable.{holding-reachable}
use Rattle.pool.specs.Pool.{pool_refusal, pooled, pool_of, joint_buffer, common_buffer, pool_number, pool_joint, pool_common}
use Rattle.pool.specs.declared.Pooled.{Pooled}
use Rattle.pool.specs.Laws.PoolAccepted.{PoolAccepted, alike-setups, pool-accepted, pool-told}
use Rattle.pool.specs.declared.Dimensions.{Dimensions}
use Rattle.pool.specs.Laws.Pooling.{field_laws, first-held, second-held}
use Rattle.promise_pool.specs.Pooling.{SameSetup}

module _ (q : ℕ) (law : Laws q) (n : ℕ) (us vs : List (List ℕ)) (hu : All (Row q n) us) (hv : All (Row q n) vs) where
  pub joint-exactly : (d : ℕ) (m : List ℕ) → JointSpace q n us vs d m ↔ ((d ≡ joint_dimension q n us vs) × (m ≡ joint_of q n us vs))
  joint-exactly d m = (joint-unique q law n us vs hu hv d m, λ e. rw (e.0, e.1) (joint-space q law n us vs hu hv))

  pub common-exactly : (d : ℕ) (m : List ℕ) → CommonSpace q n us vs d m ↔ ((d ≡ common_dimension q n us vs) × (m ≡ common_of q n us vs))
  common-exactly d m = (common-unique q law n us vs hu hv d m, λ e. rw (e.0, e.1) (common-space q law n us vs hu hv))

-- the dimension of the rows held is the receiver's
held-dimension : (r : Receiver) → length r.entries ≡ 256 → Sound r → dimension r.q r.n (held_rows r) ≡ r.dimension
unfolding dimension
held-dimension r size s =
    let kept = held_kept r size s in
    ap length (reduced_rows-again r.q (settings-laws r.q r.n r.k s.settings) r.n (held_rows r) kept.rows kept.reduced)
    ∙ held-length r size s

module _ (a b : Receiver) (whole-a : length a.entries ≡ 256) (whole-b : length b.entries ≡ 256) (joint common : List ℕ)
    (unrefused : pool_refusal a b (length joint) (length common) ≡ 0) where
  ok : PoolAccepted a b (length joint) (length common)
  ok = pool-accepted a b (length joint) (length common) unrefused

  same : SameSetup a b
  same = alike-setups a b ok.same

  law : Laws a.q
  law = field_laws a b whole-a whole-b ok.first ok.second ok.same

  first : All (Row a.q a.n) (held_rows a)
  first = first-held a b whole-a whole-b ok.first ok.second ok.same

  second : All (Row a.q a.n) (held_rows b)
  second = second-held a b whole-a whole-b ok.first ok.second ok.same

  first-dimension : dimension a.q a.n (held_rows a) ≡ a.dimension
  first-dimension = held-dimension a whole-a (sound a whole-a ok.first)

  second-dimension : dimension a.q a.n (held_rows b) ≡ b.dimension
  second-dimension =
      ap₂ (λ x y. dimension x y (held_rows b)) same.0 same.1 ∙ held-dimension b whole-b (sound b whole-b ok.second)

  J : JointSpace a.q a.n (held_rows a) (held_rows b) (joint_dimension a.q a.n (held_rows a) (held_rows b))
      (joint_of a.q a.n (held_rows a) (held_rows b))
  J = (joint-exactly a.q law a.n (held_rows a) (held_rows b) first second _ _).1 (refl, refl)

  C : CommonSpace a.q a.n (held_rows a) (held_rows b) (common_dimension a.q a.n (held_rows a) (held_rows b))
      (common_of a.q a.n (held_rows a) (held_rows b))
  C = (common-exactly a.q law a.n (held_rows a) (held_rows b) first second _ _).1 (refl, refl)

  answer : Result Dimensions Refusal
  answer = (pool_of a b (length joint) (length common)).answer

  told : (pool_number answer ≡ pool_refusal a b (length joint) (length common))
      × (pool_joint answer
      ≡ unless_refused (pool_refusal a b (length joint) (length common)) (joint_dimension a.q a.n (held_rows a) (held_rows b)) 0)
      × (pool_common answer
      ≡ unless_refused (pool_refusal a b (length joint) (length common)) (common_dimension a.q a.n (held_rows a) (held_rows b)) 0)
  unfolding answer
  told = pool-told a b (length joint) (length common) (pool_of a b (length joint) (length common)) refl

  pub pool-spaces : (d e : ℕ) × (u v : List ℕ)
      × (pool_joint (pool_of a b (length joint) (length common)).answer ≡ d)
      × (pool_common (pool_of a b (length joint) (length common)).answer ≡ e)
      × (d + e ≡ a.dimension + b.dimension)
      × (joint_buffer a b joint (length common) ≡ u ++ replicate (a.n * a.n - d * a.n) 0)
      × JointSpace a.q a.n (held_rows a) (held_rows b) d u
      × (common_buffer a b (length joint) common ≡ v ++ replicate (a.n * a.n - e * a.n) 0)
      × CommonSpace a.q a.n (held_rows a) (held_rows b) e v
  unfolding joint_buffer common_buffer padded answer
  pool-spaces = (
    joint_dimension a.q a.n (held_rows a) (held_rows b),
    common_dimension a.q a.n (held_rows a) (held_rows b),
    joint_of a.q a.n (held_rows a) (held_rows b),
    common_of a.q a.n (held_rows a) (held_rows b),
    told.1 ∙ sym (done _ _ _ unrefused),
    told.2 ∙ sym (done _ _ _ unrefused),
    dimensions-sum a.q law a.n (held_rows a) (held_rows b) first second ∙ ap₂ ◌+◌ first-dimension second-dimension,
    sym (done _ _ _ unrefused)
        ∙ ap (λ x. joint_of a.q a.n (held_rows a) (held_rows b) ++ replicate (a.n * a.n - x) 0) J.reduced.size,
    J,
    sym (done _ _ _ unrefused)
        ∙ ap (λ x. common_of a.q a.n (held_rows a) (held_rows b) ++ replicate (a.n * a.n - x) 0) C.reduced.size,
    C,
  )

  pub pool-reachable : Reachable (pool_of a b (length joint) (length common)).receiver
  unfolding pool_of pooled
  pool-reachable =
      subst Reachable (ap (λ (p : Pooled). p.receiver) (done _ _ _ unrefused))
      (holding-reachable (setup_of a) (sound a whole-a ok.first).settings (held_rows a ++ held_rows b) (all_append first second))
