-- Order 1 once more, as one flat statement: quantifiers, implications and pairs, under the order's words, with what order 8 adds to it. It
-- follows from `order-1`, `packs-apart`, `pool-spaces` and `pool-reachable` by their clauses, and uses each of them.
--   order-1-flat  == "Pooling takes two receivers with equal q, n and k and writes two reduced matrices into lent n×n buffers: .."
-- Assumes nothing.
use Rattle.std.specs.Prelude.{◌≡◌, true, List, ◌++◌, ◌↔◌, ℕ, ◌+◌, ◌*◌, ◌-◌, ◌<◌, ◌≤◌, length, replicate, Ok}
use Rattle.std.proofs.Math.Path.{ap, sym}
use Rattle.std.proofs.Common.{◌∙◌, subst, subst₂}
use Rattle.std.proofs.Math.ListN.{length-replicate}
use Rattle.refusal.specs.Laws.First.{done}
use Rattle.field.specs.FieldLaws.{Laws}
use Rattle.counts.specs.Gaussian.{gaussian}
use Rattle.settings.specs.Settings.{settings_refusal}
use Rattle.linear.specs.Span.{All, Row, Mixed, HasDimension, HasVector, rows_of}
use Rattle.linear.specs.Eliminate.{dimension}
use Rattle.linear.specs.Laws.Every.{all_append}
use Rattle.linear.specs.Laws.ReducedOf.{dimension-has, vector-has}
use Rattle.numbering.specs.Numbering.{is_numbering, index_in}
use Rattle.numbering.specs.Laws.Chosen.{first-known}
use Rattle.drawing.specs.Drawing.{drawing}
use Rattle.spaces.specs.Spaces.{JointSpace, CommonSpace, joint_of, joint_dimension}
use Rattle.receiver.specs.Receiver.{Setup, setup, setup_of, setup_refusal, empty, used, held_rows, holding, close_of}
use Rattle.receiver.specs.Laws.Sound.{sound}
use Rattle.receiver.specs.Laws.Held.{settings-laws, holding-size, holding-used, holding-span}
use Rattle.receiver.specs.declared.Receiver.{Receiver}
use Rattle.promise_recovery.specs.Calls.{Call, begun, after, accepted, Reachable}
use Rattle.promise_recovery.specs.Flat.{tells, tells_space}
use Rattle.promise_recovery.proofs.Laws.After.{after_holds, accepted-rows}
use Rattle.pool.specs.Pool.{pool_refusal, pooled, pool_of, joint_buffer, common_buffer, pool_number, pool_joint, pool_common}
use Rattle.pool.specs.declared.Pooled.{Pooled}
use Rattle.pool.specs.Laws.PoolAccepted.{PoolAccepted, pool-accepted}
use Rattle.pool.specs.Laws.Pooling.{first-held, second-held}
use Rattle.promise_pool.specs.Pooling.{SameSetup, pooled_after}
use Rattle.promise_pool.specs.Spaces.{joint-exactly, pool-spaces, pool-reachable}
use Rattle.promise_pool.proofs.Theorem.{order-1, packs-apart}
use Rattle.promise_pool.specs.Laws.Carried.{joint-carried, common-carried}
use Rattle.promise_pool.specs.Laws.Held.{pool-none}
use Rattle.promise_pool.specs.Laws.Refused.{first-forged, second-forged, setups-differ, buffers-wrong, none-applies}
use Rattle.promise_pool.specs.Laws.Refused.{number_is, refused-leaves}

module _ (a b : Receiver) (whole-a : length a.entries ≡ 256) (whole-b : length b.entries ≡ 256) (joint common : List ℕ)
    (unrefused : pool_refusal a b (length joint) (length common) ≡ 0) where
  abbrev p : Pooled
  p = pool_of a b (length joint) (length common)

  ok : PoolAccepted a b (length joint) (length common)
  ok = pool-accepted a b (length joint) (length common) unrefused

  settings : setup_refusal (setup_of a) ≡ 0
  settings = (sound a whole-a ok.first).settings

  first : All (Row a.q a.n) (held_rows a)
  first = first-held a b whole-a whole-b ok.first ok.second ok.same

  second : All (Row a.q a.n) (held_rows b)
  second = second-held a b whole-a whole-b ok.first ok.second ok.same

  -- the one joint space is what the receiver handed back uses
  receiver-holds : p.receiver ≡ holding (setup_of a) (held_rows a ++ held_rows b)
  unfolding pool_of pooled
  receiver-holds = ap (λ (x : Pooled). x.receiver) (sym (done _ _ _ unrefused))

  receiver-setup : SameSetup p.receiver a
  unfolding holding
  receiver-setup =
      (ap (λ r. r.q) receiver-holds, ap (λ r. r.n) receiver-holds, ap (λ r. r.k) receiver-holds, ap (λ r. r.pack) receiver-holds)

  one-joint : (d : ℕ) (u : List ℕ) → JointSpace a.q a.n (held_rows a) (held_rows b) d u
      → (p.receiver.dimension ≡ d) × (used p.receiver ≡ u)
  unfolding holding joint_dimension joint_of
  one-joint d u J =
      let rows = held_rows a ++ held_rows b in
      let e = (joint-exactly a.q (settings-laws a.q a.n a.k settings) a.n (held_rows a) (held_rows b) first second d u).0 J in (
        ap (λ r. r.dimension) receiver-holds ∙ sym e.0,
        ap used receiver-holds ∙ holding-used (setup_of a) settings rows (all_append first second) ∙ sym e.1,
      )

  spaces : (p.receiver.dimension ≡ pool_joint p.answer)
      × JointSpace a.q a.n (held_rows a) (held_rows b) (pool_joint p.answer) (used p.receiver)
      × (joint_buffer a b joint (length common) ≡ used p.receiver ++ replicate (a.n * a.n - pool_joint p.answer * a.n) 0)
      × ((m : List ℕ)
      × (common_buffer a b (length joint) common ≡ m ++ replicate (a.n * a.n - pool_common p.answer * a.n) 0)
      × CommonSpace a.q a.n (held_rows a) (held_rows b) (pool_common p.answer) m)
      × (pool_joint p.answer + pool_common p.answer ≡ a.dimension + b.dimension)
  spaces =
      let (d, e, u, v, joint-is, common-is, sum, left, J, shared, C) = pool-spaces a b whole-a whole-b joint common unrefused in
      let own = one-joint d u J in (
        own.0 ∙ sym joint-is,
        subst₂ (JointSpace a.q a.n (held_rows a) (held_rows b)) (sym joint-is) (sym own.1) J,
        rw (joint-is, own.1) left,
        (v, rw common-is shared, subst (λ x. CommonSpace a.q a.n (held_rows a) (held_rows b) x v) (sym common-is) C),
        rw (joint-is, common-is) sum,
      )

-- the joint and the common space of the rows us and vs, as pooling a and b tells them, given buffers of lengths x and y
abbrev Spaces : (q n : ℕ) (us vs : List (List ℕ)) (joint common : List ℕ) (x y : ℕ) (a b : Receiver) → Type 0
Spaces q n us vs joint common x y a b =
    JointSpace q n us vs (pool_joint (pool_of a b x y).answer) (used (pool_of a b x y).receiver)
    × ((m : List ℕ)
    × (common_buffer a b (length joint) common ≡ m ++ replicate (n * n - pool_common (pool_of a b x y).answer * n) 0)
    × CommonSpace q n us vs (pool_common (pool_of a b x y).answer) m)
    × (joint_buffer a b joint (length common)
    ≡ used (pool_of a b x y).receiver ++ replicate (n * n - pool_joint (pool_of a b x y).answer * n) 0)

module _ (s : Setup) (settings : setup_refusal s ≡ 0) where
  abbrev q : ℕ
  q = s.q

  abbrev n : ℕ
  n = s.n

  abbrev k : ℕ
  k = s.k

  abbrev law : Laws q
  law = settings-laws q n k settings

  holding-spaces : (us vs : List (List ℕ)) → All (Row q n) us → All (Row q n) vs → (joint common : List ℕ)
      → length joint ≡ n * n → length common ≡ n * n
      → Spaces q n us vs joint common (length joint) (length common) (holding s us) (holding s vs)
  unfolding holding
  holding-spaces us vs hu hv joint common lj lc =
      let a = holding s us in
      let b = holding s vs in
      let z : pool_refusal a b (length joint) (length common) ≡ 0 = rw (lj, lc) (pool-none s settings us vs hu hv) in
      let x = spaces a b (holding-size s settings us hu) (holding-size s settings vs hv) joint common z in
      let su = holding-span s settings us hu in
      let sv = holding-span s settings vs hv in (
        joint-carried q n (held_rows a) (held_rows b) us vs su sv _ _ x.1,
        (x.3.0, x.3.1, common-carried q n (held_rows a) (held_rows b) us vs su sv _ _ x.3.2),
        x.2,
      )

  module _ (cs ds : List Call) where
    abbrev us : List (List ℕ)
    us = accepted (begun s) cs

    abbrev vs : List (List ℕ)
    vs = accepted (begun s) ds

    lists-spaces : (joint common : List ℕ) → length joint ≡ n * n → length common ≡ n * n
        → Spaces q n us vs joint common (n * n) (n * n) (after (begun s) cs) (after (begun s) ds)
    lists-spaces joint common lj lc =
        subst₂ (λ a b. Spaces q n us vs joint common (n * n) (n * n) a b) (sym (after_holds s settings cs))
        (sym (after_holds s settings ds))
        (subst₂ (λ x y. Spaces q n us vs joint common x y (holding s us) (holding s vs)) lj lc
        (holding-spaces us vs (accepted-rows s settings cs) (accepted-rows s settings ds) joint common lj lc))

    both-rows : All (Row q n) (us ++ vs)
    both-rows = all_append (accepted-rows s settings cs) (accepted-rows s settings ds)

    -- the joint dimension told is the dimension of the rows of both lists
    both-dimension : dimension q n (us ++ vs) ≡ pool_joint (pooled_after s cs ds).answer
    unfolding joint_dimension
    both-dimension =
        let sized = length-replicate {A = ℕ} (n * n) 0 in
        let J = (lists-spaces (replicate (n * n) 0) (replicate (n * n) 0) sized sized).0 in
        sym ((joint-exactly q law n us vs (accepted-rows s settings cs) (accepted-rows s settings ds) _ _).0 J).0

    has-joint : HasDimension q n (us ++ vs) (pool_joint (pooled_after s cs ds).answer)
    has-joint = (dimension-has q law n (us ++ vs) both-rows _).1 both-dimension

    joint-whole : HasDimension q n (us ++ vs) k ↔ (pool_joint (pooled_after s cs ds).answer ≡ k)
    joint-whole =
        let has = dimension-has q law n (us ++ vs) both-rows k in
        (λ x. sym both-dimension ∙ has.0 x, λ e. has.1 (both-dimension ∙ e))

    some-vector : ((d v : ℕ) × HasVector q n (us ++ vs) d v)
        → (v : ℕ) × HasVector q n (us ++ vs) (pool_joint (pooled_after s cs ds).answer) v
    some-vector (d, v, has) =
        (v, subst (λ x. HasVector q n (us ++ vs) x v) (sym ((vector-has q law n (us ++ vs) both-rows d v).0 has).0 ∙ both-dimension) has)

pub order-1-flat :
    -- (For any two receivers, which have 256 entries each, and any two lent buffers:)
    ((a b : Receiver) → length a.entries ≡ 256 → length b.entries ≡ 256 → (joint common : List ℕ)
    → let p = pool_of a b (length joint) (length common) in
    let left = joint_buffer a b joint (length common) in
    let shared = common_buffer a b (length joint) common in
    -- "Pooling takes two receivers with equal q, n and k .. It refuses with 14 for the first receiver, then the second,
    ((Reachable a → ⊥) → pool_number p.answer ≡ 14)
    × (Reachable a → (Reachable b → ⊥) → pool_number p.answer ≡ 14)
    -- then with 16 if q, n or k differ, (or the packs,)
    × (Reachable a → Reachable b → (SameSetup a b → ⊥) → pool_number p.answer ≡ 16)
    -- then with 4 for a wrong buffer.
    × (Reachable a → Reachable b → SameSetup a b
    → ((length joint ≡ a.n * a.n) × (length common ≡ a.n * a.n) → ⊥) → pool_number p.answer ≡ 4)
    -- (It is done where none of these applies.)
    × (Reachable a → Reachable b → SameSetup a b
    → (length joint ≡ a.n * a.n) × (length common ≡ a.n * a.n) → pool_number p.answer ≡ 0)
    -- A refusal gives a receiver of all zeros and dimensions 0. (Both buffers are as they were.)
    × ((pool_number p.answer ≡ 0 → ⊥)
    → (p.receiver ≡ empty (setup 0 0 0 0)) × (pool_joint p.answer ≡ 0) × (pool_common p.answer ≡ 0) × (left ≡ joint) × (shared ≡ common))
    × (pool_number p.answer ≡ 0
    -- It .. writes two reduced matrices into lent n×n buffers: that of the smallest space containing both,
    -- Pooling also hands back a receiver with the same settings (and the packs' common number) that holds the smallest space.
    → SameSetup p.receiver a
    × (p.receiver.dimension ≡ pool_joint p.answer)
    × JointSpace a.q a.n (held_rows a) (held_rows b) (pool_joint p.answer) (used p.receiver)
    × (left ≡ used p.receiver ++ replicate (a.n * a.n - pool_joint p.answer * a.n) 0)
    -- and that of their common space, each with zeros after its rows.
    × ((m : List ℕ) × (shared ≡ m ++ replicate (a.n * a.n - pool_common p.answer * a.n) 0)
    × CommonSpace a.q a.n (held_rows a) (held_rows b) (pool_common p.answer) m)
    -- It answers both dimensions, which together equal the two receivers' dimensions together.
    × (pool_joint p.answer + pool_common p.answer ≡ a.dimension + b.dimension)
    -- (The receiver may take rows, be closed and be pooled again.)
    × Reachable p.receiver))
    -- (For accepted settings and any pack, and two lists of calls, each on a receiver of its own from a fresh Start: pooling them is done,
    -- and the joint and the common space are those of the rows that the two accepted.)
    × ((q n k pack : ℕ) → settings_refusal q n k ≡ 0 → (cs ds : List Call) (joint common : List ℕ)
    → length joint ≡ n * n → length common ≡ n * n
    → let s = setup q n k pack in
    let us = accepted (begun s) cs in
    let vs = accepted (begun s) ds in
    let p = pooled_after s cs ds in
    (pool_number p.answer ≡ 0)
    × JointSpace q n us vs (pool_joint p.answer) (used p.receiver)
    × ((m : List ℕ)
    × (common_buffer (after (begun s) cs) (after (begun s) ds) (length joint) common
    ≡ m ++ replicate (n * n - pool_common p.answer * n) 0)
    × CommonSpace q n us vs (pool_common p.answer) m)
    × (joint_buffer (after (begun s) cs) (after (begun s) ds) joint (length common)
    ≡ used p.receiver ++ replicate (n * n - pool_joint p.answer * n) 0)
    -- (It is the receiver that took both lists.)
    × (p.receiver ≡ after (begun s) (cs ++ ds))
    -- Where both receivers since their start accepted only mixtures of the rows of one matrix drawn with their settings,
    × ((t : ℕ) → is_numbering t ≡ true → (i : ℕ) → i < gaussian q n k → (b : List ℕ) → length b ≡ k * n
    → All (Mixed q n (rows_of n k ((drawing q n k t).leaves i b))) us
    → All (Mixed q n (rows_of n k ((drawing q n k t).leaves i b))) vs
    -- closing the pooled receiver in the draw's numbering must give the drawn index exactly when k dimensions are reached."
    → (tells (close_of p.receiver t) 0 i ↔ (pool_joint p.answer ≡ k))
    × ((v : ℕ) → HasVector q n (us ++ vs) k v → close_of p.receiver t ≡ Ok (index_in t i, record { dimension = k; vector = v }))
    -- (If they are fewer it refuses with 8, more they are never, and either way it tells the true dimension and identifying vector.)
    × (pool_joint p.answer ≤ k)
    × (pool_joint p.answer < k → tells (close_of p.receiver t) 8 0)
    × ((v : ℕ) → HasVector q n (us ++ vs) (pool_joint p.answer) v → tells_space (close_of p.receiver t) (pool_joint p.answer) v)
    × ((v : ℕ) × HasVector q n (us ++ vs) (pool_joint p.answer) v)))
    -- (For two packs, each with accepted settings of its own, "Pooling's 16 now also covers differing packs": after any two lists of calls
    -- it is refused so, with a receiver of all zeros and dimensions 0, and leaves both buffers.)
    × ((s other : Setup) → setup_refusal s ≡ 0 → setup_refusal other ≡ 0 → (s.pack ≡ other.pack → ⊥) → (cs ds : List Call)
    → (joint common : List ℕ)
    → let a = after (begun s) cs in
    let b = after (begun other) ds in
    let p = pool_of a b (length joint) (length common) in
    (pool_number p.answer ≡ 16)
    × (p.receiver ≡ empty (setup 0 0 0 0))
    × (pool_joint p.answer ≡ 0)
    × (pool_common p.answer ≡ 0)
    × (joint_buffer a b joint (length common) ≡ joint)
    × (common_buffer a b (length joint) common ≡ common))
order-1-flat = (
  λ a b whole-a whole-b joint common.
      let number = number_is a b (length joint) (length common) in (
        λ h. number ∙ first-forged a b whole-a whole-b (length joint) (length common) h,
        λ f h. number ∙ second-forged a b whole-a whole-b (length joint) (length common) f h,
        λ f s h. number ∙ setups-differ a b whole-a whole-b (length joint) (length common) f s h,
        λ f s e h. number ∙ buffers-wrong a b whole-a whole-b (length joint) (length common) f s e h,
        λ f s e l. number ∙ none-applies a b whole-a whole-b (length joint) (length common) f s e l,
        λ z. refused-leaves a b joint common (λ x. z (number ∙ x)),
        λ z.
            let x = sym number ∙ z in
            let r = receiver-setup a b whole-a whole-b joint common x in
            let s = spaces a b whole-a whole-b joint common x in
            (r, s.0, s.1, s.2, s.3, s.4, pool-reachable a b whole-a whole-b joint common x),
      ),
  λ q n k pack settings cs ds joint common lj lc.
      let s = setup q n k pack in
      let o = order-1 s 1 settings first-known cs ds in
      let x = lists-spaces s settings cs ds joint common lj lc in (
        o.0,
        x.0,
        x.1,
        x.2,
        o.1,
        λ t known i h b l mu mv.
            let R = (order-1 s t settings known cs ds).2 i h b l mu mv in
            let joint-is = joint-whole s settings cs ds in
            let has = has-joint s settings cs ds in (
              (λ x. joint-is.0 (R.answers.whole.0 x), λ e. R.answers.whole.1 (joint-is.1 e)),
              R.typed,
              R.answers.never-more _ has,
              R.answers.fewer _ has,
              R.answers.space _,
              some-vector s settings cs ds R.answers.some,
            ),
      ),
  packs-apart,
)
