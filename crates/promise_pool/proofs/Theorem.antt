-- Order 1's promise is met.
--   order-1         == for a setup that is accepted and any two lists of calls, each on a receiver of its own from a fresh Start: pooling
--                      the two is not refused, and hands back the receiver that took both lists; and where all rows that they accepted are
--                      Mixed from the matrix that Draw leaves for i, closing it answers as Pooling says
--   packs-apart     == for two setups that are accepted and differ in the pack, and any two lists of calls, each on a receiver of its own
--                      from a fresh Start: pooling the two is refused 16, with a receiver of all zeros and dimensions 0, and leaves both
--                      buffers, whatever their lengths. Order 8: "Pooling's 16 now also covers differing packs"
-- Assumes nothing.
use Rattle.std.specs.Prelude.{◌≡◌, refl, true, List, ◌++◌, ℕ, ◌*◌, ◌<◌, length}
use Rattle.std.proofs.Common.{ap, ap₂, sym, ◌∙◌, subst, subst₂, arith}
use Rattle.counts.specs.Gaussian.{gaussian}
use Rattle.linear.specs.Span.{All, Mixed, HasVector, rows_of}
use Rattle.linear.specs.Laws.Every.{all_append}
use Rattle.numbering.specs.Numbering.{is_numbering}
use Rattle.drawing.specs.Drawing.{drawing}
use Rattle.receiver.specs.Receiver.{Setup, setup_refusal, no_setup, empty, holding, close_of}
use Rattle.promise_recovery.specs.Calls.{Call, begun, after, accepted}
use Rattle.promise_recovery.specs.Demand.{Buffer, Answers, told}
use Rattle.promise_recovery.proofs.Theorem.{demand-3}
use Rattle.promise_recovery.proofs.Laws.After.{after_holds, after-pack, accepted-rows}
use Rattle.promise_recovery.proofs.Laws.Reachable.{reachable-size, after-reachable}
use Rattle.pool.specs.Pool.{pool_refusal, pool_of, joint_buffer, common_buffer, pool_number, pool_joint, pool_common}
use Rattle.pool.specs.Laws.PoolAccepted.{pool-told}
use Rattle.promise_pool.specs.Pooling.{pooled_after, Pooling}
use Rattle.promise_pool.specs.Laws.TwoLists.{accepted-append}
use Rattle.promise_pool.specs.Laws.Held.{pool-none, pool-holding}
use Rattle.promise_pool.specs.Laws.Refused.{setups-differ, number_is, refused-leaves}

module _ (s : Setup) (t : ℕ) (settings : setup_refusal s ≡ 0) (known : is_numbering t ≡ true) (cs ds : List Call) where
  abbrev q : ℕ
  q = s.q

  abbrev n : ℕ
  n = s.n

  abbrev k : ℕ
  k = s.k

  first_holds : after (begun s) cs ≡ holding s (accepted (begun s) cs)
  first_holds = after_holds s settings cs

  second_holds : after (begun s) ds ≡ holding s (accepted (begun s) ds)
  second_holds = after_holds s settings ds

  receiver-both : (pooled_after s cs ds).receiver ≡ after (begun s) (cs ++ ds)
  receiver-both =
      ap₂ (λ a b. (pool_of a b (n * n) (n * n)).receiver) first_holds second_holds
      ∙ pool-holding s settings (accepted (begun s) cs) (accepted (begun s) ds) (accepted-rows s settings cs)
      (accepted-rows s settings ds)
      ∙ ap (holding s) (sym (accepted-append s settings cs ds)) ∙ sym (after_holds s settings (cs ++ ds))

  number-none : pool_number (pooled_after s cs ds).answer ≡ 0
  number-none =
      (pool-told (after (begun s) cs) (after (begun s) ds) (n * n) (n * n) (pooled_after s cs ds) refl).0
      ∙ ap₂ (λ a b. pool_refusal a b (n * n) (n * n)) first_holds second_holds
      ∙ pool-none s settings (accepted (begun s) cs) (accepted (begun s) ds) (accepted-rows s settings cs)
      (accepted-rows s settings ds)

  recovers : (i : ℕ) → i < gaussian q n k → (b : List ℕ) → Buffer n k b
      → All (Mixed q n (rows_of n k ((drawing q n k t).leaves i b))) (accepted (begun s) cs)
      → All (Mixed q n (rows_of n k ((drawing q n k t).leaves i b))) (accepted (begun s) ds)
      → Pooling s t i cs ds
  recovers i h b l first second =
      let e = accepted-append s settings cs ds in
      let R = (demand-3 s t settings known).recovery i h b l (cs ++ ds) (subst (All _) (sym e) (all_append first second)) in
      record {
        answers =
            subst₂ (λ rows r. Answers q n k i rows (told (close_of r t))) e (sym receiver-both) R.answers;
        typed = λ v g. ap (λ r. close_of r t) receiver-both ∙ R.typed v (subst (λ x. HasVector q n x k v) (sym e) g);
      }

pub order-1 : (s : Setup) (t : ℕ) → setup_refusal s ≡ 0 → is_numbering t ≡ true → (cs ds : List Call)
    → (pool_number (pooled_after s cs ds).answer ≡ 0)
    × ((pooled_after s cs ds).receiver ≡ after (begun s) (cs ++ ds))
    × ((i : ℕ) → i < gaussian s.q s.n s.k → (b : List ℕ) → Buffer s.n s.k b
    → All (Mixed s.q s.n (rows_of s.n s.k ((drawing s.q s.n s.k t).leaves i b))) (accepted (begun s) cs)
    → All (Mixed s.q s.n (rows_of s.n s.k ((drawing s.q s.n s.k t).leaves i b))) (accepted (begun s) ds)
    → Pooling s t i cs ds)
order-1 s t settings known cs ds =
    (number-none s t settings known cs ds, receiver-both s t settings known cs ds, recovers s t settings known cs ds)

pub packs-apart : (s other : Setup) → setup_refusal s ≡ 0 → setup_refusal other ≡ 0 → (s.pack ≡ other.pack → ⊥) → (cs ds : List Call)
    → (joint common : List ℕ)
    → let a = after (begun s) cs in
    let b = after (begun other) ds in
    let p = pool_of a b (length joint) (length common) in
    (pool_number p.answer ≡ 16)
    × (p.receiver ≡ empty no_setup)
    × (pool_joint p.answer ≡ 0)
    × (pool_common p.answer ≡ 0)
    × (joint_buffer a b joint (length common) ≡ joint)
    × (common_buffer a b (length joint) common ≡ common)
packs-apart s other settings others apart cs ds joint common =
    let a = after (begun s) cs in
    let b = after (begun other) ds in
    let first = after-reachable s settings cs in
    let second = after-reachable other others ds in
    let e : pool_refusal a b (length joint) (length common) ≡ 16 =
    setups-differ a b (reachable-size first) (reachable-size second) (length joint) (length common) first second
    (λ same. apart (sym (after-pack s settings cs) ∙ same.3 ∙ after-pack other others ds)) in
    let left = refused-leaves a b joint common (λ z. omega (arith, e, z)) in
    (number_is a b (length joint) (length common) ∙ e, left.0, left.1, left.2, left.3, left.4)
