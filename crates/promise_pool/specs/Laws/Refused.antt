-- Which refusal pooling answers, and what a refused pooling leaves; no part of the meaning.
--   first-forged, second-forged == 14 where Start and Take cannot leave the first receiver, or the second
--   setups-differ   == 16 where q, n, k or the packs differ
--   buffers-wrong   == 4 where a buffer has a wrong length
--   none-applies    == no refusal where none of these applies
--   number_is       == the number told is the refusal
--   refused-leaves  == a refused pooling: a receiver of all zeros, dimensions 0, and both buffers as they were
-- Assumes nothing.
use Rattle.std.specs.Prelude.{◌≡◌, refl, true, false, List, [], ◌∷◌, ℕ, ◌*◌, eqb, length}
use Rattle.std.proofs.Common.{ap, sym, ◌∙◌, eq-eqb, ne_eqb}
use Rattle.std.proofs.Math.Decide.{ℕ_discrete}
use Rattle.basics.specs.Laws.Choice.{is_false}
use Rattle.refusal.specs.Refusal.{length_refusal, refuse_unless, first}
use Rattle.refusal.specs.Laws.First.{test-refused, test-passed, kept}
use Rattle.receiver.specs.Receiver.{no_setup, empty}
use Rattle.receiver.specs.declared.Receiver.{Receiver}
use Rattle.promise_recovery.specs.Calls.{Reachable}
use Rattle.promise_recovery.proofs.Laws.Reachable.{forged, formed}
use Rattle.pool.specs.Pool.{alike, pool_refusal, pool_of, joint_buffer, common_buffer, pool_number, pool_joint, pool_common}
use Rattle.pool.specs.declared.Pooled.{Pooled}
use Rattle.promise_pool.specs.Pooling.{SameSetup}
use Rattle.pool.specs.Laws.PoolAccepted.{alike-setups, pool-unrefused, pool-told}

differ : (a b : Receiver) → (SameSetup a b → ⊥) → alike a b ≡ false
differ a b h = is_false (alike a b) (λ e. h (alike-setups a b e))

same : (a b : Receiver) → SameSetup a b → alike a b ≡ true
unfolding alike
same a b e =
    rw (eq-eqb a.q b.q e.0, eq-eqb a.n b.n e.1, eq-eqb a.k b.k e.2, eq-eqb a.pack b.pack e.3)

module _ (a b : Receiver) (whole-a : length a.entries ≡ 256) (whole-b : length b.entries ≡ 256) (joint common : ℕ) where
  pub first-forged : (Reachable a → ⊥) → pool_refusal a b joint common ≡ 14
  unfolding pool_refusal
  first-forged h = test-refused _ _ _ tt (forged a whole-a h)

  pub second-forged : Reachable a → (Reachable b → ⊥) → pool_refusal a b joint common ≡ 14
  unfolding pool_refusal
  second-forged f h = test-passed _ _ _ (formed a whole-a f) ∙ test-refused _ _ _ tt (forged b whole-b h)

  pub setups-differ : Reachable a → Reachable b → (SameSetup a b → ⊥) → pool_refusal a b joint common ≡ 16
  unfolding pool_refusal
  setups-differ f s h =
      test-passed _ _ _ (formed a whole-a f) ∙ test-passed _ _ _ (formed b whole-b s) ∙ test-refused _ _ _ tt (differ a b h)

  pub buffers-wrong : Reachable a → Reachable b → SameSetup a b
      → ((joint ≡ a.n * a.n) × (common ≡ a.n * a.n) → ⊥) → pool_refusal a b joint common ≡ 4
  unfolding pool_refusal
  buffers-wrong f s e h =
      test-passed _ _ _ (formed a whole-a f) ∙ test-passed _ _ _ (formed b whole-b s) ∙ test-passed _ _ _ (same a b e)
      ∙ cases (ℕ_discrete joint (a.n * a.n))
    where
      cases : Dec (joint ≡ a.n * a.n)
          → first
          (refuse_unless (eqb joint (a.n * a.n)) length_refusal ∷ refuse_unless (eqb common (a.n * a.n)) length_refusal ∷ []) ≡ 4
      cases (no j) = test-refused _ _ _ tt (ne_eqb joint (a.n * a.n) j)
      cases (yes j) =
          test-passed _ _ _ (eq-eqb joint (a.n * a.n) j) ∙ test-refused _ _ _ tt (ne_eqb common (a.n * a.n) (λ c. h (j, c)))

  pub none-applies : Reachable a → Reachable b → SameSetup a b
      → (joint ≡ a.n * a.n) × (common ≡ a.n * a.n) → pool_refusal a b joint common ≡ 0
  none-applies f s e l =
      pool-unrefused a b joint common (formed a whole-a f) (formed b whole-b s) (same a b e) l.0 l.1

pub number_is : (a b : Receiver) (joint common : ℕ) → pool_number (pool_of a b joint common).answer ≡ pool_refusal a b joint common
number_is a b joint common = (pool-told a b joint common (pool_of a b joint common) refl).0

pub refused-leaves : (a b : Receiver) (joint common : List ℕ) → (pool_refusal a b (length joint) (length common) ≡ 0 → ⊥)
    → ((pool_of a b (length joint) (length common)).receiver ≡ empty no_setup)
    × (pool_joint (pool_of a b (length joint) (length common)).answer ≡ 0)
    × (pool_common (pool_of a b (length joint) (length common)).answer ≡ 0)
    × (joint_buffer a b joint (length common) ≡ joint)
    × (common_buffer a b (length joint) common ≡ common)
unfolding pool_of joint_buffer common_buffer
refused-leaves a b joint common z =
    let told = pool-told a b (length joint) (length common) (pool_of a b (length joint) (length common)) refl in (
      ap (λ (p : Pooled). p.receiver) (sym (kept _ _ _ z)),
      told.1 ∙ sym (kept _ _ _ z),
      told.2 ∙ sym (kept _ _ _ z),
      sym (kept _ _ _ z),
      sym (kept _ _ _ z),
    )
