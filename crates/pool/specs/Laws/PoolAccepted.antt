-- A pooling that is not refused; no part of the meaning.
--   PoolAccepted     == what holds where none refuses
--   pool-accepted, pool-unrefused == what is not refused is PoolAccepted; and back
--   pool-known       == what these tests come to is a refusal, or none
--   pool-told        == the number and the dimensions that an answer tells
-- Assumes nothing.
use Rattle.std.specs.Prelude.{◌≡◌, true, ℕ, ◌*◌, eqb}
use Rattle.std.proofs.Math.Path.{refl, ap}
use Rattle.std.proofs.Common.{◌∙◌}
use mathlib.Core.List.{[], ◌∷◌}
use borrow.Author.Tests.{eq-eqb, eqb-true}
use Rattle.std.proofs.Math.Dec.{eqb→eq}
use Rattle.basics.specs.Laws.Choice.{holds}
use Rattle.basics.specs.Laws.Test.{and_left, and_right}
use Rattle.refusal.specs.Refusal.{receiver_refusal, length_refusal, mismatch_refusal, refuse_unless, unless_refused}
use Rattle.refusal.specs.Laws.First.{test_zero, test-passed, first-none, told-number, told-value, Known, known-none, known-test, known-first}
use Rattle.refusal.specs.declared.Refusal.TheVariants as refusals
use Rattle.spaces.specs.Spaces.{joint_dimension, common_dimension}
use Rattle.receiver.specs.Receiver.{well_formed, held_rows}
use Rattle.receiver.specs.declared.Receiver.{Receiver}
use Rattle.pool.specs.Pool.{alike, pool_refusal, pooled, pool_of, pool_number, pool_joint, pool_common}
use Rattle.pool.specs.declared.Pooled.{Pooled}

pub record PoolAccepted (a b : Receiver) (joint common : ℕ) : Type 0 where
  pub first : well_formed a ≡ true
  pub second : well_formed b ≡ true
  pub same : alike a b ≡ true
  pub joint-room : joint ≡ a.n * a.n
  pub common-room : common ≡ a.n * a.n

module _ (a b : Receiver) where
  pub alike-setups : alike a b ≡ true → (a.q ≡ b.q) × (a.n ≡ b.n) × (a.k ≡ b.k) × (a.pack ≡ b.pack)
  unfolding alike
  alike-setups e =
      let t = holds (alike a b) e in
      let s = and_right (eqb a.q b.q) _ t in
      let r = and_right (eqb a.n b.n) _ s in (
        eqb→eq _ _ (and_left (eqb a.q b.q) _ t),
        eqb→eq _ _ (and_left (eqb a.n b.n) _ s),
        eqb→eq _ _ (and_left (eqb a.k b.k) _ r),
        eqb→eq _ _ (and_right (eqb a.k b.k) _ r),
      )

  module _ (joint common : ℕ) where
    pub pool-accepted : pool_refusal a b joint common ≡ 0 → PoolAccepted a b joint common
    unfolding pool_refusal
    pool-accepted e =
        let last = refuse_unless (eqb common (a.n * a.n)) length_refusal ∷ [] in
        let lengths = refuse_unless (eqb joint (a.n * a.n)) length_refusal ∷ last in
        let sizes = refuse_unless (alike a b) mismatch_refusal ∷ lengths in
        let f = test_zero (well_formed a) receiver_refusal (refuse_unless (well_formed b) receiver_refusal ∷ sizes) tt e in
        let s = test_zero (well_formed b) receiver_refusal sizes tt f.1 in
        let m = test_zero (alike a b) mismatch_refusal lengths tt s.1 in
        let j = test_zero (eqb joint (a.n * a.n)) length_refusal last tt m.1 in
        record {
          first = f.0;
          second = s.0;
          same = m.0;
          joint-room = eqb-true joint (a.n * a.n) j.0;
          common-room = eqb-true common (a.n * a.n) (test_zero (eqb common (a.n * a.n)) length_refusal [] tt j.1).0;
        }

    pub pool-unrefused : well_formed a ≡ true → well_formed b ≡ true → alike a b ≡ true → joint ≡ a.n * a.n → common ≡ a.n * a.n
        → pool_refusal a b joint common ≡ 0
    unfolding pool_refusal
    pool-unrefused f s m j c =
        test-passed _ _ _ f ∙ test-passed _ _ _ s ∙ test-passed _ _ _ m ∙ test-passed _ _ _ (eq-eqb joint (a.n * a.n) j)
        ∙ test-passed _ _ _ (eq-eqb common (a.n * a.n) c)
        ∙ first-none

    pub pool-known : Known (pool_refusal a b joint common)
    unfolding pool_refusal
    pool-known =
        known-first _ _ (known-test _ refusals.Receiver)
        (known-first _ _ (known-test _ refusals.Receiver)
        (known-first _ _ (known-test _ refusals.Mismatch)
        (known-first _ _ (known-test _ refusals.Length) (known-first _ _ (known-test _ refusals.Length) known-none))))

    pub pool-told : (p : Pooled) → p ≡ pool_of a b joint common
        → (pool_number p.answer ≡ pool_refusal a b joint common)
        × (pool_joint p.answer
        ≡ unless_refused (pool_refusal a b joint common) (joint_dimension a.q a.n (held_rows a) (held_rows b)) 0)
        × (pool_common p.answer
        ≡ unless_refused (pool_refusal a b joint common) (common_dimension a.q a.n (held_rows a) (held_rows b)) 0)
    unfolding pool_of pooled
    pool-told p e =
        let refusal = pool_refusal a b joint common in (
          ap (λ x. pool_number x.answer) e ∙ told-number refusal _ _ (λ (x : Pooled). pool_number x.answer) refl pool-known,
          ap (λ x. pool_joint x.answer) e ∙ told-value refusal _ _ (λ (x : Pooled). pool_joint x.answer) _ refl refl,
          ap (λ x. pool_common x.answer) e ∙ told-value refusal _ _ (λ (x : Pooled). pool_common x.answer) _ refl refl,
        )
