-- One row less is left at each turn, of any matrix with this vector.
use Rattle.std.proofs.Common.{◌≡◌, List, ℕ, suc, ◌-◌, ◌≤◌, ◌<◌, length, subst, arith}
use Rattle.std.specs.Int.Count.{count_trailing_zeros}
use Rattle.matrix.specs.Matrix.{Reduced, identifying}
use Rattle.matrix.proofs.Laws.Pivots.{Left, left-start, left_end, Next, left_step}
use Rattle.matrix.proofs.pivot_columns.Goals as goal

stepped : (v n k rest i j : ℕ) (pivots : List ℕ) → n ≤ 16 → 0 < i → i ≤ k → k ≤ length pivots → j ≡ count_trailing_zeros 16 rest
    → ((q : ℕ) (m : List ℕ) → Reduced q n k m → v ≡ identifying n k m → Left n k m rest i pivots)
    → (q : ℕ) (m : List ℕ) → Reduced q n k m → v ≡ identifying n k m → Next n k m rest (i - 1) j pivots
stepped v n k rest i j pivots narrow more within room lowest left q m r e =
    let next : i ≡ suc (i - 1) = omega arith in
    left_step narrow r rest (i - 1) j pivots (omega arith) (omega arith) lowest
    (subst (λ x. Left n k m rest x pivots) next (left q m r e))

pub loop-i-init : goal.loop-i-init
loop-i-init c q m r e = left-start r _ _ e

pub overflow_sub-pivots-in-loop-i : goal.overflow_sub-pivots-in-loop-i
overflow_sub-pivots-in-loop-i c = omega (arith, (stepped _ _ _ _ _ _ _ c.requires.0 (omega arith) (omega arith) (omega arith) c.next_pivot-j.ensures c.loop-i.invariant _ _ c.requires.2.1.1.0 c.requires.2.1.1.1).inside)

pub overflow_shl-rest : goal.overflow_shl-rest
overflow_shl-rest c = omega (arith, (stepped _ _ _ _ _ _ _ c.requires.0 (omega arith) (omega arith) (omega arith) c.next_pivot-j.ensures c.loop-i.invariant _ _ c.requires.2.1.1.0 c.requires.2.1.1.1).inside)

pub overflow_sub-rest : goal.overflow_sub-rest
overflow_sub-rest c =
    let next =
    stepped _ _ _ _ _ _ _ c.requires.0 (omega arith) (omega arith) (omega arith) c.next_pivot-j.ensures c.loop-i.invariant _ _
    c.requires.2.1.1.0 c.requires.2.1.1.1
    in
    omega (arith, next.enough)

pub loop-i-preserved : goal.loop-i-preserved
loop-i-preserved c q m r e = (stepped _ _ _ _ _ _ _ c.requires.0 (omega arith) (omega arith) (omega arith) c.next_pivot-j.ensures c.loop-i.invariant q m r e).next

pub returns : goal.returns
returns c q m r e = left_end (omega arith) (c.loop-i.invariant q m r e)
