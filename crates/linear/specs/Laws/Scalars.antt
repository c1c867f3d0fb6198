-- A field whose laws hold for all elements of a type; no part of the meaning. Facts about rows are proved over any such field, and
-- Element makes one of the numbers below q.
--   Scalars F      == the type F carries the operations and laws of a field
--   nought-plus, nought-times, unit-times, plus_times == the laws with the sides changed over
--   plus-left-comm == with the other laws of sums it lets `simp` sort
--   minus-back     == a multiple taken off and put back changes nothing
-- Assumes nothing.
use Rattle.std.specs.Prelude.{◌≡◌}
use Rattle.std.proofs.Common.{ap, sym, ◌∙◌}

pub record Scalars (F : Type 0) : Type 0 where
  pub nought : F
  pub unit : F
  infixl 60 ◌⊕◌
  infixl 70 ◌⊗◌
  pub ◌⊕◌ : F → F → F
  pub ◌⊗◌ : F → F → F
  pub minus : F → F
  pub inverse : F → F
  pub plus_comm : (a b : F) → a ⊕ b ≡ b ⊕ a
  pub plus_assoc : (a b c : F) → (a ⊕ b) ⊕ c ≡ a ⊕ (b ⊕ c)
  pub plus-nought : (a : F) → a ⊕ nought ≡ a
  pub plus-minus : (a : F) → a ⊕ minus a ≡ nought
  pub times-comm : (a b : F) → a ⊗ b ≡ b ⊗ a
  pub times-assoc : (a b c : F) → (a ⊗ b) ⊗ c ≡ a ⊗ (b ⊗ c)
  pub times-unit : (a : F) → a ⊗ unit ≡ a
  pub times-nought : (a : F) → a ⊗ nought ≡ nought
  pub times-plus : (a b c : F) → a ⊗ (b ⊕ c) ≡ a ⊗ b ⊕ a ⊗ c
  pub times-inverse : (a : F) → (a ≡ nought → ⊥) → a ⊗ inverse a ≡ unit
  pub unit-nonzero : unit ≡ nought → ⊥

module _ {F : Type 0} (K : Scalars F) where
  open K use {nought, unit, ◌⊕◌, ◌⊗◌, minus, plus_comm, plus_assoc, plus-nought, plus-minus}
  open K use {times-comm, times-unit, times-nought, times-plus}

  infixl 60 ◌⊕◌
  infixl 70 ◌⊗◌
  pub nought-plus : (a : F) → nought ⊕ a ≡ a
  nought-plus a = plus_comm nought a ∙ plus-nought a

  pub nought-times : (a : F) → nought ⊗ a ≡ nought
  nought-times a = times-comm nought a ∙ times-nought a

  pub unit-times : (a : F) → unit ⊗ a ≡ a
  unit-times a = times-comm unit a ∙ times-unit a

  pub plus-left-comm : (a b c : F) → a ⊕ (b ⊕ c) ≡ b ⊕ (a ⊕ c)
  plus-left-comm a b c = sym (plus_assoc a b c) ∙ ap (λ x. x ⊕ c) (plus_comm a b) ∙ plus_assoc b a c

  pub plus_times : (a b c : F) → (a ⊕ b) ⊗ c ≡ a ⊗ c ⊕ b ⊗ c
  plus_times a b c = simp (times-comm, times-plus)

  pub minus-back : (a e w : F) → (a ⊕ minus e ⊗ w) ⊕ e ⊗ w ≡ a
  minus-back a e w = plus_assoc a (minus e ⊗ w) (e ⊗ w) ∙ ap (λ x. a ⊕ x) cancel ∙ plus-nought a
    where
      cancel : minus e ⊗ w ⊕ e ⊗ w ≡ nought
      cancel = sym (plus_times (minus e) e w) ∙ ap (λ x. x ⊗ w) (plus_comm (minus e) e ∙ plus-minus e) ∙ nought-times w
