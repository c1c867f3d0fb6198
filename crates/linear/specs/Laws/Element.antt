-- The elements of the field with q elements as a type: the numbers below q, with the laws for all of them; no part of the meaning.
--   scalars q laws    == the field of the numbers below q
--   element q laws a  == the number a as an element; 0 where a is q or more
--   element-value     == its number is a
--   element-of        == an element's number has that element
--   element-injective == two numbers below q with the same element are equal
--   element-zero, -one, -add, -multiply, -negate, -invert == the operations on numbers are those on elements
-- Assumes nothing.
use Rattle.std.specs.Prelude.{◌≡◌}
use Rattle.std.proofs.Math.Path.{refl, sym}
use Rattle.std.proofs.Common.{ap, ap₂, ◌∙◌, arith}
use Prim.Native.Nat.{ℕ, ◌<◌, Fin}
use Rattle.std.proofs.Math.Decide.{dec_lt}
use Rattle.field.specs.Field.{add, multiply, negate, invert}
use Rattle.field.specs.FieldLaws.{Laws}
use Rattle.linear.specs.Laws.Scalars.{Scalars}

module _ (q : ℕ) (laws : Laws q) where
  zero-below : 0 < q
  zero-below = omega (arith, laws.one_below)

  inverts : (a : Fin q) → (a ≡ (0, zero-below) → ⊥) → multiply q a.0 (invert q a.0) ≡ 1
  inverts a h = cases (dec_lt 0 a.0)
    where
      cases : Dec (0 < a.0) → multiply q a.0 (invert q a.0) ≡ 1
      cases (yes p) = laws.multiply-invert a.0 a.1 p
      cases (no p) = absurd (h (native.Mathlib.Fin.val_path (omega arith)))

  pub scalars : Scalars (Fin q)
  scalars =
      record {
        nought = (0, zero-below);
        unit = (1, laws.one_below);
        ◌⊕◌ = λ a b. (add q a.0 b.0, laws.add-below a.0 a.1 b.0 b.1);
        ◌⊗◌ = λ a b. (multiply q a.0 b.0, laws.multiply-below a.0 a.1 b.0 b.1);
        minus = λ a. (negate q a.0, laws.negate-below a.0 a.1);
        inverse = λ a. (invert q a.0, laws.invert-below a.0 a.1);
        plus_comm = λ a b. native.Mathlib.Fin.val_path (laws.add_comm a.0 a.1 b.0 b.1);
        plus_assoc = λ a b c. native.Mathlib.Fin.val_path (laws.add_assoc a.0 a.1 b.0 b.1 c.0 c.1);
        plus-nought = λ a. native.Mathlib.Fin.val_path (laws.add-zero a.0 a.1);
        plus-minus = λ a. native.Mathlib.Fin.val_path (laws.add-negate a.0 a.1);
        times-comm = λ a b. native.Mathlib.Fin.val_path (laws.multiply-comm a.0 a.1 b.0 b.1);
        times-assoc = λ a b c. native.Mathlib.Fin.val_path (laws.multiply-assoc a.0 a.1 b.0 b.1 c.0 c.1);
        times-unit = λ a. native.Mathlib.Fin.val_path (laws.multiply-one a.0 a.1);
        times-nought = λ a. native.Mathlib.Fin.val_path (laws.multiply-zero a.0 a.1);
        times-plus = λ a b c. native.Mathlib.Fin.val_path (laws.distribute a.0 a.1 b.0 b.1 c.0 c.1);
        times-inverse = λ a h. native.Mathlib.Fin.val_path (inverts a h);
        unit-nonzero = λ e. omega (arith, ap (λ x. x.0) e);
      }

  open scalars use {nought, unit, ◌⊕◌, ◌⊗◌, minus, inverse}

  infixl 60 ◌⊕◌
  infixl 70 ◌⊗◌
  decided : (a : ℕ) → Dec (a < q) → Fin q
  decided a (yes h) = (a, h)
  decided a (no h) = (0, zero-below)

  pub element : ℕ → Fin q
  element a = decided a (dec_lt a q)

  pub element-value : (a : ℕ) → a < q → (element a).0 ≡ a
  unfolding element decided
  element-value a h = cases (dec_lt a q)
    where
      cases : (d : Dec (a < q)) → (decided a d).0 ≡ a
      cases (yes p) = refl
      cases (no p) = absurd (p h)

  pub element-injective : (a b : ℕ) → a < q → b < q → element a ≡ element b → a ≡ b
  element-injective a b h g e = sym (element-value a h) ∙ ap (λ x. x.0) e ∙ element-value b g

  pub element-of : (x : Fin q) → element x.0 ≡ x
  element-of x = native.Mathlib.Fin.val_path (element-value x.0 x.1)

  pub element-zero : element 0 ≡ nought
  unfolding scalars
  element-zero = native.Mathlib.Fin.val_path (element-value 0 zero-below)

  pub element-one : element 1 ≡ unit
  unfolding scalars
  element-one = native.Mathlib.Fin.val_path (element-value 1 laws.one_below)

  pub element-add : (a : ℕ) → a < q → (b : ℕ) → b < q → element (add q a b) ≡ element a ⊕ element b
  unfolding scalars
  element-add a h b g =
      native.Mathlib.Fin.val_path (element-value (add q a b) (laws.add-below a h b g) ∙ sym (ap₂ (add q) (element-value a h) (element-value b g)))

  pub element-multiply : (a : ℕ) → a < q → (b : ℕ) → b < q → element (multiply q a b) ≡ element a ⊗ element b
  unfolding scalars
  element-multiply a h b g =
      native.Mathlib.Fin.val_path
      (element-value (multiply q a b) (laws.multiply-below a h b g) ∙ sym (ap₂ (multiply q) (element-value a h) (element-value b g)))

  pub element-negate : (a : ℕ) → a < q → element (negate q a) ≡ minus (element a)
  unfolding scalars
  element-negate a h = native.Mathlib.Fin.val_path (element-value (negate q a) (laws.negate-below a h) ∙ sym (ap (negate q) (element-value a h)))

  pub element-invert : (a : ℕ) → a < q → element (invert q a) ≡ inverse (element a)
  unfolding scalars
  element-invert a h = native.Mathlib.Fin.val_path (element-value (invert q a) (laws.invert-below a h) ∙ sym (ap (invert q) (element-value a h)))
