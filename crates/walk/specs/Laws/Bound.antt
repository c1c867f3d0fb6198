-- The least number above numbers that come one by one; no part of the meaning.
--   Reached q f c   == one of the first c numbers of f is q or more
--   Bounds f c b    == b is the least number above the first c numbers of f: it is above q exactly where one of them is q or more
--   bounds-none, -more, -joined == no number, one more, and two rows of numbers, one after the other
-- Assumes nothing.
use Rattle.std.specs.Prelude.{◌≡◌, ◌↔◌, ◌⊎◌, ℕ, suc, ◌+◌, ◌-◌, ◌<◌, ◌≤◌, max}
use Rattle.std.proofs.Common.{ap, ◌∙◌, sym, inl, inr, ⊎_elim, eq-or-lt_of_le, le_of_suc-le-suc, add-sub_of_le, arith}
use Rattle.std.proofs.Math.Nat.{le-max_left, le-max_right, max-eq_left, max_comm}
use Rattle.basics.specs.Laws.Order.{le-or-lt}

abbrev pub Reached : ℕ → (ℕ → ℕ) → ℕ → Type 0
Reached q f c = (place : ℕ) × ((place < c) × (q ≤ f place))

abbrev pub Bounds : (ℕ → ℕ) → ℕ → ℕ → Type 0
Bounds f c b = (q : ℕ) → (q < b) ↔ Reached q f c

below-max : (q a b : ℕ) → q < max a b → (q < a) ⊎ (q < b)
below-max q a b h =
    ⊎_elim (λ l. let e : max a b ≡ b = rw (max_comm a b) (max-eq_left l) in inr (omega (arith, e)))
    (λ l. let e : max a b ≡ a = max-eq_left (omega arith) in inl (omega (arith, e)))
    (le-or-lt a b)

pub bounds-none : (f : ℕ → ℕ) → Bounds f 0 0
bounds-none f q = (λ h. absurd (omega arith), λ r. absurd (omega (arith, r.1.0)))

-- the first c numbers of f, and then the first d of g
pub bounds-joined : (f g : ℕ → ℕ) (c d a b : ℕ) → ((j : ℕ) → f (c + j) ≡ g j) → Bounds f c a → Bounds g d b → Bounds f (c + d) (max a b)
bounds-joined f g c d a b same first second q = (there, back)
  where
    there : q < max a b → Reached q f (c + d)
    there h =
        ⊎_elim (λ l. let (p, r) = (first q).0 l in (p, (omega (arith, r.0), r.1)))
        (λ l. let (p, r) = (second q).0 l in (c + p, (omega (arith, r.0), omega (arith, same p, r.1))))
        (below-max q a b h)

    back : Reached q f (c + d) → q < max a b
    back (p, r) =
        ⊎_elim
        (λ l.
        let at : f p ≡ g (p - c) = ap f (sym (add-sub_of_le l)) ∙ same (p - c) in
        omega (arith, (second q).1 (p - c, (omega (arith, r.0), omega (arith, at, r.1))), le-max_right a b))
        (λ l. omega (arith, (first q).1 (p, (l, r.1)), le-max_left a b))
        (le-or-lt c p)

pub bounds-more : (f : ℕ → ℕ) (c b : ℕ) → Bounds f c b → Bounds f (suc c) (max b (suc (f c)))
bounds-more f c b h q = (there, back)
  where
    there : q < max b (suc (f c)) → Reached q f (suc c)
    there g =
        ⊎_elim (λ l. let (p, r) = (h q).0 l in (p, (omega (arith, r.0), r.1))) (λ l. (c, (omega arith, omega arith)))
        (below-max q b (suc (f c)) g)

    back : Reached q f (suc c) → q < max b (suc (f c))
    back (p, r) =
        ⊎_elim (λ (e : p ≡ c). omega (arith, ap f e, r.1, le-max_right b (suc (f c))))
        (λ l. omega (arith, (h q).1 (p, (l, r.1)), le-max_left b (suc (f c))))
        (eq-or-lt_of_le (le_of_suc-le-suc r.0))
