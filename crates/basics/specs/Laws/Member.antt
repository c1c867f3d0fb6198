-- Membership in a list of numbers, as a test and as a place: laws; no part of the meaning.
--   position a l    == the first place at which a stands in l; l's length where it stands nowhere
--   position-below, position_at == a member's place is below the length, and the member stands there
--   position-none   == the place of what is no member
--   position-member == a is a member exactly where its place is below the length
--   member-next     == a member that is not the first stands in the rest
--   member-last     == the member of a list of one
--   for_each         == the test of a statement about every member
-- Assumes nothing.
use Rattle.std.specs.Prelude.{◌≡◌, refl, Bool, true, false, ◌&&◌, List, [], ◌∷◌, ℕ, suc, ◌<◌, T, eqb, ltb, length, get_or}
use Rattle.std.proofs.Common.{ap, subst, sym, suc-le-suc, zero-lt-suc, le_of_eq, arith, lt-ltb, le-ltb, eqb→eq}
use Rattle.basics.specs.Choice.{pick}
use Rattle.basics.specs.Laws.Test.{Test, and_left, and_right}
use Rattle.basics.specs.Member.{member}

abbrev pub position : ℕ → List ℕ → ℕ
position a [] = 0
position a (x ∷ xs) = pick (eqb a x) 0 (suc (position a xs))

pub position-below : (a : ℕ) (l : List ℕ) → T (member a l) → position a l < length l
position-below a [] t = absurd t
position-below a (x ∷ xs) t = step (eqb a x) t (position-below a xs)
  where
    step : (b : Bool) → T (pick b true (member a xs)) → (T (member a xs) → position a xs < length xs)
        → pick b 0 (suc (position a xs)) < suc (length xs)
    step true t h = zero-lt-suc (length xs)
    step false t h = suc-le-suc (h t)

pub position_at : (a : ℕ) (l : List ℕ) → T (member a l) → get_or l (position a l) 0 ≡ a
position_at a [] t = absurd t
position_at a (x ∷ xs) t = step (eqb a x) t (position_at a xs) (eqb→eq a x)
  where
    step : (b : Bool) → T (pick b true (member a xs)) → (T (member a xs) → get_or xs (position a xs) 0 ≡ a)
        → (T b → a ≡ x) → get_or (x ∷ xs) (pick b 0 (suc (position a xs))) 0 ≡ a
    step true t h e = sym (e tt)
    step false t h e = h t

pub position-none : (a : ℕ) (l : List ℕ) → member a l ≡ false → position a l ≡ length l
position-none a [] e = refl
position-none a (x ∷ xs) e = step (eqb a x) e (position-none a xs)
  where
    step : (b : Bool) → pick b true (member a xs) ≡ false → (member a xs ≡ false → position a xs ≡ length xs)
        → pick b 0 (suc (position a xs)) ≡ suc (length xs)
    step true e h = let z : ◌≡◌ {A = ℕ} 0 1 = cc in absurd (omega arith)
    step false e h = ap suc (h e)

pub position-member : (a : ℕ) (l : List ℕ) → ltb (position a l) (length l) ≡ member a l
position-member a l = cases (member a l) refl
  where
    cases : (b : Bool) → member a l ≡ b → ltb (position a l) (length l) ≡ b
    cases true e = lt-ltb (position a l) (length l) (position-below a l (subst T (sym e) tt))
    cases false e = le-ltb (position a l) (length l) (le_of_eq (sym (position-none a l e)))

abbrev pub for_each : (P : ℕ → Type 0) → ((a : ℕ) → Test (P a)) → (l : List ℕ) → Test ((a : ℕ) → T (member a l) → P a)
for_each P f [] = record { holds = true; shows = λ _ a t. absurd t }
for_each P f (x ∷ xs) = for_each-step (for_each P f xs)
  where
    either : (a : ℕ) (b : Bool) → (T b → a ≡ x) → P x → (T (member a xs) → P a) → T (pick b true (member a xs)) → P a
    either a true e p q t = subst P (sym (e tt)) p
    either a false e p q t = q t

    for_each-step : Test ((a : ℕ) → T (member a xs) → P a) → Test ((a : ℕ) → T (member a (x ∷ xs)) → P a)
    for_each-step rest =
        record {
          holds = (f x).holds && rest.holds;
          shows =
              λ t a m.
              either a (eqb a x) (eqb→eq a x) ((f x).shows (and_left (f x).holds rest.holds t))
              (rest.shows (and_right (f x).holds rest.holds t) a) m;
        }

pub member-next : (a x : ℕ) (xs : List ℕ) → T (member a (x ∷ xs)) → (a ≡ x → ⊥) → T (member a xs)
member-next a x xs t other = step (eqb a x) t (eqb→eq a x)
  where
    step : (b : Bool) → T (pick b true (member a xs)) → (T b → a ≡ x) → T (member a xs)
    step true t same = absurd (other (same tt))
    step false t same = t

pub member-last : (a x : ℕ) → T (member a (x ∷ [])) → a ≡ x
member-last a x t = step (eqb a x) t (eqb→eq a x)
  where
    step : (b : Bool) → T (pick b true false) → (T b → a ≡ x) → a ≡ x
    step true t same = same tt
    step false t same = absurd t
