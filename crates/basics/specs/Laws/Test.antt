-- Tests that compute, each with the statement that it shows: a statement over finitely many numbers is proved by running its test.
--   Test A          == a Bool, and a proof of A where it is true
--   equal, below, same == the tests of m ≡ n and of m < n, and that two Bools are the same
--   equal_lists      == the test that two lists are the same
--   always, _⊛_     == a statement that needs no test, and one more premise tested: the test of what follows from several
--   unless-zero     == the test of a statement about nonzero numbers
--   decided, whenever == a test itself as a statement, and the test of what needs to hold only where another test does
--   every, -Pair, -Triple == the tests of a statement about all numbers below q, all pairs, all triples
-- Assumes nothing.
use Rattle.std.specs.Prelude.{◌≡◌, refl, Bool, true, false, ◌&&◌, List, [], ◌∷◌, ℕ, zero, suc, ◌<◌, T, eqb, ltb}
use Rattle.std.proofs.Common.{ap₂, subst, sym, ⊎_elim, eq-or-lt_of_le, le_of_suc-le-suc, not-suc-le-zero, eqb→eq, ltb→lt}

pub record Test (A : Type 0) : Type 0 where
  pub holds : Bool
  pub shows : T holds → A

abbrev pub equal : (m n : ℕ) → Test (m ≡ n)
equal m n = record { holds = eqb m n; shows = eqb→eq m n }

abbrev pub below : (m n : ℕ) → Test (m < n)
below m n = record { holds = ltb m n; shows = ltb→lt m n }

abbrev pub same : (a b : Bool) → Test (a ≡ b)
same true true = record { holds = true; shows = λ _. refl }
same true false = record { holds = false; shows = λ t. absurd t }
same false true = record { holds = false; shows = λ t. absurd t }
same false false = record { holds = true; shows = λ _. refl }

pub and_left : (a b : Bool) → T (a && b) → T a
and_left true b t = tt
and_left false b t = t

pub and_right : (a b : Bool) → T (a && b) → T b
and_right true b t = t
and_right false b t = absurd t

infixl 20 ◌⊛◌
abbrev pub always : {A : Type 0} → A → Test A
always a = record { holds = true; shows = λ _. a }

abbrev pub ◌⊛◌ : {A B : Type 0} → Test (A → B) → Test A → Test B
f ⊛ a =
    record {
      holds = f.holds && a.holds;
      shows = λ t. f.shows (and_left f.holds a.holds t) (a.shows (and_right f.holds a.holds t));
    }

abbrev pub equal_lists : (xs ys : List ℕ) → Test (xs ≡ ys)
equal_lists [] [] = always refl
equal_lists [] (y ∷ ys) = record { holds = false; shows = λ t. absurd t }
equal_lists (x ∷ xs) [] = record { holds = false; shows = λ t. absurd t }
equal_lists (x ∷ xs) (y ∷ ys) = always (ap₂ (λ (a : ℕ) (l : List ℕ). a ∷ l)) ⊛ equal x y ⊛ equal_lists xs ys

abbrev pub unless-zero : (a : ℕ) (A : Type 0) → Test A → Test (0 < a → A)
unless-zero zero A t = record { holds = true; shows = λ _ h. absurd (not-suc-le-zero h) }
unless-zero (suc a) A t = record { holds = t.holds; shows = λ s _. t.shows s }

abbrev pub decided : (b : Bool) → Test (T b)
decided b = record { holds = b; shows = λ t. t }

abbrev pub whenever : (b : Bool) (A : Type 0) → Test A → Test (T b → A)
whenever true A t = record { holds = t.holds; shows = λ s _. t.shows s }
whenever false A t = record { holds = true; shows = λ _ f. absurd f }

abbrev pub every : (P : ℕ → Type 0) → ((a : ℕ) → Test (P a)) → (q : ℕ) → Test ((a : ℕ) → a < q → P a)
every P f zero = record { holds = true; shows = λ _ a h. absurd (not-suc-le-zero h) }
every P f (suc q) = every-step P f q (every P f q)
  where
    every-step : (P : ℕ → Type 0) → ((a : ℕ) → Test (P a)) → (q : ℕ) → Test ((a : ℕ) → a < q → P a) → Test ((a : ℕ) → a < suc q → P a)
    every-step P f q e =
        record {
          holds = (f q).holds && e.holds;
          shows =
              λ t a h.
              ⊎_elim (λ (p : a ≡ q). subst P (sym p) ((f q).shows (and_left (f q).holds e.holds t)))
              (λ (l : a < q). e.shows (and_right (f q).holds e.holds t) a l) (eq-or-lt_of_le (le_of_suc-le-suc h));
        }

abbrev pub every_pair : (q : ℕ) (P : ℕ → ℕ → Type 0) → ((a b : ℕ) → Test (P a b)) → Test ((a : ℕ) → a < q → (b : ℕ) → b < q → P a b)
every_pair q P t = every (λ a. (b : ℕ) → b < q → P a b) (λ a. every (P a) (t a) q) q

abbrev pub every_triple : (q : ℕ) (P : ℕ → ℕ → ℕ → Type 0) → ((a b c : ℕ) → Test (P a b c))
    → Test ((a : ℕ) → a < q → (b : ℕ) → b < q → (c : ℕ) → c < q → P a b c)
every_triple q P t = every (λ a. (b : ℕ) → b < q → (c : ℕ) → c < q → P a b c) (λ a. every_pair q (P a) (t a)) q
