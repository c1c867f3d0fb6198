-- Every element of a list has a property, or is one of a list: how to make and use such a fact; no part of the meaning.
--   all_map     == a property that follows from another
--   all_both    == a property that follows from two others
--   all_head, all_tail == of the first element, and of the others
--   all-at      == the property of the element at a place
--   all_of      == from the elements at all places
--   all_append, all-parts == of two lists, one after the other; and of each of them
--   all_take, all_drop == of a list's first elements, and of the others
--   all_among   == of whatever is one of the list
--   among-all   == from whatever is one of the list
--   each-among  == every element of a list is one of it
--   among-append, among-either == what is one of two lists, one after the other
-- Assumes nothing.
use Rattle.std.specs.Prelude.{List, [], ◌∷◌, ◌++◌, ◌⊎◌, ℕ, zero, suc, ◌<◌, length, get_or, take, drop}
use Rattle.std.proofs.Common.{inl, inr, suc-le-suc, zero-lt-suc, le_of_suc-le-suc, not-suc-le-zero}
use Rattle.linear.specs.Span.{All, none, more, Among, first, later}

module _ {A : Type 0} where
  pub all_map : {P Q : A → Type 0} {xs : List A} → ((x : A) → P x → Q x) → All P xs → All Q xs
  all_map f none = none
  all_map f (more {x = x} p ps) = more (f x p) (all_map f ps)

  pub all_both : {P Q R : A → Type 0} {xs : List A} → ((x : A) → P x → Q x → R x) → All P xs → All Q xs → All R xs
  all_both f none none = none
  all_both f (more {x = x} p ps) (more q qs) = more (f x p q) (all_both f ps qs)

  pub all_head : {P : A → Type 0} {x : A} {xs : List A} → All P (x ∷ xs) → P x
  all_head (more p ps) = p

  pub all_tail : {P : A → Type 0} {x : A} {xs : List A} → All P (x ∷ xs) → All P xs
  all_tail (more p ps) = ps

  pub all-at : {P : A → Type 0} {xs : List A} → All P xs → (d : A) (i : ℕ) → i < length xs → P (get_or xs i d)
  all-at none d i h = absurd (not-suc-le-zero h)
  all-at (more p ps) d zero h = p
  all-at (more p ps) d (suc i) h = all-at ps d i (le_of_suc-le-suc h)

  pub all_of : {P : A → Type 0} (d : A) (xs : List A) → ((i : ℕ) → i < length xs → P (get_or xs i d)) → All P xs
  all_of d [] h = none
  all_of d (x ∷ xs) h = more (h 0 (zero-lt-suc (length xs))) (all_of d xs (λ i l. h (suc i) (suc-le-suc l)))

  pub all_append : {P : A → Type 0} {xs ys : List A} → All P xs → All P ys → All P (xs ++ ys)
  all_append none qs = qs
  all_append (more p ps) qs = more p (all_append ps qs)

  pub all-parts : {P : A → Type 0} (xs ys : List A) → All P (xs ++ ys) → All P xs × All P ys
  all-parts [] ys ps = (none, ps)
  all-parts (x ∷ xs) ys (more p ps) = let both = all-parts xs ys ps in (more p both.0, both.1)

  pub all_take : {P : A → Type 0} (n : ℕ) {xs : List A} → All P xs → All P (take n xs)
  all_take zero ps = none
  all_take (suc n) none = none
  all_take (suc n) (more p ps) = more p (all_take n ps)

  pub all_drop : {P : A → Type 0} (n : ℕ) {xs : List A} → All P xs → All P (drop n xs)
  all_drop zero ps = ps
  all_drop (suc n) none = none
  all_drop (suc n) (more p ps) = all_drop n ps

  pub all_among : {P : A → Type 0} {x : A} {xs : List A} → All P xs → Among x xs → P x
  all_among none a = elim a [ ]
  all_among (more p ps) first = p
  all_among (more p ps) (later a) = all_among ps a

  pub among-all : {P : A → Type 0} (xs : List A) → ((x : A) → Among x xs → P x) → All P xs
  among-all [] h = none
  among-all (x ∷ xs) h = more (h x first) (among-all xs (λ y a. h y (later a)))

  pub each-among : (xs : List A) → All (λ x. Among x xs) xs
  each-among xs = among-all xs (λ x a. a)

  pub among-append : {x : A} (xs ys : List A) → Among x xs ⊎ Among x ys → Among x (xs ++ ys)
  among-append [] ys (inl a) = elim a [ ]
  among-append (y ∷ xs) ys (inl first) = first
  among-append (y ∷ xs) ys (inl (later a)) = later (among-append xs ys (inl a))
  among-append [] ys (inr a) = a
  among-append (y ∷ xs) ys (inr a) = later (among-append xs ys (inr a))

  pub among-either : {x : A} (xs ys : List A) → Among x (xs ++ ys) → Among x xs ⊎ Among x ys
  among-either [] ys a = inr a
  among-either (y ∷ xs) ys first = inl first
  among-either (y ∷ xs) ys (later a) = still (among-either xs ys a)
    where
      still : {x : A} → Among x xs ⊎ Among x ys → Among x (y ∷ xs) ⊎ Among x ys
      still (inl a) = inl (later a)
      still (inr a) = inr a
