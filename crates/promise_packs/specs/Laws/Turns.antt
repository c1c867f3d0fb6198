-- Lists put together by turns; no part of the meaning.
--   turns-swap      == by turns, the other way round
--   turns-all       == what holds of both lists holds of the two together
--   turns-among     == what is in the first is in the two together
--   offers-foreign  == what is offered for one pack is offered for no other
-- Assumes nothing.
use Rattle.std.specs.Prelude.{◌≡◌, List, [], ◌∷◌, ℕ}
use Rattle.linear.specs.Span.{All, none, more, Among, first as here, later}
use Rattle.promise_recovery.specs.Calls.{offers}
use Rattle.promise_packs.specs.Packs.{Turns, none as nothing, first, second}

pub turns-swap : {A : Type 0} {xs ys zs : List A} → Turns xs ys zs → Turns ys xs zs
turns-swap nothing = nothing
turns-swap (first t) = second (turns-swap t)
turns-swap (second t) = first (turns-swap t)

pub turns-all : {A : Type 0} {P : A → Type 0} {xs ys zs : List A} → Turns xs ys zs → All P xs → All P ys → All P zs
turns-all nothing ps qs = none
turns-all (first t) (more p ps) qs = more p (turns-all t ps qs)
turns-all (second t) ps (more p qs) = more p (turns-all t ps qs)

pub turns-among : {A : Type 0} {x : A} {xs ys zs : List A} → Turns xs ys zs → Among x xs → Among x zs
turns-among {A = A} nothing a = elim a [ ]
turns-among (first t) here = here
turns-among (first t) (later a) = later (turns-among t a)
turns-among (second t) a = later (turns-among t a)

pub offers-foreign : (pack other : ℕ) → (pack ≡ other → ⊥) → (rows : List (List ℕ)) → All (λ o. o.pack ≡ other → ⊥) (offers pack rows)
offers-foreign pack other apart [] = none
offers-foreign pack other apart (row ∷ rows) = more apart (offers-foreign pack other apart rows)
