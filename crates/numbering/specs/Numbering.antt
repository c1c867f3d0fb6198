-- The two numberings side by side. Document 01: "Numbering 1 is extended, numbering 2 is Ferrers."
--   extended, ferrers   == 1 and 2
--   is_numbering t       == the test that t is one of them
--   code c               == the number of a numbering
--   Chooses t r          == r is the numbering that t stands for, or 10 where t stands for none
--   Numbering           == what a numbering is: the index of a reduced matrix, the matrix of an index, and the order
--   extended_numbering, ferrers_numbering == the two of them
--   numbering_of t       == the numbering that t stands for
--   index_of q n k t m   == the index of the reduced matrix m in the numbering t
--   drawn q n k t i     == the bytes of the reduced matrix with the index i in the numbering t
--   before q n k t a b  == a comes before b in the numbering's order
--   index_in t i         == i as an index of the numbering t: "An extended index and a Ferrers index never stand in each other's place"
--   index_value          == the number of such an index
--   choice_refusal       == 1, 2, 3, then "10 if the numbering is neither 1 nor 2", with which most calls begin
-- Assumes nothing.
use Rattle.std.specs.Prelude.{◌≡◌, Bool, false, ◌||◌, List, [], ◌∷◌, ℕ, eqb, Result, MatchResult}
use Rattle.basics.specs.Choice.{pick}
use Rattle.refusal.specs.Refusal.{numbering_refusal, refuse_unless, first}
use Rattle.settings.specs.Settings.{settings_refusal}
use Rattle.extended.specs.Extended.{extended_index, extended_before}
use Rattle.extended.specs.Drawn.{drawn_extended}
use Rattle.ferrers.specs.Ferrers.{ferrers_index, ferrers_before}
use Rattle.ferrers.specs.Drawn.{drawn_ferrers}
use Rattle.refusal.specs.declared.Refusal.{Refusal}
use Rattle.refusal.specs.declared.Refusal.TheVariants as refusals
use Rattle.numbering.specs.declared.Numbering.{Numbering as Choice}
use Rattle.numbering.specs.declared.Numbering.TheVariants as choices
use Rattle.numbering.specs.declared.Index.{Index}
use Rattle.numbering.specs.declared.Index.TheVariants.{Extended, Ferrers}

abbrev pub extended : ℕ
extended = 1

abbrev pub ferrers : ℕ
ferrers = 2

unfoldable pub is_numbering : ℕ → Bool
is_numbering t = eqb t extended || eqb t ferrers

abbrev pub code : Choice → ℕ
code choices.Extended = extended
code choices.Ferrers = ferrers

abbrev pub Chooses : ℕ → Result Choice Refusal → Type 0
Chooses t r = MatchResult r (λ c. code c ≡ t) (λ e. (e ≡ refusals.Numbering) × (is_numbering t ≡ false))

pub record Numbering : Type 1 where
  pub index : ℕ → ℕ → ℕ → List ℕ → ℕ
  pub matrix : ℕ → ℕ → ℕ → ℕ → List ℕ
  pub order : ℕ → ℕ → ℕ → List ℕ → List ℕ → Type 0
  pub typed : ℕ → Index

abbrev pub extended_numbering : Numbering
extended_numbering =
    record { index = extended_index; matrix = drawn_extended; order = extended_before; typed = λ i. Extended (record { 0 = i }) }

abbrev pub ferrers_numbering : Numbering
ferrers_numbering =
    record { index = ferrers_index; matrix = drawn_ferrers; order = ferrers_before; typed = λ i. Ferrers (record { 0 = i }) }

unfoldable pub numbering_of : ℕ → Numbering
numbering_of t = pick (eqb t extended) extended_numbering ferrers_numbering

abbrev pub index_of : ℕ → ℕ → ℕ → ℕ → List ℕ → ℕ
index_of q n k t m = (numbering_of t).index q n k m

abbrev pub drawn : ℕ → ℕ → ℕ → ℕ → ℕ → List ℕ
drawn q n k t i = (numbering_of t).matrix q n k i

abbrev pub before : ℕ → ℕ → ℕ → ℕ → List ℕ → List ℕ → Type 0
before q n k t a b = (numbering_of t).order q n k a b

abbrev pub index_in : ℕ → ℕ → Index
index_in t i = (numbering_of t).typed i

abbrev pub index_value : Index → ℕ
index_value (Extended i) = i.0
index_value (Ferrers i) = i.0

unfoldable pub choice_refusal : ℕ → ℕ → ℕ → ℕ → ℕ
choice_refusal q n k t = first (settings_refusal q n k ∷ refuse_unless (is_numbering t) numbering_refusal ∷ [])
