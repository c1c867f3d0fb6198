-- The settings whose spaces can all be listed; no part of the meaning.
--   list-settings, -large, -none == 1, 2, 3; 12; none
--   Listable q n k  == what the settings obey that are not refused: accepted, and at most 65,536 spaces
--   listable        == what is not refused is Listable
-- Assumes nothing.
use Rattle.std.specs.Prelude.{◌≡◌, ℕ, ◌≤◌, ◌<◌, leb}
use Rattle.std.proofs.Common.{◌∙◌}
use mathlib.Core.List.{[], ◌∷◌}
use borrow.Author.Tests.{le-leb, lt-leb, leb-true}
use Rattle.refusal.specs.Refusal.{listing_refusal, refuse_unless}
use Rattle.refusal.specs.Laws.First.{first-refused, first-passed, first-zero, test-refused, test-passed, test_zero, first-none}
use Rattle.counts.specs.Gaussian.{gaussian}
use Rattle.settings.specs.Settings.{settings_refusal, greatest_listing, list_refusal}
use Rattle.settings.specs.Laws.Accepted.{Accepted, accepted}

pub record Listable (q n k : ℕ) : Type 0 where
  pub settings : Accepted q n k
  pub few : gaussian q n k ≤ greatest_listing

module _ (q n k : ℕ) where
  pub list-settings : (settings_refusal q n k ≡ 0 → ⊥) → list_refusal q n k ≡ settings_refusal q n k
  unfolding list_refusal
  list-settings s = first-refused _ _ s

  pub list-large : settings_refusal q n k ≡ 0 → greatest_listing < gaussian q n k → list_refusal q n k ≡ listing_refusal
  unfolding list_refusal
  list-large s h = first-passed _ _ s ∙ test-refused _ _ _ tt (lt-leb (gaussian q n k) greatest_listing h)

  pub list-none : settings_refusal q n k ≡ 0 → gaussian q n k ≤ greatest_listing → list_refusal q n k ≡ 0
  unfolding list_refusal
  list-none s h = first-passed _ _ s ∙ test-passed _ _ _ (le-leb (gaussian q n k) greatest_listing h) ∙ first-none

  pub listable : list_refusal q n k ≡ 0 → Listable q n k
  unfolding list_refusal
  listable e =
      let s = first-zero (settings_refusal q n k) (refuse_unless (leb (gaussian q n k) greatest_listing) listing_refusal ∷ []) e in
      record {
        settings = accepted q n k s.0;
        few = leb-true (gaussian q n k) greatest_listing (test_zero (leb (gaussian q n k) greatest_listing) listing_refusal [] tt s.1).0;
      }
