-- A row that is written entry by entry as one row plus a multiple of another, with what a loop knows of its counter and of the length; no
-- part of the meaning.
--   Adding q n c to r v m₀ m j == m is m₀ with the first j entries of v plus c times r in their places from `to` on
--   each-none, each-more, each-all == before the first entry, one entry more, all entries
-- Assumes nothing.
use Rattle.std.specs.Prelude.{◌≡◌, refl, List, ℕ, ◌+◌, ◌<◌, ◌≤◌, length, set}
use Rattle.std.proofs.Common.{arith, length-set}
use Rattle.rows.specs.Laws.Adding.{adding, adding-none, adding-all, adding-more}
use Rattle.rows.specs.Laws.Steps.{put, plus_multiple, plus_multiple_at}

abbrev pub Adding : ℕ → ℕ → ℕ → ℕ → List ℕ → List ℕ → List ℕ → List ℕ → ℕ → Type 0
Adding q n c to r v m₀ m j = (j ≤ n) × (length m ≡ length m₀) × (m ≡ adding q n c to r v m₀ j)

pub each-none : (q n c to : ℕ) (r v m : List ℕ) → Adding q n c to r v m m 0
each-none q n c to r v m = (omega arith, refl, adding-none q n c to r v m)

module _ (q n c to : ℕ) (r v m₀ : List ℕ) (fits : to + n ≤ length m₀) (m : List ℕ) (j : ℕ) (a : Adding q n c to r v m₀ m j) where
  pub each-all : n ≤ j → m ≡ put n to (plus_multiple q n c r v) m₀
  each-all h = adding-all q n c to r v m₀ fits m j a.2 (omega (arith, a.0))

  pub each-more : j < n → (x : ℕ) → x ≡ plus_multiple_at q c r v j → Adding q n c to r v m₀ (set m (to + j) x) (j + 1)
  each-more inside x e = (omega arith, simp length-set a.1, adding-more q n c to r v m₀ fits m j a.2 inside x e)
