-- A row that is written entry by entry as one row plus a multiple of another; no part of the meaning.
--   adding q n c to r v m j == m with the first j entries of v plus c times r in their places from `to` on
--   adding-none, adding-all == before the first entry, all entries
--   adding-to, adding-from  == the next entry of the place, and of a row that lies apart from it or is it, are m's own
--   adding-front            == so is the next entry of m's first row
--   adding-more             == that entry of the sum written: one entry more
-- Assumes nothing.
use Rattle.std.specs.Prelude.{◌≡◌, List, ◌⊎◌, ℕ, ◌+◌, ◌<◌, ◌≤◌, length, get_or, set}
use Rattle.std.proofs.Common.{ap, ap₂, sym, ◌∙◌, ⊎_elim, inl, zero-add, add-one, arith}
use Rattle.rows.specs.Laws.AddScaled.{entered, entered-none, entered-to, entered-apart, entered-more, entered_all, sum-length}
use Rattle.rows.specs.Laws.AddScaled.{sum-at}
use Rattle.rows.specs.Laws.Steps.{part, put, Apart, plus_multiple, plus_multiple_at}

abbrev pub adding : ℕ → ℕ → ℕ → ℕ → List ℕ → List ℕ → List ℕ → ℕ → List ℕ
adding q n c to r v m j = entered n to (plus_multiple q n c r v) m j

pub adding-none : (q n c to : ℕ) (r v m : List ℕ) → m ≡ adding q n c to r v m 0
adding-none q n c to r v m = entered-none n to (plus_multiple q n c r v) m

module _ (q n c to : ℕ) (r v m₀ : List ℕ) (fits : to + n ≤ length m₀) (m : List ℕ) (j : ℕ) (is : m ≡ adding q n c to r v m₀ j) where
  pub adding-all : j ≡ n → m ≡ put n to (plus_multiple q n c r v) m₀
  adding-all e = is ∙ ap (adding q n c to r v m₀) e ∙ entered_all n to (plus_multiple q n c r v) m₀ (sum-length q n c r v) fits

  module _ (inside : j < n) where
    pub adding-to : get_or m (to + j) 0 ≡ get_or (part n to m₀) j 0
    adding-to =
        ap (λ x. get_or x (to + j) 0) is ∙ entered-to n to (plus_multiple q n c r v) m₀ (sum-length q n c r v) fits j inside

    pub adding-from : (from : ℕ) → Apart n from to ⊎ (from ≡ to) → get_or m (from + j) 0 ≡ get_or (part n from m₀) j 0
    adding-from from =
        ⊎_elim
        (λ apart.
        ap (λ x. get_or x (from + j) 0) is
        ∙ entered-apart n to (plus_multiple q n c r v) m₀ (sum-length q n c r v) fits j inside from apart)
        (λ same. ap (λ x. get_or m (x + j) 0) same ∙ adding-to ∙ ap (λ x. get_or (part n x m₀) j 0) (sym same))

    pub adding-front : n ≤ to → get_or m j 0 ≡ get_or (part n 0 m₀) j 0
    adding-front h = ap (λ i. get_or m i 0) (sym (zero-add j)) ∙ adding-from 0 (inl (inl (omega arith)))

    pub adding-more : (x : ℕ) → x ≡ plus_multiple_at q c r v j → set m (to + j) x ≡ adding q n c to r v m₀ (j + 1)
    adding-more x e =
        ap₂ (λ y z. set y (to + j) z) is (e ∙ sum-at q n c r v j inside)
        ∙ entered-more n to (plus_multiple q n c r v) m₀ (sum-length q n c r v) fits j inside
        ∙ ap (adding q n c to r v m₀) (sym (add-one j))
