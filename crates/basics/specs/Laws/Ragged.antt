-- A table whose rows have lengths of their own, laid out one after the other.
--   ragged r i m   == the rows r i, r (i+1), .. , as many as m says, one after the other
--   ragged-at      == entry j of row t stands after the rows before it
-- Assumes nothing.
use Rattle.std.specs.Prelude.{◌≡◌, List, [], ◌++◌, ℕ, zero, suc, ◌+◌, ◌<◌, length, get_or}
use Rattle.std.proofs.Common.{ap, ap₂, ◌∙◌, sym, add-zero, zero-add, add-suc, suc-add, add_assoc, le_of_suc-le-suc, not-suc-le-zero, zero-lt-suc, arith, get_or-append-add}
use Rattle.std.proofs.Math.ListN.{get_or-append}
use Rattle.basics.specs.Sum.{sum}
use Rattle.basics.specs.Laws.SumLaws.{sum-front, sum_same}

unfoldable pub ragged : (ℕ → List ℕ) → ℕ → ℕ → List ℕ
ragged r i zero = []
ragged r i (suc m) = r i ++ ragged r (suc i) m

-- the first row's length, and the other rows'
sizes-front : (size : ℕ → ℕ) (i t : ℕ) → sum (suc t) (λ s. size (i + s)) ≡ size i + sum t (λ s. size (suc i + s))
sizes-front size i t =
    sum-front t (λ s. size (i + s))
    ∙ ap₂ (λ a b. a + b) (ap size (add-zero i))
    (sum_same t (λ s. size (i + suc s)) (λ s. size (suc i + s)) (λ s h. ap size (rw (suc-add, add-suc))))

ragged-from : (r : ℕ → List ℕ) (size : ℕ → ℕ) (i m t j : ℕ) → ((s : ℕ) → s < m → length (r (i + s)) ≡ size (i + s)) → t < m
    → j < size (i + t)
    → get_or (ragged r i m) (sum t (λ s. size (i + s)) + j) 0 ≡ get_or (r (i + t)) j 0
unfolding ragged sum
ragged-from r size i zero t j sized h l = absurd (not-suc-le-zero h)
ragged-from r size i (suc m) zero j sized h l =
    let here : j < length (r i) = rw (ap (λ a. length (r a)) (sym (add-zero i)) ∙ sized 0 (zero-lt-suc m)) l in
    rw (zero-add, add-zero) (get_or-append (r i) (ragged r (suc i) m) 0 j here)
ragged-from r size i (suc m) (suc t) j sized h l =
    let next : suc i + t ≡ i + suc t = rw (suc-add, add-suc) in
    let inner : j < size (suc i + t) = rw next l in
    let first : length (r i) ≡ size i = ap (λ a. length (r a)) (sym (add-zero i)) ∙ sized 0 (zero-lt-suc m) ∙ ap size (add-zero i) in
    let front : sum (suc t) (λ s. size (i + s)) + j ≡ length (r i) + (sum t (λ s. size (suc i + s)) + j) =
    ap (λ a. a + j) (sizes-front size i t) ∙ add_assoc (size i) (sum t (λ s. size (suc i + s))) j
    ∙ ap (λ a. a + (sum t (λ s. size (suc i + s)) + j)) (sym first)
    in
    ap (λ p. get_or (r i ++ ragged r (suc i) m) p 0) front
    ∙ get_or-append-add (r i) (ragged r (suc i) m) (sum t (λ s. size (suc i + s)) + j) 0
    ∙ ragged-from r size (suc i) m t j (λ s g. rows-after s g) (le_of_suc-le-suc h) inner
    ∙ ap (λ a. get_or (r a) j 0) next
  where
    rows-after : (s : ℕ) → s < m → length (r (suc i + s)) ≡ size (suc i + s)
    rows-after s g = let e : suc i + s ≡ i + suc s = rw (suc-add, add-suc) in rw e (sized (suc s) (omega arith))

pub ragged-at : (r : ℕ → List ℕ) (size : ℕ → ℕ) (m t j : ℕ) → ((s : ℕ) → s < m → length (r s) ≡ size s) → t < m → j < size t
    → get_or (ragged r 0 m) (sum t size + j) 0 ≡ get_or (r t) j 0
ragged-at r size m t j sized h l =
    ap (λ a. get_or (ragged r 0 m) (a + j) 0) (sum_same t size (λ s. size (0 + s)) (λ s g. ap size (sym (zero-add s))))
    ∙ ragged-from r size 0 m t j (λ s g. rw zero-add (sized s g)) h (rw zero-add l)
    ∙ ap (λ a. get_or (r a) j 0) (zero-add t)
