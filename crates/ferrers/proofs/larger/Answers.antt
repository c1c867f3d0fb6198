-- `ferrers::larger`: the items are the counts of the sizes from m + 1 on, and their sum stays below the settings' count.
use Rattle.std.proofs.Common.{rules, ◌≡◌, ℕ, suc, List, [], ◌∷◌, ◌+◌, ◌*◌, ◌-◌, ◌<◌, ◌≤◌, length, get_or, ap, sym, ◌∙◌, add-zero, arith}
use Rattle.std.proofs.iter.runs.Sources.{ranges}
use Rattle.std.specs.List.{fold}
use Rattle.basics.specs.Sum.{sum, sum_range}
use Rattle.basics.specs.Laws.SumLaws.{sum-front}
use Rattle.basics.specs.Laws.SumMore.{sum-le}
use Rattle.counts.specs.Gaussian.{greatest_count}
use Rattle.settings.specs.Laws.Accepted.{Accepted}
use Rattle.partitions.specs.Laws.GaussianPartitions.{weight}
use Rattle.ferrers.specs.Ferrers.{larger_diagrams}
use Rattle.ferrers.specs.Laws.Formula.{larger-formula}
use Rattle.ferrers.specs.Laws.Weight.{sizes}
use Rattle.ferrers.proofs.larger.Goals as goal

-- a list added up from the left
added : (f : ℕ → ℕ) (b : ℕ) (xs : List ℕ) → ((i : ℕ) → i < length xs → get_or xs i 0 ≡ f i) → fold (λ s x. s + x) b xs ≡ b + sum (length xs) f
unfolding sum
added f b [] h = sym (add-zero b)
added f b (x ∷ xs) h =
    let first : x ≡ f 0 = h 0 (omega arith) in
    added (λ i. f (suc i)) (b + x) xs (λ i l. h (suc i) (omega arith)) ∙ omega (arith, sum-front (length xs) f, first)

module _ {q n k m : ℕ} (a : Accepted q n k) (h : m ≤ k * (n - k)) (xs : List ℕ)
    (each : (i : ℕ) → i < length xs → get_or xs i 0 ≡ weight q n k (suc m + i)) where
  sized : length xs ≤ k * (n - k) - m → fold (λ s x. s + x) 0 xs ≤ greatest_count
  unfolding sum_range
  sized few =
      omega (
        arith,
        added (λ i. weight q n k (suc m + i)) 0 xs each,
        sum-le (length xs) (suc (k * (n - k)) - suc m) (λ i. weight q n k (suc m + i)) (omega arith),
        (sizes m a h).larger,
      )

  whole : length xs ≡ k * (n - k) - m → fold (λ s x. s + x) 0 xs ≡ larger_diagrams q k (n - k) m
  unfolding sum_range
  whole all =
      let e : length xs ≡ suc (k * (n - k)) - suc m = omega arith in
      let t : fold (λ s x. s + x) 0 xs ≡ sum (length xs) (λ i. weight q n k (suc m + i)) = omega (arith, added (λ i. weight q n k (suc m + i)) 0 xs each) in
      t ∙ ap (λ j. sum j (λ i. weight q n k (suc m + i))) e ∙ sym (larger-formula q n k m a.dimension)

pub sum-requires-clause-fits : goal.sum-requires-clause-fits
sum-requires-clause-fits c = λ p seen from.
    let few : length p.items ≤ c.args.k * (c.args.n - c.args.k) - c.args.m = search (rules, ranges) in
    let each : (i : ℕ) → i < length p.items → get_or p.items i 0 ≡ weight c.args.q c.args.n c.args.k (suc c.args.m + i) = λ i l. search (rules, ranges) in
    omega (arith, sized c.requires.0 c.requires.1 p.items each few)

pub returns : goal.returns
returns c =
    let (p, from, all, gives) = c.sum.ensures.runs tt in
    let many : length p.items ≡ c.args.k * (c.args.n - c.args.k) - c.args.m = search (rules, ranges) in
    let each : (i : ℕ) → i < length p.items → get_or p.items i 0 ≡ weight c.args.q c.args.n c.args.k (suc c.args.m + i) = λ i l. search (rules, ranges) in
    gives ∙ whole c.requires.0 c.requires.1 p.items each many
