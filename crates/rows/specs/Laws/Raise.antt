-- Two rows exchanged byte by byte, and a row raised by such exchanges; no part of the meaning.
--   exchanged n at m j k == m with the first j bytes of its row at `at` taken from the next row, and the first k of that from it
--   exchanged-none, exchanged-more, exchanged-all == before the first byte, one byte more, all bytes
--   swapped_rows         == rows that are exchanged in a list that is given by its parts
--   raised-none, raised-more == a row that stays where it is, and one that moves up by one row more
-- Assumes nothing.
use Rattle.std.specs.Prelude.{◌≡◌, ℕ, suc, ◌+◌, ◌*◌, ◌-◌, ◌<◌, ◌≤◌, length, get_or, take, drop, set}
use Rattle.std.proofs.Common.{ap, sym, ◌∙◌, mul-le-mul_right, arith, length-take-le, drop-drop, take-add}
use Rattle.std.proofs.Math.Path.{ap₂}
use mathlib.Core.List.{List, ◌++◌, append_assoc}
use Rattle.std.proofs.Math.ListN.{length-append}
use Rattle.std.proofs.Math.Seq.{take_at, drop_at}
use Rattle.rows.specs.Laws.Steps.{part, swapped, raised}
use Rattle.rows.specs.Laws.Write.{over, part_length, part-rest, put_same, over-length, over-all, over-read, over-more}

abbrev pub exchanged : ℕ → ℕ → List ℕ → ℕ → ℕ → List ℕ
exchanged n at m j k =
    take at m ++ (over j (part n (at + n) m) (part n at m) ++ (over k (part n at m) (part n (at + n) m) ++ drop (at + n + n) m))

module _ (n at : ℕ) (m : List ℕ) where
  pub exchanged-none : m ≡ exchanged n at m 0 0
  exchanged-none =
      sym (ap (λ (x : List ℕ). take at m ++ (part n at m ++ x)) (part-rest n (at + n) m) ∙ put_same n at m)

  module _ (h : at + n + n ≤ length m) where
    upper : length (part n at m) ≡ n
    upper = part_length n at m (omega arith)

    lower : length (part n (at + n) m) ≡ n
    lower = part_length n (at + n) m h

    front : length (take at m) ≡ at
    front = length-take-le at m (omega arith)

    pub exchanged-all : exchanged n at m n n ≡ swapped n at m
    exchanged-all =
        ap₂ (λ (x y : List ℕ). take at m ++ (x ++ (y ++ drop (at + n + n) m))) (over-all n _ _ lower upper) (over-all n _ _ upper lower)

    module _ (j : ℕ) (l : j < n) where
      first : (k : ℕ) → List ℕ
      first k = take at m ++ over k (part n (at + n) m) (part n at m)

      first-length : (k : ℕ) → k ≤ n → length (first k) ≡ at + n
      unfolding first
      first-length k g =
          length-append (take at m) (over k (part n (at + n) m) (part n at m))
          ∙ ap₂ (λ a b. a + b) front (over-length n _ _ lower upper k g)

      parted : (k i : ℕ) → exchanged n at m k i ≡ first k ++ (over i (part n at m) (part n (at + n) m) ++ drop (at + n + n) m)
      unfolding first
      parted k i = simp append_assoc

      read_upper : get_or (exchanged n at m j j) (at + j) 0 ≡ get_or (part n at m) j 0
      read_upper = over-read n _ _ lower upper at (take at m) _ front j l

      read_lower : get_or (exchanged n at m j j) (at + n + j) 0 ≡ get_or (part n (at + n) m) j 0
      read_lower =
          ap (λ (x : List ℕ). get_or x (at + n + j) 0) (parted j j)
          ∙ over-read n _ _ upper lower (at + n) (first j) _ (first-length j (omega arith)) j l

      write-upper : set (exchanged n at m j j) (at + j) (get_or (part n (at + n) m) j 0) ≡ exchanged n at m (suc j) j
      write-upper = over-more n _ _ lower upper at (take at m) _ front j l

      write-lower : set (exchanged n at m (suc j) j) (at + n + j) (get_or (part n at m) j 0) ≡ exchanged n at m (suc j) (suc j)
      write-lower =
          ap (λ (x : List ℕ). set x (at + n + j) (get_or (part n at m) j 0)) (parted (suc j) j)
          ∙ over-more n _ _ upper lower (at + n) (first (suc j)) _ (first-length (suc j) l) j l
          ∙ sym (parted (suc j) (suc j))

      pub exchanged-more : set (set (exchanged n at m j j) (at + j) (get_or (exchanged n at m j j) (at + n + j) 0)) (at + n + j)
          (get_or (exchanged n at m j j) (at + j) 0)
          ≡ exchanged n at m (suc j) (suc j)
      exchanged-more =
          ap₂ (λ x y. set (set (exchanged n at m j j) (at + j) x) (at + n + j) y) read_lower read_upper
          ∙ ap (λ (x : List ℕ). set x (at + n + j) (get_or (part n at m) j 0)) write-upper
          ∙ write-lower

module _ (n z : ℕ) (a b c d : List ℕ) (la : length a ≡ z) (lb : length b ≡ n) (lc : length c ≡ n) where
  rows : List ℕ
  rows = a ++ (b ++ (c ++ d))

  after_one : drop z rows ≡ b ++ (c ++ d)
  unfolding rows
  after_one = drop_at a (b ++ (c ++ d)) z la

  after_two : drop (z + n) rows ≡ c ++ d
  after_two = sym (drop-drop n z rows) ∙ ap (drop n) after_one ∙ drop_at b (c ++ d) n lb

  after-three : drop (z + n + n) rows ≡ d
  after-three = sym (drop-drop n (z + n) rows) ∙ ap (drop n) after_two ∙ drop_at c d n lc

  pub swapped_rows : swapped n z (a ++ (b ++ (c ++ d))) ≡ a ++ (c ++ (b ++ d))
  unfolding rows
  swapped_rows =
      ap₂ (λ (x y : List ℕ). x ++ (part n (z + n) rows ++ (part n z rows ++ y))) (take_at a (b ++ (c ++ d)) z la) after-three
      ∙ ap₂ (λ (x y : List ℕ). a ++ (x ++ (y ++ d))) (ap (take n) after_two ∙ take_at c d n lc)
      (ap (take n) after_one ∙ take_at b (c ++ d) n lb)

module _ (n : ℕ) (m : List ℕ) where
  pub raised-none : (x : ℕ) → m ≡ raised n x x m
  raised-none x =
      let z : x - x ≡ 0 = omega arith in
      sym (ap (λ k. take x m ++ (part n x m ++ (part k x m ++ drop (x + n) m))) z ∙ put_same n x m)

  raised_by : (x z : ℕ) → z + n ≤ x → x + n ≤ length m → swapped n z (raised n x (z + n) m) ≡ raised n x z m
  raised_by x z h g =
      ap (swapped n z) parts
      ∙ swapped_rows n z (take z m) (part n z m) (part n x m) (between ++ rest) (length-take-le z m (omega arith))
      (part_length n z m (omega arith)) (part_length n x m g)
      ∙ ap (λ (l : List ℕ). take z m ++ (part n x m ++ l)) joined
    where
      between : List ℕ
      between = part (x - (z + n)) (z + n) m

      rest : List ℕ
      rest = drop (x + n) m

      parts : raised n x (z + n) m ≡ take z m ++ (part n z m ++ (part n x m ++ (between ++ rest)))
      parts =
          ap (λ (l : List ℕ). l ++ (part n x m ++ (between ++ rest))) (take-add z n m)
          ∙ append_assoc (take z m) (part n z m) (part n x m ++ (between ++ rest))

      joined : part n z m ++ (between ++ rest) ≡ part (x - z) z m ++ rest
      joined =
          let e : x - z ≡ n + (x - (z + n)) = omega arith in
          sym (append_assoc (part n z m) between rest)
          ∙ ap (λ (l : List ℕ). l ++ rest)
          (ap (λ (l : List ℕ). part n z m ++ take (x - (z + n)) l) (sym (drop-drop n z m))
          ∙ sym (take-add n (x - (z + n)) (drop z m)) ∙ ap (λ k. part k z m) (sym e))

  pub raised-more : (d i k : ℕ) → suc k ≡ i → i ≤ d → d * n + n ≤ length m → (now : List ℕ) → now ≡ raised n (d * n) (i * n) m
      → swapped n (k * n) now ≡ raised n (d * n) (k * n) m
  raised-more d i k s h g now is =
      let e : i * n ≡ k * n + n = omega (arith, ap (λ y. y * n) s) in
      let l : i * n ≤ d * n = mul-le-mul_right {m = i} {n = d} n h in
      ap (swapped n (k * n)) (is ∙ ap (λ y. raised n (d * n) y m) e) ∙ raised_by (d * n) (k * n) (omega arith) g
