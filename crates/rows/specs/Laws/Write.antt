-- Bytes written over a part of a list, one after the other; no part of the meaning.
--   part_length, part-read == how many bytes a part has, and which
--   part-rest    == a part and what follows it
--   put_same     == a part put in its own place
--   put-apart    == a byte of a part that lies apart from what is put
--   over j x y   == y, with the first j entries of x in the place of its own
--   over-length  == its length
--   over-all     == with all entries it is x
--   over-read, over-more == the next place within a longer list, read and written
-- Assumes nothing.
use Rattle.std.specs.Prelude.{◌≡◌, List, ◌∷◌, ◌++◌, ℕ, suc, ◌+◌, ◌-◌, ◌<◌, ◌≤◌, length, get_or, take, drop, set}
use Rattle.std.proofs.Common.{ap, ap₂, sym, ◌∙◌, append_assoc, append-nil, ⊎_elim, arith, length-append, length-drop, take-append-drop, drop_of_length-le, length-take-le, take_all, take-suc, drop-cons, drop-drop, get_or-take, get_or-drop, get_or-append-add}
use Rattle.std.proofs.Math.ListN.{get_or-append}
use Rattle.std.proofs.lemmas.List.{get_or_at, set_at}
use Rattle.rows.specs.Laws.Steps.{part, put, Apart}

abbrev pub over : ℕ → List ℕ → List ℕ → List ℕ
over j x y = take j x ++ drop j y

pub part_length : (n at : ℕ) (m : List ℕ) → at + n ≤ length m → length (part n at m) ≡ n
part_length n at m h = length-take-le n (drop at m) (omega (arith, length-drop at m))

pub part-read : (n at : ℕ) (m : List ℕ) (j : ℕ) → j < n → get_or (part n at m) j 0 ≡ get_or m (at + j) 0
part-read n at m j h = get_or-take n (drop at m) j 0 h ∙ get_or-drop at m j 0

pub part-rest : (n at : ℕ) (m : List ℕ) → part n at m ++ drop (at + n) m ≡ drop at m
part-rest n at m = ap (λ (x : List ℕ). part n at m ++ x) (sym (drop-drop n at m)) ∙ take-append-drop n (drop at m)

pub put_same : (n at : ℕ) (m : List ℕ) → put n at (part n at m) m ≡ m
put_same n at m = ap (λ (x : List ℕ). take at m ++ x) (part-rest n at m) ∙ take-append-drop at m

module _ (n from to : ℕ) (m w : List ℕ) (lw : length w ≡ n) (h : to + n ≤ length m) (j : ℕ) (l : j < n) where
  put_front : length (take to m) ≡ to
  put_front = length-take-le to m (omega arith)

  before : from + n ≤ to → get_or (put n to w m) (from + j) 0 ≡ get_or m (from + j) 0
  before a =
      get_or-append (take to m) (w ++ drop (to + n) m) 0 (from + j) (omega (arith, put_front))
      ∙ get_or-take to m (from + j) 0 (omega arith)

  after : to + n ≤ from → get_or (put n to w m) (from + j) 0 ≡ get_or m (from + j) 0
  after a =
      let k = from + j - (to + n) in
      let e : length (take to m) + (length w + k) ≡ from + j = omega (arith, put_front) in
      let e' : to + n + k ≡ from + j = omega arith in
      ap (λ i. get_or (put n to w m) i 0) (sym e)
      ∙ get_or-append-add (take to m) (w ++ drop (to + n) m) (length w + k) 0
      ∙ get_or-append-add w (drop (to + n) m) k 0
      ∙ get_or-drop (to + n) m k 0
      ∙ ap (λ i. get_or m i 0) e'

  pub put-apart : Apart n from to → get_or (put n to w m) (from + j) 0 ≡ get_or (part n from m) j 0
  put-apart a = ⊎_elim before after a ∙ sym (part-read n from m j l)

module _ (n : ℕ) (x y : List ℕ) (lx : length x ≡ n) (ly : length y ≡ n) where
  pub over-length : (j : ℕ) → j ≤ n → length (over j x y) ≡ n
  over-length j h = length-append (take j x) (drop j y) ∙ omega (arith, length-take-le j x (omega arith), length-drop j y)

  pub over-all : over n x y ≡ x
  over-all = ap₂ (λ (a b : List ℕ). a ++ b) (take_all n x (omega arith)) (drop_of_length-le y {i = n} (omega arith)) ∙ append-nil x

  module _ (p : ℕ) (front rest : List ℕ) (lp : length front ≡ p) (j : ℕ) (h : j < n) where
    split : front ++ (over j x y ++ rest) ≡ (front ++ take j x) ++ (get_or y j 0 ∷ (drop (suc j) y ++ rest))
    split = rw (drop-cons y j 0 (omega arith)) (simp append_assoc)

    front_length : length (front ++ take j x) ≡ p + j
    front_length = length-append front (take j x) ∙ omega (arith, length-take-le j x (omega arith))

    pub over-read : get_or (front ++ (over j x y ++ rest)) (p + j) 0 ≡ get_or y j 0
    over-read = ap (λ (l : List ℕ). get_or l (p + j) 0) split ∙ get_or_at (front ++ take j x) _ _ 0 (p + j) front_length

    pub over-more : set (front ++ (over j x y ++ rest)) (p + j) (get_or x j 0) ≡ front ++ (over (suc j) x y ++ rest)
    over-more =
        ap (λ (l : List ℕ). set l (p + j) (get_or x j 0)) split
        ∙ set_at (front ++ take j x) _ _ (get_or x j 0) (p + j) front_length
        ∙ rw (take-suc x j 0 (omega arith)) (simp append_assoc)
