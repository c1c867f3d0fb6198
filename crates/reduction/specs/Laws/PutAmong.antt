-- How a row is put among rows: those above it are cleared, those below it follow; no part of the meaning.
--   put_among-split   == the rows above, cleared, then w, then the other rows
--   put_among-length  == there is one row more
--   cleared-length   == the bytes of the rows above
--   goes-within      == w goes among the rows' bytes
--   put_among-bytes   == the bytes that the three steps leave
--   eliminate-length == elimination leaves n entries
--   above-le         == there are no more of them than rows
-- Assumes nothing.
use Rattle.std.specs.Prelude.{◌≡◌, Bool, ltb, take}
use Rattle.std.proofs.Math.Path.{refl, ap, sym}
use Rattle.std.proofs.Common.{ap₂, ◌∙◌, zero-mul, mul_comm, mul-le-mul_right, take_at, drop-drop}
use Rattle.std.proofs.Math.Bool.{true, false}
use mathlib.Core.List.{List, [], ◌∷◌, ◌++◌, append_assoc}
use Prim.Native.Nat.{ℕ, suc, ◌+◌, ◌*◌, ◌-◌, ◌≤◌}
use Rattle.std.proofs.Math.Nat.{mul-sub}
use native.Mathlib.Omega.{arith}
use Rattle.std.proofs.Math.ListN.{length, drop, length-append}
use Rattle.std.proofs.Math.Seq.{drop-append-add}
use Rattle.basics.specs.Choice.{pick}
use Rattle.basics.specs.Laws.TableSize.{tabulate-length}
use Rattle.linear.specs.Span.{rows_of}
use Rattle.linear.specs.Laws.FlatMatrix.{rows-length}
use Rattle.linear.specs.Laws.FlatRows.{join-append, rows_drop, join-taken}
use Rattle.linear.specs.Eliminate.{lead_of, eliminate, put_among, join}
use Rattle.rows.specs.Laws.Steps.{part, raised}
use Rattle.reduction.specs.Laws.Steps.{above, cleared}

pub eliminate-length : (q n : ℕ) (r v : List ℕ) → length (eliminate q n r v) ≡ n
unfolding eliminate
eliminate-length q n r v = tabulate-length _ 0 n

module _ (q n : ℕ) (w : List ℕ) where
  pub put_among-split : (rs : List (List ℕ)) → put_among q n rs w ≡ cleared q n rs w ++ (w ∷ drop (above n rs w) rs)
  unfolding put_among cleared above
  put_among-split [] = refl
  put_among-split (r ∷ rs) = cases (ltb (lead_of n r) (lead_of n w)) (put_among-split rs)
    where
      cases : (b : Bool) → put_among q n rs w ≡ cleared q n rs w ++ (w ∷ drop (above n rs w) rs)
          → pick b (eliminate q n w r ∷ put_among q n rs w) (w ∷ r ∷ rs)
          ≡ pick b (eliminate q n w r ∷ cleared q n rs w) [] ++ (w ∷ drop (pick b (suc (above n rs w)) 0) (r ∷ rs))
      cases true e = ap (λ (x : List (List ℕ)). eliminate q n w r ∷ x) e
      cases false e = refl

  pub put_among-length : (rs : List (List ℕ)) → length (put_among q n rs w) ≡ suc (length rs)
  unfolding put_among
  put_among-length [] = refl
  put_among-length (r ∷ rs) = cases (ltb (lead_of n r) (lead_of n w)) (put_among-length rs)
    where
      cases : (b : Bool) → length (put_among q n rs w) ≡ suc (length rs)
          → length (pick b (eliminate q n w r ∷ put_among q n rs w) (w ∷ r ∷ rs)) ≡ suc (suc (length rs))
      cases true e = ap suc e
      cases false e = refl

  pub above-le : (rs : List (List ℕ)) → above n rs w ≤ length rs
  unfolding above
  above-le [] = omega arith
  above-le (r ∷ rs) = cases (ltb (lead_of n r) (lead_of n w)) (above-le rs)
    where
      cases : (b : Bool) → above n rs w ≤ length rs → pick b (suc (above n rs w)) 0 ≤ suc (length rs)
      cases true h = omega arith
      cases false h = omega arith

  pub cleared-length : (rs : List (List ℕ)) → length (join (cleared q n rs w)) ≡ above n rs w * n
  unfolding cleared above join
  cleared-length [] = sym (zero-mul n)
  cleared-length (r ∷ rs) = cases (ltb (lead_of n r) (lead_of n w)) (cleared-length rs)
    where
      cases : (b : Bool) → length (join (cleared q n rs w)) ≡ above n rs w * n
          → length (join (pick b (eliminate q n w r ∷ cleared q n rs w) [])) ≡ pick b (suc (above n rs w)) 0 * n
      cases true e = length-append (eliminate q n w r) (join (cleared q n rs w)) ∙ omega (arith, eliminate-length q n w r)
      cases false e = sym (zero-mul n)

module _ (q n d : ℕ) (m : List ℕ) where
  -- row d
  abbrev w : List ℕ
  w = part n (d * n) m

  abbrev rows : List (List ℕ)
  rows = rows_of n d m

  -- where w goes
  abbrev goes : ℕ
  goes = above n rows w * n

  pub goes-within : goes ≤ d * n
  goes-within = mul-le-mul_right n (omega (arith, above-le q n w rows, rows-length n d m))

  less : (d - above n rows w) * n ≡ d * n - goes
  less = mul_comm (d - above n rows w) n ∙ mul-sub n d (above n rows w) ∙ ap₂ (λ x y. x - y) (mul_comm n d) (mul_comm n (above n rows w))

  rest-bytes : join (drop (above n rows w) rows) ≡ take (d * n - goes) (drop goes m)
  rest-bytes =
      ap join (rows_drop n m d (above n rows w)) ∙ join-taken n (drop goes m) (d - above n rows w)
      ∙ ap (λ x. take x (drop goes m)) less

  joined_bytes : join (put_among q n rows w) ≡ join (cleared q n rows w) ++ (w ++ take (d * n - goes) (drop goes m))
  unfolding join
  joined_bytes =
      ap join (put_among-split q n w rows) ∙ join-append (cleared q n rows w) (w ∷ drop (above n rows w) rows)
      ∙ ap (λ x. join (cleared q n rows w) ++ (w ++ x)) rest-bytes

  pub put_among-bytes : raised n (d * n) goes (join (cleared q n rows w) ++ drop goes m) ≡ join (put_among q n rows w) ++ drop (d * n + n) m
  put_among-bytes =
      ap₂ (λ x y. x ++ (take n y ++ (part (d * n - goes) goes cut ++ drop (d * n + n) cut))) before (cut-after (d * n) goes-within)
      ∙ ap₂ (λ x y. front ++ (w ++ (take (d * n - goes) x ++ y))) (cut-after goes (omega arith))
      (cut-after (d * n + n) (omega (arith, goes-within)))
      ∙ sym
      (ap (λ x. x ++ drop (d * n + n) m) joined_bytes
      ∙ append_assoc front (w ++ middle) (drop (d * n + n) m)
      ∙ ap (λ x. front ++ x) (append_assoc w middle (drop (d * n + n) m)))
    where
      front : List ℕ
      front = join (cleared q n rows w)

      middle : List ℕ
      middle = take (d * n - goes) (drop goes m)

      cut : List ℕ
      cut = front ++ drop goes m

      before : take goes cut ≡ front
      before = take_at front (drop goes m) goes (cleared-length q n w rows)

      -- from there on the bytes are m's
      cut-after : (k : ℕ) → goes ≤ k → drop k cut ≡ drop k m
      cut-after k l =
          let e : length front + (k - goes) ≡ k = omega (arith, cleared-length q n w rows) in
          let e' : goes + (k - goes) ≡ k = omega arith in
          ap (λ x. drop x cut) (sym e) ∙ drop-append-add front (drop goes m) (k - goes)
          ∙ drop-drop (k - goes) goes m ∙ ap (λ x. drop x m) e'
