-- The rows above w cleared one after the other; no part of the meaning.
--   Clearing        == the first i rows are cleared, and all of them are above w
--   clearing-start  == before the first row
--   clearing-rest   == the rows from row i on are as they were
--   clearing-more   == one row more
--   clearing-stop, clearing-end == where the next row is not above w, or there is none, the work is done
-- Assumes nothing.
use Rattle.std.specs.Prelude.{◌≡◌, refl, drop}
use Rattle.std.proofs.Math.Path.{ap, sym, subst}
use Rattle.std.proofs.Common.{ap₂, ◌∙◌, zero-mul, zero-add, arith, lt-ltb, le-ltb, take-append-drop, length-take-le, drop-drop}
use mathlib.Core.List.{List, [], ◌∷◌, ◌++◌, append_assoc, append-nil}
use Prim.Native.Nat.{ℕ, suc, ◌+◌, ◌*◌, ◌-◌, ◌<◌, ◌≤◌}
use Rattle.std.proofs.Math.ListN.{length, take, length-append, length-drop}
use Rattle.std.proofs.Math.Seq.{take_at, drop_at}
use Rattle.basics.specs.Choice.{pick}
use Rattle.basics.specs.Laws.Flat.{row_fits}
use Rattle.linear.specs.Span.{rows_of}
use Rattle.linear.specs.Eliminate.{lead_of, eliminate, join}
use Rattle.linear.specs.Laws.FlatRows.{rows_from, rows_all, rows_next, rows_none, drop-next}
use Rattle.rows.specs.Laws.Steps.{part, put}
use Rattle.reduction.specs.Laws.Steps.{above, cleared}
use Rattle.reduction.specs.Laws.PutAmong.{eliminate-length}

module _ (q n : ℕ) (w : List ℕ) where
  cleared-above : (r : List ℕ) (rs : List (List ℕ)) → lead_of n r < lead_of n w
      → cleared q n (r ∷ rs) w ≡ eliminate q n w r ∷ cleared q n rs w
  unfolding cleared
  cleared-above r rs h = ap (λ b. pick b (eliminate q n w r ∷ cleared q n rs w) []) (lt-ltb (lead_of n r) (lead_of n w) h)

  cleared-below : (r : List ℕ) (rs : List (List ℕ)) → lead_of n w ≤ lead_of n r → cleared q n (r ∷ rs) w ≡ []
  unfolding cleared
  cleared-below r rs h = ap (λ b. pick b (eliminate q n w r ∷ cleared q n rs w) []) (le-ltb (lead_of n r) (lead_of n w) h)

  above-above : (r : List ℕ) (rs : List (List ℕ)) → lead_of n r < lead_of n w → above n (r ∷ rs) w ≡ suc (above n rs w)
  unfolding above
  above-above r rs h = ap (λ b. pick b (suc (above n rs w)) 0) (lt-ltb (lead_of n r) (lead_of n w) h)

  above-below : (r : List ℕ) (rs : List (List ℕ)) → lead_of n w ≤ lead_of n r → above n (r ∷ rs) w ≡ 0
  unfolding above
  above-below r rs h = ap (λ b. pick b (suc (above n rs w)) 0) (le-ltb (lead_of n r) (lead_of n w) h)

pub record Clearing (q n d : ℕ) (m w : List ℕ) (i : ℕ) (now : List ℕ) : Type 0 where
  pub within : i ≤ d
  pub sized : length now ≡ length m
  pub same : drop (i * n) now ≡ drop (i * n) m
  pub bytes : join (cleared q n (rows_of n d m) w) ≡ take (i * n) now ++ join (cleared q n (rows_from n d m i) w)
  pub count : above n (rows_of n d m) w ≡ i + above n (rows_from n d m i) w

module _ (q n d : ℕ) (m w : List ℕ) where
  pub clearing-start : Clearing q n d m w 0 m
  clearing-start =
      record {
        within = omega arith;
        sized = refl;
        same = refl;
        bytes = ap₂ (λ x y. take x m ++ join (cleared q n y w)) (sym (zero-mul n)) (rows_all n m d);
        count = sym (zero-add _) ∙ ap (λ x. 0 + above n x w) (rows_all n m d);
      }

  module _ (i : ℕ) (now : List ℕ) (c : Clearing q n d m w i now) where
    -- nothing is left to clear
    stopped : join (cleared q n (rows_from n d m i) w) ≡ [] → above n (rows_from n d m i) w ≡ 0
        → (i ≡ above n (rows_of n d m) w) × (now ≡ join (cleared q n (rows_of n d m) w) ++ drop (i * n) m)
    stopped e z = (
      omega (arith, c.count),
      sym (take-append-drop (i * n) now)
          ∙ ap₂ (λ x y. x ++ y) (sym (c.bytes ∙ ap (λ x. take (i * n) now ++ x) e ∙ append-nil (take (i * n) now))) c.same,
    )

    pub clearing-end : i ≡ d → (d ≡ above n (rows_of n d m) w) × (now ≡ join (cleared q n (rows_of n d m) w) ++ drop (d * n) m)
    unfolding cleared above join
    clearing-end e =
        let none : rows_from n d m i ≡ [] = rows_none n m d i e in
        let done = stopped (ap (λ x. join (cleared q n x w)) none) (ap (λ x. above n x w) none) in
        (sym e ∙ done.0, done.1 ∙ ap (λ x. join (cleared q n (rows_of n d m) w) ++ drop (x * n) m) e)

    -- what lies at row i or later is as it was
    pub clearing-rest : (k at : ℕ) → i * n ≤ at → part k at now ≡ part k at m
    clearing-rest k at l =
        let e : i * n + (at - i * n) ≡ at = omega arith in
        ap (λ x. part k x now) (sym e) ∙ ap (take k) (sym (drop-drop (at - i * n) (i * n) now))
        ∙ ap (λ x. take k (drop (at - i * n) x)) c.same
        ∙ ap (take k) (drop-drop (at - i * n) (i * n) m) ∙ ap (λ x. part k x m) e

    module _ (h : i < d) where
      next_row : rows_from n d m i ≡ take n (drop (i * n) now) ∷ rows_from n d m (suc i)
      next_row = rows_next n m d i h ∙ ap (λ x. take n x ∷ rows_from n d m (suc i)) (sym c.same)

      pub clearing-stop : lead_of n w ≤ lead_of n (part n (i * n) now)
          → (i ≡ above n (rows_of n d m) w) × (now ≡ join (cleared q n (rows_of n d m) w) ++ drop (i * n) m)
      unfolding join
      clearing-stop l =
          stopped (ap (λ x. join (cleared q n x w)) next_row ∙ ap join (cleared-below q n w _ _ l))
          (ap (λ x. above n x w) next_row ∙ above-below q n w _ _ l)

      pub clearing-more : (next : List ℕ) → d * n ≤ length m → lead_of n (part n (i * n) now) < lead_of n w
          → next ≡ put n (i * n) (eliminate q n w (part n (i * n) now)) now → Clearing q n d m w (suc i) next
      unfolding join
      clearing-more next fits l is =
          subst (Clearing q n d m w (suc i)) (sym is)
          record {
            within = h;
            sized =
                ap length (sym split) ∙ length-append done after
                ∙ omega (arith, done-length, length-drop (suc i * n) now, c.sized, row_fits i d n h);
            same = ap (drop (suc i * n)) (sym split) ∙ drop_at done after (suc i * n) done-length ∙ after_same;
            bytes =
                c.bytes ∙ ap (λ x. take (i * n) now ++ join (cleared q n x w)) next_row
                ∙ ap (λ x. take (i * n) now ++ join x) (cleared-above q n w _ _ l)
                ∙ sym (append_assoc (take (i * n) now) row rest)
                ∙ ap (λ x. x ++ rest) (sym (ap (take (suc i * n)) (sym split) ∙ take_at done after (suc i * n) done-length));
            count = c.count ∙ ap (λ x. i + above n x w) next_row ∙ ap (λ x. i + x) (above-above q n w _ _ l) ∙ omega arith;
          }
        where
          row : List ℕ
          row = eliminate q n w (part n (i * n) now)

          done : List ℕ
          done = take (i * n) now ++ row

          after : List ℕ
          after = drop (suc i * n) now

          rest : List ℕ
          rest = join (cleared q n (rows_from n d m (suc i)) w)

          size : length row ≡ n
          size = eliminate-length q n w (take n (drop (i * n) now))

          done-length : length done ≡ suc i * n
          done-length =
              length-append (take (i * n) now) row
              ∙ omega (arith, length-take-le (i * n) now (omega (arith, c.sized, row_fits i d n h)), size)

          split : done ++ after ≡ put n (i * n) row now
          split =
              let e : suc i * n ≡ i * n + n = omega arith in
              append_assoc (take (i * n) now) row after ∙ ap (λ x. take (i * n) now ++ (row ++ drop x now)) e

          after_same : after ≡ drop (suc i * n) m
          after_same = sym (drop-next n now i) ∙ ap (drop n) c.same ∙ drop-next n m i
