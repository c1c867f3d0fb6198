-- Demand 3, for all settings and numberings that are accepted: the theorem. Its statement is `Demand`.
--   demand-of  == the listing, recovery from every list of calls, and reception, of any way of drawing that gives the matrix with the index
--   demand-3   == so of Draw
-- Assumes nothing.
use Rattle.std.specs.Prelude.{◌≡◌, true, List, ℕ, ◌≤◌, ◌<◌, length}
use Rattle.std.proofs.Common.{ap, sym, ◌∙◌, subst, subst₂, lt_trans}
use Rattle.counts.specs.Gaussian.{gaussian}
use Rattle.matrix.specs.Matrix.{Reduced}
use Rattle.linear.specs.Span.{All, Mixed, rows_of}
use Rattle.numbering.specs.Numbering.{is_numbering, numbering_of, index_of, drawn}
use Rattle.numbering.specs.Laws.Either.{Orderly, either}
use Rattle.drawing.specs.Drawing.{Drawing, drawing}
use Rattle.drawing.specs.Laws.Draws.{Draws, draws}
use Rattle.reduce.specs.Reduce.{most_rows}
use Rattle.receiver.specs.Receiver.{Setup, setup_refusal}
use Rattle.promise_recovery.specs.Calls.{Call, begun, accepted}
use Rattle.promise_recovery.specs.Demand.{Buffer, Listing, Recovery, Reception, Demand}
use Rattle.promise_recovery.proofs.Laws.After.{accepted-fits, unforged}
use Rattle.promise_recovery.proofs.Laws.RecoverRows.{recovered, received}

module _ (s : Setup) (t : ℕ) (settings : setup_refusal s ≡ 0) (known : is_numbering t ≡ true) (D : Drawing)
    (given : Draws s.q s.n s.k t D) where
  abbrev q : ℕ
  q = s.q

  abbrev n : ℕ
  n = s.n

  abbrev k : ℕ
  k = s.k

  below : {i : ℕ} → i < D.count → i < gaussian q n k
  below {i} h = subst (λ x. i < x) given.counted h

  leaves : (i : ℕ) → i < D.count → (b : List ℕ) → Buffer n k b → drawn q n k t i ≡ D.leaves i b
  leaves i h b l = given.given i (below h) b l

  orderly : Orderly (numbering_of t) q n k
  orderly = either q n k t settings

  listing : Listing q n k D
  listing =
      record {
        unrefused = λ i h b l. given.done i (below h) b l;
        reduced = λ i h b l. subst (Reduced q n k) (leaves i h b l) (orderly.drawn-reduced i (below h));
        every =
            λ m R.
            let inside = subst (λ x. index_of q n k t m < x) (sym given.counted) (orderly.index_below m R) in (
              index_of q n k t m,
              inside,
              λ b l. sym (leaves (index_of q n k t m) inside b l) ∙ orderly.drawn-of-index m R,
            );
        once =
            λ i j h g a b l r e.
            sym (orderly.index-of-drawn i (below h))
            ∙ ap (index_of q n k t) (leaves i h a l ∙ e ∙ sym (leaves j g b r))
            ∙ orderly.index-of-drawn j (below g);
        rising =
            λ i j h g a b l r.
            subst₂ D.order (leaves i (lt_trans h g) a l) (leaves j g b r)
            (given.ordered _ _ (orderly.drawn-rising i j h (below g)));
      }

  recovery : (i : ℕ) → i < D.count → (b : List ℕ) → Buffer n k b → (cs : List Call)
      → All (Mixed q n (rows_of n k (D.leaves i b))) (accepted (begun s) cs)
      → Recovery s t i cs
  recovery i h b l cs =
      subst (λ m. All (Mixed q n (rows_of n k m)) (accepted (begun s) cs) → Recovery s t i cs) (leaves i h b l)
      (λ mixed.
      subst (λ x. Recovery s t x cs) (orderly.index-of-drawn i (below h))
      (recovered s t settings known (drawn q n k t i) (orderly.drawn-reduced i (below h)) cs mixed))

  reception : (i : ℕ) → i < D.count → (b : List ℕ) → Buffer n k b → (rows : List (List ℕ)) → length rows ≤ most_rows
      → All (Mixed q n (rows_of n k (D.leaves i b))) rows
      → Reception q n k t i rows
  reception i h b l rows few =
      subst (λ m. All (Mixed q n (rows_of n k m)) rows → Reception q n k t i rows) (leaves i h b l)
      (λ mixed.
      subst (λ x. Reception q n k t x rows) (orderly.index-of-drawn i (below h))
      (received q n k t settings known (drawn q n k t i) (orderly.drawn-reduced i (below h)) rows few mixed))

  pub demand-of : Demand s t D
  demand-of =
      record {
        listing = listing;
        unforged = unforged s settings;
        fits = accepted-fits s settings;
        recovery = recovery;
        reception = reception;
      }

pub demand-3 : (s : Setup) (t : ℕ) → setup_refusal s ≡ 0 → is_numbering t ≡ true → Demand s t (drawing s.q s.n s.k t)
demand-3 s t settings known = demand-of s t settings known (drawing s.q s.n s.k t) (draws s.q s.n s.k t settings known)
