-- Against emptiness of demand 3: the drawn rows themselves always give the index back. No part of the meaning.
--   drawn-rows-recovered == a list of calls that offers each drawn row at least once for the receiver's pack, in any order and by either
--                           Take, and beside these only rows that are refused, and closes: closing after it gives the index, and the
--                           matrix's own vector
--   take_all os           == what is offered, taken by value, one after the other
--   drawn-rows-taken     == so taking the drawn rows from the top and closing gives the index
--   drawn-bytes-received == and so does Receive of the drawn bytes
-- Assumes nothing.
use Rattle.std.specs.Prelude.{◌≡◌, refl, Bool, true, false, List, [], ◌∷◌, ◌⊎◌, ℕ, ◌≤◌, ◌<◌, Ok}
use Rattle.std.proofs.Common.{ap, sym, ◌∙◌, subst, inl, inr, arith}
use Rattle.std.proofs.Math.Path.{ap₂}
use Rattle.std.proofs.Math.Logic.Iff
use Rattle.std.proofs.Math.ListN.{length}
use Rattle.basics.specs.Choice.{pick}
use Rattle.field.specs.FieldLaws.{Laws}
use Rattle.counts.specs.Gaussian.{gaussian}
use Rattle.settings.specs.Settings.{settings_refusal}
use Rattle.settings.specs.Laws.Accepted.{accepted as settings-accepted}
use Rattle.matrix.specs.Matrix.{Reduced}
use Rattle.linear.specs.Span.{All, none, more, Among, first, later, Row, InSpan, SameSpan, rows_of, HasVector}
use Rattle.linear.specs.Laws.Every.{all_map, all_both, all_among, each-among}
use Rattle.linear.specs.Laws.Mixture.{span-each, span_same, mixed-in-span}
use Rattle.linear.specs.Laws.FlatMatrix.{rows-length, join-rows}
use Rattle.linear.specs.Laws.ReducedRows.{reduced-rows}
use Rattle.numbering.specs.Numbering.{is_numbering, index_in}
use Rattle.drawing.specs.Drawing.{drawing}
use Rattle.reduce.specs.Reduce.{space_of}
use Rattle.receive.specs.Receive.{receive_of}
use Rattle.receiver.specs.Receiver.{Setup, Offer, setup, offer, close_of}
use Rattle.receiver.specs.Laws.Held.{settings-laws}
use Rattle.promise_recovery.specs.Calls.{Call, begun, take_value, after, accepted, offers, offered, fits, fitting}
use Rattle.promise_recovery.specs.Demand.{Buffer}
use Rattle.promise_recovery.proofs.Laws.FittingRows.{fits-own, fits-row, own-fits}
use Rattle.promise_recovery.proofs.Laws.After.{accepted-fits, accepted-rows}
use Rattle.promise_recovery.proofs.Theorem.{demand-3}

-- a row that is offered and fits stands among the fitting ones
among-fitting : (s : Setup) {o : Offer} → o.pack ≡ s.pack → Row s.q s.n o.row → {os : List Offer} → Among o os
    → Among o.row (fitting s os)
unfolding fitting
among-fitting s {o} own h (first {xs = os}) =
    subst (λ b. Among o.row (pick b (o.row ∷ fitting s os) (fitting s os))) (sym (own-fits s o own h)) first
among-fitting s {o} own h (later {y = other} {xs = os} a) = cases (fits s other) (among-fitting s own h a)
  where
    cases : (b : Bool) → Among o.row (fitting s os) → Among o.row (pick b (other.row ∷ fitting s os) (fitting s os))
    cases true a = later a
    cases false a = a

-- what is offered has the property, or is no row of this pack: then the fitting rows have it
fitting-all : (s : Setup) {P : List ℕ → Type 0} {os : List Offer}
    → All (λ o. P o.row ⊎ ((o.pack ≡ s.pack) × Row s.q s.n o.row → ⊥)) os
    → All P (fitting s os)
unfolding fitting
fitting-all s none = none
fitting-all s {P} (more {x = o} {xs = os} h hs) = cases (fits s o) refl h (fitting-all s hs)
  where
    cases : (b : Bool) → fits s o ≡ b → P o.row ⊎ ((o.pack ≡ s.pack) × Row s.q s.n o.row → ⊥) → All P (fitting s os)
        → All P (pick b (o.row ∷ fitting s os) (fitting s os))
    cases true e (inl p) ps = more p ps
    cases true e (inr outside) ps = absurd (outside (fits-own s o e, fits-row s o e))
    cases false e h ps = ps

pub all-offers : (pack : ℕ) {P : Offer → Type 0} {rows : List (List ℕ)} → All (λ row. P (offer pack row)) rows → All P (offers pack rows)
all-offers pack none = none
all-offers pack (more p ps) = more p (all-offers pack ps)

pub among-offers : (pack : ℕ) {row : List ℕ} {rows : List (List ℕ)} → Among row rows → Among (offer pack row) (offers pack rows)
among-offers pack first = first
among-offers pack (later a) = later (among-offers pack a)

abbrev pub take_all : List Offer → List Call
take_all [] = []
take_all (o ∷ os) = take_value o ∷ take_all os

-- these calls offer just that
pub offered-all : (os : List Offer) → offered (take_all os) ≡ os
unfolding offered
offered-all [] = refl
offered-all (o ∷ os) = ap (λ (x : List Offer). o ∷ x) (offered-all os)

module _ (q n k t : ℕ) (settings : settings_refusal q n k ≡ 0) (known : is_numbering t ≡ true) (i : ℕ) (h : i < gaussian q n k)
    (b : List ℕ) (sized : Buffer n k b) where
  law : Laws q
  law = settings-laws q n k settings

  -- the drawn rows
  abbrev drawn_rows : List (List ℕ)
  drawn_rows = rows_of n k ((drawing q n k t).leaves i b)

  reduced : Reduced q n k ((drawing q n k t).leaves i b)
  reduced = (demand-3 (setup q n k 0) t settings known).listing.reduced i h b sized

  valid : All (Row q n) drawn_rows
  valid = reduced-rows q n reduced

  module _ (pack : ℕ) where
    -- what a receiver of this pack with these settings is started with
    abbrev s : Setup
    s = setup q n k pack

    pub drawn-rows-recovered : (cs : List Call)
        → All (λ o. Among o.row (rows_of n k ((drawing q n k t).leaves i b)) ⊎ ((o.pack ≡ pack) × Row q n o.row → ⊥)) (offered cs)
        → All (λ row. Among (offer pack row) (offered cs)) (rows_of n k ((drawing q n k t).leaves i b))
        → close_of (after (begun s) cs) t ≡ Ok (index_in t i, space_of n k ((drawing q n k t).leaves i b))
    unfolding HasVector
    drawn-rows-recovered cs only every =
        ((demand-3 s t settings known).recovery i h b sized cs
        (all_map (λ v s. (mixed-in-span q law n drawn_rows valid v).1 s) inside)).typed _ ((drawing q n k t).leaves i b, reduced, same, refl)
      where
        inside : All (InSpan q n drawn_rows) (accepted (begun s) cs)
        inside =
            all_map (λ v a. all_among (span-each q law n drawn_rows valid) a)
            (subst (All (λ row. Among row drawn_rows)) (sym (accepted-fits s settings cs)) (fitting-all s only))

        outside : All (InSpan q n (accepted (begun s) cs)) drawn_rows
        outside =
            all_both
            (λ v r a.
            all_among (span-each q law n (accepted (begun s) cs) (accepted-rows s settings cs))
            (subst (Among v) (sym (accepted-fits s settings cs)) (among-fitting s refl r a))) valid every

        same : SameSpan q n drawn_rows (accepted (begun s) cs)
        same = span_same q law n drawn_rows (accepted (begun s) cs) valid (accepted-rows s settings cs) outside inside

    pub drawn-rows-taken : close_of (after (begun s) (take_all (offers pack (rows_of n k ((drawing q n k t).leaves i b))))) t
        ≡ Ok (index_in t i, space_of n k ((drawing q n k t).leaves i b))
    drawn-rows-taken =
        let given = offered-all (offers pack drawn_rows) in
        drawn-rows-recovered (take_all (offers pack drawn_rows))
        (subst (All _) (sym given) (all-offers pack (all_map (λ v a. inl a) (each-among drawn_rows))))
        (subst (λ os. All (λ row. Among (offer pack row) os) drawn_rows) (sym given)
        (all_map (λ v a. among-offers pack a) (each-among drawn_rows)))

  pub drawn-bytes-received : receive_of q n k t k ((drawing q n k t).leaves i b) ≡ Ok (index_in t i, space_of n k ((drawing q n k t).leaves i b))
  unfolding HasVector SameSpan
  drawn-bytes-received =
      ap₂ (receive_of q n k t) (sym (rows-length n k ((drawing q n k t).leaves i b)))
      (sym (join-rows n k ((drawing q n k t).leaves i b) reduced.size))
      ∙ ((demand-3 (setup q n k 0) t settings known).reception i h b sized drawn_rows few
      (all_map (λ v s. (mixed-in-span q law n drawn_rows valid v).1 s) (span-each q law n drawn_rows valid))).typed _
      ((drawing q n k t).leaves i b, reduced, λ v. Iff.rfl, refl)
    where
      few : length drawn_rows ≤ 64
      few =
          let a = settings-accepted q n k settings in
          omega (arith, rows-length n k ((drawing q n k t).leaves i b), a.dimension, a.narrow)
