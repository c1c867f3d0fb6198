-- What a list of calls leaves, from any receiver that holds some rows; carried by one induction over the list.
--   Course s rows cs == from the receiver that holds `rows`: the calls cs leave the one that holds `rows` and the fitting rows offered,
--                       the accepted rows are these, and no call is refused 14
--   course           == so it is
-- Assumes nothing.
use Rattle.std.specs.Prelude.{◌≡◌, Bool, false, ℕ, eqb, ltb, Ok, Err}
use Rattle.std.proofs.Math.Path.{refl, ap, sym, subst}
use Rattle.std.proofs.Common.{◌∙◌, arith, eq-eqb, ne_eqb}
use Rattle.std.proofs.Math.Bool.{true}
use mathlib.Core.List.{List, [], ◌∷◌, ◌++◌, append-nil, append_assoc}
use Rattle.basics.specs.Choice.{pick}
use Rattle.refusal.specs.Refusal.{receiver_refusal, numbering_refusal}
use Rattle.refusal.specs.Laws.First.{test-refused, test-passed, kept, done}
use Rattle.linear.specs.Span.{All, none, more, Row}
use Rattle.linear.specs.Laws.Every.{all_append}
use Rattle.numbering.specs.Numbering.{is_numbering, index_of, index_in}
use Rattle.reduce.specs.Reduce.{space_of}
use Rattle.receive.specs.Answer.{space_answer, received_number}
use Rattle.receiver.specs.Receiver.{Setup, Offer, setup_refusal, well_formed, holding, take_of, take_number, close_refusal, close_of}
use Rattle.receiver.specs.Laws.TakeAccepted.{take-known, unforged, close-unrefused, close-known}
use Rattle.receiver.specs.declared.Taken.{Taken}
use Rattle.receive.specs.declared.Unreceived.TheVariants.{TooFew, TooMany}
use Rattle.promise_recovery.specs.Calls.{Call, take_value, take_lent, close, after, accepted, Unforged, none as nothing, more as further}
use Rattle.promise_recovery.specs.Calls.{offered, fits, fitting}
use Rattle.promise_recovery.proofs.Laws.FittingRows.{fits-own, fits-row}
use Rattle.promise_recovery.proofs.Laws.HoldRows.{well-formed-holding, take-fits, take-misfits, take-taken, take-kept}

pub record Course (s : Setup) (rows : List (List ℕ)) (cs : List Call) : Type 0 where
  pub left : after (holding s rows) cs ≡ holding s (rows ++ fitting s (offered cs))
  pub taken : accepted (holding s rows) cs ≡ fitting s (offered cs)
  pub unforged : Unforged (holding s rows) cs

-- the answer for a span is never 14
space-number : (q n k t d : ℕ) (m : List ℕ) → received_number (space_answer q n k t d m) ≡ receiver_refusal → ⊥
unfolding space_answer
space-number q n k t d m = cases (ltb d k) (ltb k d)
  where
    cases : (few many : Bool)
        → received_number
        (pick few (Err (TooFew (space_of n d m)))
        (pick many (Err (TooMany (space_of n d m))) (Ok (index_in t (index_of q n k t m), space_of n d m))))
        ≡ receiver_refusal
        → ⊥
    cases true many e = omega arith
    cases false true e = omega arith
    cases false false e = omega arith

module _ (s : Setup) (settings : setup_refusal s ≡ 0) where
  -- Close is not refused 14
  close-unforged : (rows : List (List ℕ)) → All (Row s.q s.n) rows → (t : ℕ)
      → received_number (close_of (holding s rows) t) ≡ receiver_refusal
      → ⊥
  unfolding close_of close_refusal
  close-unforged rows h t = cases (is_numbering t) refl
    where
      formed : well_formed (holding s rows) ≡ true
      formed = well-formed-holding s settings rows h

      cases : (b : Bool) → is_numbering t ≡ b → received_number (close_of (holding s rows) t) ≡ receiver_refusal → ⊥
      cases true known e =
          space-number _ _ _ t _ _ (ap received_number (done _ _ _ (close-unrefused (holding s rows) t formed known)) ∙ e)
      cases false unknown e =
          let ten : close_refusal (holding s rows) t ≡ numbering_refusal = test-passed _ _ _ formed ∙ test-refused _ _ _ tt unknown in
          let some : close_refusal (holding s rows) t ≡ 0 → ⊥ = λ zero. omega (arith, ten, zero) in
          let z = sym (close-known (holding s rows) t some) ∙ ap received_number (kept _ _ _ some) ∙ e in
          omega (arith, ten, z)

  -- Take of one row, which hands back t, and the calls after it
  record Step (rows : List (List ℕ)) (o : Offer) (cs : List Call) (t : Taken) : Type 0 where
    left : after t.receiver cs ≡ holding s (rows ++ fitting s (o ∷ offered cs))
    taken : pick (eqb (take_number t.answer) 0) (o.row ∷ accepted t.receiver cs) (accepted t.receiver cs)
        ≡ fitting s (o ∷ offered cs)
    named : take_number t.answer ≡ receiver_refusal → ⊥
    unforged : Unforged t.receiver cs

  -- a row that fits, and one that does not
  step_fits : (rows : List (List ℕ)) (o : Offer) (cs : List Call) (t : Taken) → fits s o ≡ true
      → t.receiver ≡ holding s (rows ++ (o.row ∷ [])) → take_number t.answer ≡ 0 → Course s (rows ++ (o.row ∷ [])) cs
      → Step rows o cs t
  unfolding fitting
  step_fits rows o cs t f e z c =
      record {
        left =
            ap (λ x. after x cs) e ∙ c.left
            ∙ ap (holding s)
            (append_assoc rows (o.row ∷ []) (fitting s (offered cs)) ∙ ap (λ (x : List (List ℕ)). rows ++ x) (sym here));
        taken =
            ap (λ b. pick b (o.row ∷ accepted t.receiver cs) (accepted t.receiver cs)) (eq-eqb (take_number t.answer) 0 z)
            ∙ ap (λ (x : List (List ℕ)). o.row ∷ x) (ap (λ x. accepted x cs) e ∙ c.taken)
            ∙ sym here;
        named = λ g. omega arith;
        unforged = subst (λ x. Unforged x cs) (sym e) c.unforged;
      }
    where
      here : pick (fits s o) (o.row ∷ fitting s (offered cs)) (fitting s (offered cs)) ≡ o.row ∷ fitting s (offered cs)
      here = ap (λ b. pick b (o.row ∷ fitting s (offered cs)) (fitting s (offered cs))) f

  step-misfits : (rows : List (List ℕ)) (o : Offer) (cs : List Call) (t : Taken) → fits s o ≡ false
      → t.receiver ≡ holding s rows → (take_number t.answer ≡ 0 → ⊥) → (take_number t.answer ≡ receiver_refusal → ⊥)
      → Course s rows cs
      → Step rows o cs t
  unfolding fitting
  step-misfits rows o cs t f e refused other c =
      record {
        left = ap (λ x. after x cs) e ∙ c.left ∙ ap (λ (x : List (List ℕ)). holding s (rows ++ x)) (sym here);
        taken =
            ap (λ b. pick b (o.row ∷ accepted t.receiver cs) (accepted t.receiver cs))
            (ne_eqb (take_number t.answer) 0 refused)
            ∙ ap (λ x. accepted x cs) e ∙ c.taken ∙ sym here;
        named = other;
        unforged = subst (λ x. Unforged x cs) (sym e) c.unforged;
      }
    where
      here : pick (fits s o) (o.row ∷ fitting s (offered cs)) (fitting s (offered cs)) ≡ fitting s (offered cs)
      here = ap (λ b. pick b (o.row ∷ fitting s (offered cs)) (fitting s (offered cs))) f

  step : (rows : List (List ℕ)) → All (Row s.q s.n) rows → (o : Offer) (cs : List Call)
      → ((held : List (List ℕ)) → All (Row s.q s.n) held → Course s held cs) → Step rows o cs (take_of (holding s rows) o)
  step rows h o cs next = cases (fits s o) refl
    where
      cases : (b : Bool) → fits s o ≡ b → Step rows o cs (take_of (holding s rows) o)
      cases true f =
          let hr = fits-row s o f in
          let t = take-taken s settings rows h o (take-fits s settings rows h o (fits-own s o f) hr) in
          step_fits rows o cs _ f t.0 t.1 (next (rows ++ (o.row ∷ [])) (all_append h (more hr none)))
      cases false f =
          let z = take-misfits s settings rows h o f in
          let t = take-kept s settings rows h o z in
          let e = ap (λ x. take_number x.answer) t ∙ take-known (holding s rows) o z in
          step-misfits rows o cs _ f (ap (λ x. x.receiver) t) (λ g. z (sym e ∙ g))
          (λ g. unforged (holding s rows) o (well-formed-holding s settings rows h) (sym e ∙ g)) (next rows h)

  pub course : (cs : List Call) (rows : List (List ℕ)) → All (Row s.q s.n) rows → Course s rows cs
  unfolding after accepted offered fitting
  course [] rows h = record { left = ap (holding s) (sym (append-nil rows)); taken = refl; unforged = nothing }
  course (take_value o ∷ cs) rows h =
      let x = step rows h o cs (course cs) in
      record { left = x.left; taken = x.taken; unforged = further x.named x.unforged }
  course (take_lent o ∷ cs) rows h =
      let x = step rows h o cs (course cs) in
      record { left = x.left; taken = x.taken; unforged = further x.named x.unforged }
  course (close t ∷ cs) rows h =
      let c = course cs rows h in
      record { left = c.left; taken = c.taken; unforged = further (close-unforged rows h t) c.unforged }
