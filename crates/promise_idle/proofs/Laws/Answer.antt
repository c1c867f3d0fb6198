-- What Take answers of a row, from any receiver that holds some rows; no part of the meaning.
--   answered        == Take of the receiver that holds `rows` answers as it should
-- Assumes nothing.
use Rattle.std.proofs.Math.Path.{◌≡◌, ap}
use Rattle.std.specs.Prelude.{refl, Bool, true, ◌&&◌, List, [], ◌∷◌, ◌++◌, ◌↔◌, ℕ, suc, ◌<◌, eqb, ltb, replicate, Result, Ok, Err}
use Rattle.std.proofs.Common.{sym, ◌∙◌, subst, arith, eq-eqb, lt-ltb, ltb-true}
use Rattle.std.proofs.Math.Bool.{false}
use Rattle.basics.specs.Choice.{pick}
use Rattle.basics.specs.Laws.Choice.{is_true, holds}
use Rattle.basics.specs.Laws.Test.{and_right}
use Rattle.refusal.specs.Refusal.{number, named}
use Rattle.refusal.specs.Laws.First.{done, number-positive, named-number}
use Rattle.refusal.specs.declared.Refusal.{Refusal}
use Rattle.refusal.specs.declared.Refusal.TheVariants.{Length, Entry, Pack}
use Rattle.field.specs.FieldLaws.{Laws}
use Rattle.matrix.specs.Laws.Tests.{below_one, zeros-below}
use Rattle.linear.specs.Span.{All, Row, InSpan}
use Rattle.linear.specs.Eliminate.{dimension}
use Rattle.linear.specs.Laws.Mixture.{span-row, zero_row_lem}
use Rattle.linear.specs.Laws.OneMore.{dimension-raised, span-decide}
use Rattle.receiver.specs.Receiver.{Setup, Offer, setup_refusal, well_formed, held_rows, holding, is_zero, take_refusal, taken_in, take_of}
use Rattle.receiver.specs.Receiver.{take_number, take_raised, take_idle, TakeTells}
use Rattle.receiver.specs.Laws.Held.{settings-laws, holding-held}
use Rattle.receiver.specs.Laws.TakeAccepted.{take-accepted, accepted-row, take-foreign, take_long, take-large, foreign-only}
use Rattle.receiver.specs.declared.Receiver.{Receiver}
use Rattle.receiver.specs.declared.Taken.{Taken}
use Rattle.receiver.specs.declared.Effect.{Effect}
use Rattle.receiver.specs.declared.Effect.TheVariants.{Raised, Held, Idle}
use Rattle.promise_recovery.proofs.Laws.HoldRows.{well-formed-holding, take-fits, take-tells, take-taken, take-kept}
use Rattle.promise_idle.specs.Idle.{zero_row, Answered}

-- the answers by their tests
raised-only : (a : Result Effect Refusal) → take_raised a ≡ true → a ≡ Ok Raised
raised-only (Ok Raised) e = refl
raised-only (Ok Held) e = absurd (holds false e)
raised-only (Ok Idle) e = absurd (holds false e)
raised-only (Err r) e = absurd (holds false e)

unraised : (a : Result Effect Refusal) → (a ≡ Ok Raised → ⊥) → take_raised a ≡ false
unraised (Ok Raised) e = absurd (e refl)
unraised (Ok Held) e = refl
unraised (Ok Idle) e = refl
unraised (Err r) e = refl

idle-only : (a : Result Effect Refusal) → take_idle a ≡ true → a ≡ Ok Idle
idle-only (Ok Raised) e = absurd (holds false e)
idle-only (Ok Held) e = absurd (holds false e)
idle-only (Ok Idle) e = refl
idle-only (Err r) e = absurd (holds false e)

-- of a row that is not refused, what is neither raised nor idle is held
held-only : (zero grew : Bool) (a : Result Effect Refusal) → a ≡ Ok (pick zero Idle (pick grew Raised Held))
    → (a ≡ Ok Raised → ⊥) → (a ≡ Ok Idle → ⊥) → a ≡ Ok Held
held-only true grew a e raised idle = absurd (idle e)
held-only false true a e raised idle = absurd (raised e)
held-only false false a e raised idle = e

module _ (s : Setup) (settings : setup_refusal s ≡ 0) (rows : List (List ℕ)) (h : All (Row s.q s.n) rows) (o : Offer) where
  abbrev q : ℕ
  q = s.q

  abbrev n : ℕ
  n = s.n

  abbrev row : List ℕ
  row = o.row

  law : Laws q
  law = settings-laws q n s.k settings

  abbrev r : Receiver
  r = holding s rows

  abbrev t : Taken
  t = take_of (holding s rows) o

  tells : TakeTells (holding s rows) o (take_of (holding s rows) o)
  tells = take-tells s settings rows h o

  -- a row for which no refusal is told
  accepted : take_number t.answer ≡ 0 → (o.pack ≡ s.pack) × Row q n row
  unfolding holding
  accepted z = let a = take-accepted r o (sym tells.number ∙ z) in (a.own, accepted-row r o a)

  kept-dimension : take_refusal r o ≡ 0 → InSpan q n rows row → t.receiver.dimension ≡ r.dimension
  kept-dimension z i =
      ap (λ x. x.dimension) ((take-taken s settings rows h o z).0 ∙ holding-held s settings rows h row i)

  grown-dimension : o.pack ≡ s.pack → Row q n row → (InSpan q n rows row → ⊥) → t.receiver.dimension ≡ suc r.dimension
  unfolding holding
  grown-dimension own hr outside =
      ap (λ x. x.dimension) (take-taken s settings rows h o (take-fits s settings rows h o own hr)).0
      ∙ dimension-raised q law n rows h row hr outside

  raised-grows : t.answer ≡ Ok Raised → r.dimension < t.receiver.dimension
  raised-grows e = ltb-true r.dimension t.receiver.dimension (sym tells.raised ∙ ap take_raised e)

  grows-raised : r.dimension < t.receiver.dimension → t.answer ≡ Ok Raised
  grows-raised g = raised-only t.answer (tells.raised ∙ lt-ltb r.dimension t.receiver.dimension g)

  raised : (t.answer ≡ Ok Raised) ↔ ((o.pack ≡ s.pack) × Row q n row × (InSpan q n rows row → ⊥))
  raised = (
    λ e.
        let z : take_number t.answer ≡ 0 = ap take_number e in
        let a = accepted z in
        (a.0, a.1, λ i. let same = kept-dimension (sym tells.number ∙ z) i in omega (arith, raised-grows e, same)),
    λ x. let more = grown-dimension x.0 x.1 x.2 in grows-raised (omega (arith, more)),
  )

  idle : (t.answer ≡ Ok Idle) ↔ ((o.pack ≡ s.pack) × (row ≡ zero_row n))
  idle = (
    λ e.
        let both = holds _ (sym tells.idle ∙ ap take_idle e) in
        let zero : is_zero row ≡ true = is_true (is_zero row) (and_right (eqb (take_refusal r o) 0) (is_zero row) both) in
        let a = accepted (ap take_number e) in
        (a.0, below_one row zero ∙ ap (λ x. replicate x 0) a.1.0),
    λ x.
        let z = take-fits s settings rows h o x.0 (subst (Row q n) (sym x.1) (zero_row_lem q law n)) in
        let zero : is_zero row ≡ true = ap is_zero x.1 ∙ zeros-below n in
        idle-only t.answer (tells.idle ∙ ap (λ b. b && is_zero row) (eq-eqb (take_refusal r o) 0 z) ∙ zero),
  )

  held : (t.answer ≡ Ok Held) ↔ ((o.pack ≡ s.pack) × (row ≡ zero_row n → ⊥) × InSpan q n rows row)
  unfolding take_of taken_in
  held = (
    λ e.
        let a = accepted (ap take_number e) in
        (a.0, λ zero. apart-idle (sym e ∙ idle.1 (a.0, zero)), inside e (span-decide q law n rows h row a.1)),
    λ x.
        let z = take-fits s settings rows h o x.0 (span-row q law n rows h row x.2) in
        held-only (is_zero row) (ltb r.dimension (dimension r.q r.n (held_rows r ++ (row ∷ [])))) t.answer
        (ap (λ (y : Taken). y.answer) (sym (done (take_refusal r o) _ _ z))) (λ e. (raised.0 e).2 x.2)
        (λ e. x.1 (idle.0 e).1),
  )
    where
      apart-idle : ◌≡◌ {A = Result Effect Refusal} (Ok Held) (Ok Idle) → ⊥
      apart-idle e = holds false (ap take_idle e)

      apart-raised : ◌≡◌ {A = Result Effect Refusal} (Ok Held) (Ok Raised) → ⊥
      apart-raised e = holds false (ap take_raised e)

      inside : t.answer ≡ Ok Held → Dec (InSpan q n rows row) → InSpan q n rows row
      inside e (yes i) = i
      inside e (no outside) = let a = accepted (ap take_number e) in absurd (apart-raised (sym e ∙ raised.1 (a.0, a.1, outside)))

  refused : (refusal : Refusal) → take_refusal r o ≡ number refusal → t.answer ≡ Err refusal
  refused refusal e =
      ap (λ (x : Taken). x.answer) (take-kept s settings rows h o (λ z. number-positive refusal (sym e ∙ z)))
      ∙ ap (λ x. Err (named x)) e ∙ ap Err (named-number refusal)

  -- and so by its number
  numbered : (refusal : Refusal) → take_refusal r o ≡ number refusal
      → (t.answer ≡ Err refusal) × (take_number t.answer ≡ number refusal)
  numbered refusal e = let told = refused refusal e in (told, ap take_number told)

  formed : well_formed r ≡ true
  formed = well-formed-holding s settings rows h

  foreign : ((t.answer ≡ Err Pack) × (take_number t.answer ≡ 17)) ↔ (o.pack ≡ s.pack → ⊥)
  unfolding holding
  foreign = (λ e. foreign-only r o formed (sym tells.number ∙ e.1), λ p. numbered Pack (take-foreign r o formed p))

  pub answered : Answered s rows (holding s rows) o (take_of (holding s rows) o)
  unfolding holding
  answered =
      record {
        foreign = foreign;
        raised = raised;
        held = held;
        idle = idle;
        long = λ own l. numbered Length (take_long r o formed own l);
        large = λ own l outside. numbered Entry (take-large r o formed own l outside);
        grown = λ e. let x = raised.0 e in grown-dimension x.0 x.1 x.2;
        untouched = λ e. tells.untouched (unraised t.answer e);
      }
