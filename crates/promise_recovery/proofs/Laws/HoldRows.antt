-- The receivers that pass the test are those that hold some rows, and Take of such a receiver holds one row more.
--   well-formed-holding    == the receiver that holds some rows passes the test
--   holding-of-well-formed == a receiver that passes the test holds its rows, and is the one that holds them
--   take-fits, take-misfits == Take names no refusal exactly for a row of its own pack
--   take-tells     == what Take hands back tells of the row
--   take-taken     == a row taken in: the receiver then holds it after the others
--   take-kept      == a row refused: the receiver stays
-- Assumes nothing.
use Rattle.std.specs.Prelude.{◌≡◌, refl, true, ℕ, length, Err}
use Rattle.std.proofs.Math.Path.{ap, sym}
use Rattle.std.proofs.Common.{◌∙◌}
use Rattle.std.proofs.Math.Bool.{false}
use mathlib.Core.List.{List, [], ◌∷◌, ◌++◌}
use Rattle.basics.specs.Laws.Choice.{holds}
use Rattle.refusal.specs.Refusal.{named}
use Rattle.refusal.specs.Laws.First.{kept, done}
use Rattle.field.specs.FieldLaws.{Laws}
use Rattle.linear.specs.Span.{All, Row}
use Rattle.linear.specs.Eliminate.{join, insert_row, reduced_rows, reduced_of, dimension}
use Rattle.linear.specs.Laws.ReducedOf.{reduced_rows-kept}
use Rattle.linear.specs.Laws.SameMatrix.{reduced_rows-again}
use Rattle.linear.specs.Laws.OneMore.{reduced_rows-more}
use Rattle.reduction.specs.Padded.{padded}
use Rattle.receiver.specs.Receiver.{Setup, Offer, setup_of, setup_refusal, made, well_formed, held_rows, holding}
use Rattle.receiver.specs.Receiver.{take_refusal, taken_in, take_of, taken_as, take_number, TakeTells}
use Rattle.receiver.specs.Laws.Sound.{sound, well-formed}
use Rattle.receiver.specs.Laws.Held.{settings-laws, held_kept, held-again, holding-rows, holding-size, holding-sound}
use Rattle.receiver.specs.Laws.TakeAccepted.{take-accepted, accepted-row, take_row}
use Rattle.receiver.proofs.Laws.TakeTold.{take-told}
use Rattle.receiver.specs.declared.Receiver.{Receiver}
use Rattle.receiver.specs.declared.Taken.{Taken}
use Rattle.promise_recovery.specs.Calls.{fits}
use Rattle.promise_recovery.proofs.Laws.FittingRows.{own-fits}

pub holding-of-well-formed : (r : Receiver) → length r.entries ≡ 256 → well_formed r ≡ true
    → (r ≡ holding (setup_of r) (held_rows r)) × All (Row r.q r.n) (held_rows r)
holding-of-well-formed r size w = let s = sound r size w in (held-again r size s, (held_kept r size s).rows)

module _ (s : Setup) (settings : setup_refusal s ≡ 0) (rows : List (List ℕ)) (h : All (Row s.q s.n) rows) where
  abbrev q : ℕ
  q = s.q

  abbrev n : ℕ
  n = s.n

  law : Laws q
  law = settings-laws q n s.k settings

  pub well-formed-holding : well_formed (holding s rows) ≡ true
  well-formed-holding = well-formed (holding s rows) (holding-size s settings rows h) (holding-sound s settings rows h)

  module _ (o : Offer) where
    pub take-fits : o.pack ≡ s.pack → Row q n o.row → take_refusal (holding s rows) o ≡ 0
    unfolding holding
    take-fits own hr = take_row (holding s rows) o well-formed-holding own hr

    pub take-misfits : fits s o ≡ false → take_refusal (holding s rows) o ≡ 0 → ⊥
    unfolding holding
    take-misfits e z =
        let a = take-accepted (holding s rows) o z in
        holds false (sym e ∙ own-fits s o a.own (accepted-row (holding s rows) o a))

    -- a reduced row more is a row more
    one_more : reduced_rows q n (held_rows (holding s rows) ++ (o.row ∷ [])) ≡ reduced_rows q n (rows ++ (o.row ∷ []))
    one_more =
        let among = reduced_rows-kept q law n rows h in
        ap (λ x. reduced_rows q n (x ++ (o.row ∷ []))) (holding-rows s settings rows h)
        ∙ reduced_rows-more q n (reduced_rows q n rows) o.row
        ∙ ap (λ x. insert_row q n x o.row) (reduced_rows-again q law n (reduced_rows q n rows) among.rows among.reduced)
        ∙ sym (reduced_rows-more q n rows o.row)

    -- what Take hands back tells of the row
    pub take-tells : TakeTells (holding s rows) o (take_of (holding s rows) o)
    take-tells = take-told (holding s rows) o (holding-size s settings rows h) (take_of (holding s rows) o) refl

    pub take-taken : take_refusal (holding s rows) o ≡ 0
        → ((take_of (holding s rows) o).receiver ≡ holding s (rows ++ (o.row ∷ [])))
        × (take_number (take_of (holding s rows) o).answer ≡ 0)
    unfolding holding taken_in take_of reduced_of dimension
    take-taken z = (
      ap (λ (t : Taken). t.receiver) (sym (done (take_refusal (holding s rows) o) _ _ z))
          ∙ ap (λ (x : List (List ℕ)). made s (length x) (padded 256 (join x))) one_more,
      take-tells.number ∙ z,
    )

    pub take-kept : (take_refusal (holding s rows) o ≡ 0 → ⊥)
        → take_of (holding s rows) o ≡ taken_as (holding s rows) (Err (named (take_refusal (holding s rows) o)))
    unfolding take_of
    take-kept z = sym (kept (take_refusal (holding s rows) o) _ _ z)
