-- What a list of calls on one receiver leaves and accepts, from an accepted Start on; carried by the course of the list.
--   begun-holds    == Start hands back the receiver that holds no rows
--   after_holds    == after the calls the receiver holds the accepted rows, as an equation of whole receivers
--   accepted-fits  == a row is accepted exactly when it is offered for the receiver's pack, and has n entries, each below q
--   accepted-rows  == accepted rows are rows
--   unforged       == no call is refused 14
--   after-dimension == the receiver tells the dimension of the accepted rows
--   after-setup    == it has the setup of the Start; after-pack == so it belongs to that pack
-- Assumes nothing.
use Rattle.std.specs.Prelude.{◌≡◌, List, []}
use Rattle.std.proofs.Math.Path.{ap, sym}
use Rattle.std.proofs.Common.{◌∙◌, subst}
use Rattle.refusal.specs.Laws.First.{done}
use Rattle.linear.specs.Span.{All, none, Row, HasDimension}
use Rattle.linear.specs.Laws.ReducedOf.{dimension-has}
use Rattle.receiver.specs.Receiver.{Setup, setup_of, setup_refusal, start_of, holding}
use Rattle.receiver.specs.Laws.Held.{settings-laws, holding-none}
use Rattle.promise_recovery.specs.Calls.{Call, begun, after, accepted, Unforged, offered, fitting}
use Rattle.promise_recovery.proofs.Laws.FittingRows.{fitting-rows}
use Rattle.promise_recovery.proofs.Laws.Course.{Course, course}

module _ (s : Setup) (settings : setup_refusal s ≡ 0) where
  pub begun-holds : begun s ≡ holding s []
  unfolding start_of
  begun-holds = sym (done _ _ _ settings) ∙ holding-none s

  module _ (cs : List Call) where
    whole : Course s [] cs
    whole = course s settings cs [] none

    pub accepted-fits : accepted (begun s) cs ≡ fitting s (offered cs)
    accepted-fits = ap (λ r. accepted r cs) begun-holds ∙ whole.taken

    pub accepted-rows : All (Row s.q s.n) (accepted (begun s) cs)
    accepted-rows = subst (All (Row s.q s.n)) (sym accepted-fits) (fitting-rows s (offered cs))

    pub after_holds : after (begun s) cs ≡ holding s (accepted (begun s) cs)
    after_holds = ap (λ r. after r cs) begun-holds ∙ whole.left ∙ ap (holding s) (sym accepted-fits)

    pub unforged : Unforged (begun s) cs
    unforged = subst (λ r. Unforged r cs) (sym begun-holds) whole.unforged

    pub after-setup : setup_of (after (begun s) cs) ≡ s
    unfolding holding
    after-setup = ap setup_of after_holds

    pub after-pack : (after (begun s) cs).pack ≡ s.pack
    after-pack = ap (λ x. x.pack) after-setup

    pub after-dimension : HasDimension s.q s.n (accepted (begun s) cs) (after (begun s) cs).dimension
    unfolding holding
    after-dimension =
        (dimension-has s.q (settings-laws s.q s.n s.k settings) s.n (accepted (begun s) cs) accepted-rows
        (after (begun s) cs).dimension).1
        (sym (ap (λ r. r.dimension) after_holds))
