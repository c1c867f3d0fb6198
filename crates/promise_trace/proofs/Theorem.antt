-- Order 9: the theorems. Each is about lists of calls from a fresh Start with accepted settings, as demand 3 reads them: Take in either form
-- and Close, refused ones and rows of other packs included. Nothing is said of what the rows are mixed from.
--   no-trace       == two lists, from the same Start, leave equal receivers where each row that isn't zero, and that one accepts, is one that the other accepts
--   unraised-anywhere == a Take that does not raise the dimension where it is put in, so that of a row that is refused there, or idle,
--                     leaves no trace either, in either form
--   any-two        == two lists, each from a Start of its own, leave equal receivers exactly when q, n, k and the packs are the same, and
--                     the rows that they accept have the same span
--   held-exactly   == the same of any two receivers that Start and Take can leave, by the rows that they hold
--   pooled-exactly == what pooling two receivers hands back is what a third list leaves exactly when that accepts rows with the span of the
--                     rows of both
--   pooled-no-trace == so where that accepts the rows of both, zero rows aside, in whatever sequence
--   pooled-either-way == pooling the other way round hands back an equal receiver
-- Assumes nothing.
use Rattle.std.specs.Prelude.{◌≡◌, refl, false, List, [], ◌∷◌, ◌++◌, ◌↔◌}
use Rattle.std.proofs.Common.{ap, sym, ◌∙◌, subst, subst₂}
use Rattle.std.proofs.Math.Logic.Iff
use Rattle.linear.specs.Span.{All, Row, SameSpan}
use Rattle.linear.specs.Laws.Every.{all_append}
use Rattle.numbering.specs.Laws.Chosen.{first-known}
use Rattle.receiver.specs.Receiver.{Setup, Offer, setup, setup_of, setup_refusal, held_rows, holding, take_of, lent_receiver, take_raised}
use Rattle.receiver.specs.Laws.Sound.{sound}
use Rattle.receiver.specs.Laws.Held.{settings-laws, holding-exactly}
use Rattle.receiver.proofs.Laws.TakeTold.{take-told}
use Rattle.receiver.specs.declared.Receiver.{Receiver}
use Rattle.promise_recovery.specs.Calls.{Call, take_value, take_lent, close, begun, after, accepted, Reachable}
use Rattle.promise_recovery.proofs.Laws.After.{after-setup, accepted-rows}
use Rattle.promise_recovery.proofs.Laws.HoldRows.{holding-of-well-formed}
use Rattle.promise_recovery.proofs.Laws.Reachable.{reachable-size, after-reachable, formed}
use Rattle.promise_pool.specs.Pooling.{SameSetup, rows_of_both, pooled_after}
use Rattle.promise_pool.proofs.Theorem.{order-1}
use Rattle.promise_pool.specs.Laws.TwoLists.{accepted-append}
use Rattle.promise_trace.specs.Trace.{Covered}
use Rattle.promise_trace.proofs.Equal.{equal-exactly}
use Rattle.promise_trace.proofs.Spanned.{covered_same, covered-swap}

pub no-trace : (s : Setup) → setup_refusal s ≡ 0 → (cs ds : List Call)
    → Covered (accepted (begun s) cs) (accepted (begun s) ds)
    → Covered (accepted (begun s) ds) (accepted (begun s) cs)
    → after (begun s) cs ≡ after (begun s) ds
no-trace s settings cs ds there back =
    (equal-exactly s settings cs ds).1
    (covered_same s.q (settings-laws s.q s.n s.k settings) s.n (accepted (begun s) cs) (accepted (begun s) ds)
    (accepted-rows s settings cs) (accepted-rows s settings ds) there back)

-- two lists, one after the other
after-append : (r : Receiver) (cs ds : List Call) → after r (cs ++ ds) ≡ after (after r cs) ds
unfolding after
after-append r [] ds = refl
after-append r (take_value o ∷ cs) ds = after-append (take_of r o).receiver cs ds
after-append r (take_lent o ∷ cs) ds = after-append (lent_receiver r o) cs ds
after-append r (close t ∷ cs) ds = after-append r cs ds

pub unraised-anywhere : (s : Setup) → setup_refusal s ≡ 0 → (cs ds : List Call) (o : Offer)
    → take_raised (take_of (after (begun s) cs) o).answer ≡ false
    → (after (begun s) (cs ++ (take_value o ∷ ds)) ≡ after (begun s) (cs ++ ds))
    × (after (begun s) (cs ++ (take_lent o ∷ ds)) ≡ after (begun s) (cs ++ ds))
unfolding after
unraised-anywhere s settings cs ds o unraised =
    let r = after (begun s) cs in
    let told = take-told r o (reachable-size (after-reachable s settings cs)) (take_of r o) refl in
    let still = ap (λ x. after x ds) (told.untouched unraised) ∙ sym (after-append (begun s) cs ds) in
    (after-append (begun s) cs (take_value o ∷ ds) ∙ still, after-append (begun s) cs (take_lent o ∷ ds) ∙ still)

-- setups are equal where all that they have is
pub setups-equal : (s other : Setup) → s.q ≡ other.q → s.n ≡ other.n → s.k ≡ other.k → s.pack ≡ other.pack → s ≡ other
setups-equal s other eq en ek ep =
    ap (λ q. setup q s.n s.k s.pack) eq ∙ ap (λ n. setup other.q n s.k s.pack) en
    ∙ ap (λ k. setup other.q other.n k s.pack) ek
    ∙ ap (setup other.q other.n other.k) ep

pub any-two : (s other : Setup) → setup_refusal s ≡ 0 → setup_refusal other ≡ 0 → (cs ds : List Call)
    → (after (begun s) cs ≡ after (begun other) ds)
    ↔ ((s.q ≡ other.q)
    × (s.n ≡ other.n)
    × (s.k ≡ other.k)
    × (s.pack ≡ other.pack)
    × SameSpan s.q s.n (accepted (begun s) cs) (accepted (begun other) ds))
any-two s other settings others cs ds = (
  λ e.
      let same = sym (after-setup s settings cs) ∙ ap setup_of e ∙ after-setup other others ds in
      (ap (λ x. x.q) same, ap (λ x. x.n) same, ap (λ x. x.k) same, ap (λ x. x.pack) same, (started-alike same).0 e),
  λ x. (started-alike (setups-equal s other x.0 x.1 x.2 x.3)).1 x.4,
)
  where
    started-alike : s ≡ other → (after (begun s) cs ≡ after (begun other) ds)
        ↔ SameSpan s.q s.n (accepted (begun s) cs) (accepted (begun other) ds)
    started-alike same =
        subst
        (λ x. (after (begun s) cs ≡ after (begun x) ds) ↔ SameSpan s.q s.n (accepted (begun s) cs) (accepted (begun x) ds)) same
        (equal-exactly s settings cs ds)

pub held-exactly : (a b : Receiver) → Reachable a → Reachable b
    → (a ≡ b) ↔ (SameSetup a b × SameSpan a.q a.n (held_rows a) (held_rows b))
unfolding SameSpan
held-exactly a b reached other = (there, λ x. back (setups-equal (setup_of a) (setup_of b) x.0.0 x.0.1 x.0.2 x.0.3) x.1)
  where
    there : a ≡ b → SameSetup a b × SameSpan a.q a.n (held_rows a) (held_rows b)
    there e = (
      (ap (λ r. r.q) e, ap (λ r. r.n) e, ap (λ r. r.k) e, ap (λ r. r.pack) e),
      subst (λ r. SameSpan a.q a.n (held_rows a) (held_rows r)) e (λ v. Iff.rfl),
    )

    back : setup_of a ≡ setup_of b → SameSpan a.q a.n (held_rows a) (held_rows b) → a ≡ b
    back same spans =
        let first = holding-of-well-formed a (reachable-size reached) (formed a (reachable-size reached) reached) in
        let second = holding-of-well-formed b (reachable-size other) (formed b (reachable-size other) other) in
        first.0
        ∙ (holding-exactly (setup_of a) (sound a (reachable-size reached) (formed a (reachable-size reached) reached)).settings (held_rows a)
        (held_rows b) first.1 (subst (λ s. All (Row s.q s.n) (held_rows b)) (sym same) second.1)).1 spans
        ∙ ap (λ s. holding s (held_rows b)) same
        ∙ sym second.0

-- the receiver that pooling hands back took both lists
pooled-both : (s : Setup) → setup_refusal s ≡ 0 → (cs ds : List Call) → (pooled_after s cs ds).receiver ≡ after (begun s) (cs ++ ds)
pooled-both s settings cs ds = (order-1 s 1 settings first-known cs ds).1

pub pooled-exactly : (s : Setup) → setup_refusal s ≡ 0 → (cs ds es : List Call)
    → ((pooled_after s cs ds).receiver ≡ after (begun s) es)
    ↔ SameSpan s.q s.n (rows_of_both s cs ds) (accepted (begun s) es)
pooled-exactly s settings cs ds es =
    subst₂ (λ r rows. (r ≡ after (begun s) es) ↔ SameSpan s.q s.n rows (accepted (begun s) es))
    (sym (pooled-both s settings cs ds)) (accepted-append s settings cs ds) (equal-exactly s settings (cs ++ ds) es)

pub pooled-no-trace : (s : Setup) → setup_refusal s ≡ 0 → (cs ds es : List Call)
    → Covered (rows_of_both s cs ds) (accepted (begun s) es)
    → Covered (accepted (begun s) es) (rows_of_both s cs ds)
    → (pooled_after s cs ds).receiver ≡ after (begun s) es
pooled-no-trace s settings cs ds es there back =
    (pooled-exactly s settings cs ds es).1
    (covered_same s.q (settings-laws s.q s.n s.k settings) s.n (rows_of_both s cs ds) (accepted (begun s) es)
    (all_append (accepted-rows s settings cs) (accepted-rows s settings ds)) (accepted-rows s settings es) there back)

pub pooled-either-way : (s : Setup) → setup_refusal s ≡ 0 → (cs ds : List Call)
    → (pooled_after s cs ds).receiver ≡ (pooled_after s ds cs).receiver
pooled-either-way s settings cs ds =
    let us = accepted (begun s) cs in
    let vs = accepted (begun s) ds in
    let e = sym (accepted-append s settings ds cs) in
    pooled-no-trace s settings cs ds (ds ++ cs) (subst (Covered (us ++ vs)) e (covered-swap us vs))
    (subst (λ rows. Covered rows (us ++ vs)) e (covered-swap vs us))
    ∙ sym (pooled-both s settings ds cs)
