-- Order 8: the theorems.
--   rack            == two receivers with different packs, each with settings of its own, and one list of offers given to both: each is
--                      InRack, and what one accepts the other refuses with 17
--   both-recovered  == so the rows of two drawn matrices, offered for the two packs by turns in any way, give both indexes
--   order-8         == the order in one flat statement, under its words
-- Assumes nothing.
use Rattle.std.specs.Prelude.{◌≡◌, refl, true, List, ◌↔◌, ◌⊎◌, ℕ, ◌*◌, ◌<◌, length, Ok, Err}
use Rattle.std.proofs.Common.{ap, sym, ◌∙◌, subst, inl, inr}
use Rattle.refusal.specs.Laws.First.{kept}
use Rattle.refusal.specs.declared.Refusal.TheVariants.{Length, Entry, Pack}
use Rattle.linear.specs.Span.{All, Among, Row, Mixed, rows_of}
use Rattle.linear.specs.Laws.Every.{all_map, each-among}
use Rattle.numbering.specs.Numbering.{is_numbering, index_in}
use Rattle.drawing.specs.Drawing.{drawing}
use Rattle.reduce.specs.Reduce.{space_of}
use Rattle.receiver.specs.Receiver.{Setup, Offer, setup, offer, setup_refusal, empty, start_of, well_formed, take_number}
use Rattle.receiver.specs.Receiver.{close_refusal, close_of}
use Rattle.receiver.specs.Laws.TakeAccepted.{take-accepted, take_long, take-large, take_row}
use Rattle.receiver.specs.Laws.WellFormed.{formed-any-pack}
use Rattle.receiver.specs.declared.Receiver.{Receiver}
use Rattle.receiver.specs.declared.Taken.{Taken}
use Rattle.promise_recovery.specs.Calls.{Call, begun, after, accepted, Reachable, offers, offered, fitting}
use Rattle.promise_recovery.specs.Demand.{Buffer, Recovery}
use Rattle.promise_recovery.proofs.Theorem.{demand-3}
use Rattle.promise_recovery.proofs.Laws.After.{after-pack, accepted-fits}
use Rattle.promise_recovery.proofs.Laws.Reachable.{reachable-size, after-reachable, reachable-exactly-well-formed, formed}
use Rattle.promise_recovery.proofs.Laws.Whole.{all-offers, among-offers, drawn-rows-recovered}
use Rattle.promise_idle.specs.Idle.{TakenBy}
use Rattle.promise_packs.specs.Packs.{repacked, Turns, InRack}
use Rattle.promise_packs.specs.Laws.Turns.{turns-swap, turns-all, turns-among, offers-foreign}
use Rattle.promise_packs.specs.Laws.Refuses.{number_of, refused-leaves, named-by, forged-exactly, foreign-exactly}

-- one of the two receivers
in-rack : (s : Setup) → setup_refusal s ≡ 0 → (os : List Offer) (cs : List Call) → offered cs ≡ os → InRack s os cs
in-rack s settings os cs given =
    record {
      accepts = accepts;
      recovers = λ t known i h b l mixed. (demand-3 s t settings known).recovery i h b l cs (subst (All _) (sym accepts) mixed);
    }
  where
    accepts : accepted (begun s) cs ≡ fitting s os
    accepts = accepted-fits s settings cs ∙ ap (fitting s) given

-- what one accepts the other refuses
refuses-other : (s other : Setup) → setup_refusal s ≡ 0 → setup_refusal other ≡ 0 → (s.pack ≡ other.pack → ⊥) → (cs ds : List Call)
    → (o : Offer) {t u : Taken} → TakenBy (after (begun s) cs) o t → TakenBy (after (begun other) ds) o u
    → take_number t.answer ≡ 0 → (u.answer ≡ Err Pack) × (take_number u.answer ≡ 17)
refuses-other s other settings others apart cs ds o by beside z =
    let r = after (begun s) cs in
    let r' = after (begun other) ds in
    let size = reachable-size (after-reachable s settings cs) in
    let reached = after-reachable other others ds in
    let a = take-accepted r o (sym (number_of r size o by) ∙ z) in
    named-by r' (reachable-size reached) o beside Pack
    ((foreign-exactly r' (reachable-size reached) o).1
    (reached, λ e. apart (sym (after-pack s settings cs) ∙ sym a.own ∙ e ∙ after-pack other others ds)))

pub rack : (s other : Setup) → setup_refusal s ≡ 0 → setup_refusal other ≡ 0 → (s.pack ≡ other.pack → ⊥)
    → (os : List Offer) (cs ds : List Call) → offered cs ≡ os → offered ds ≡ os
    → InRack s os cs
    × InRack other os ds
    × ((o : Offer) (t u : Taken) → TakenBy (after (begun s) cs) o t → TakenBy (after (begun other) ds) o u
    → (take_number t.answer ≡ 0 → (u.answer ≡ Err Pack) × (take_number u.answer ≡ 17))
    × (take_number u.answer ≡ 0 → (t.answer ≡ Err Pack) × (take_number t.answer ≡ 17)))
rack s other settings others apart os cs ds given both = (
  in-rack s settings os cs given,
  in-rack other others os ds both,
  λ o t u by beside. (
    refuses-other s other settings others apart cs ds o by beside,
    refuses-other other s others settings (λ e. apart (sym e)) ds cs o beside by,
  ),
)

-- the drawn rows among what is offered for other packs
turns-recovered : (s : Setup) → setup_refusal s ≡ 0 → (t : ℕ) → is_numbering t ≡ true → let D = drawing s.q s.n s.k t in
    (i : ℕ) → i < D.count → (b : List ℕ) → Buffer s.n s.k b
    → (foreign : List Offer) → All (λ o. o.pack ≡ s.pack → ⊥) foreign
    → (os : List Offer) → Turns (offers s.pack (rows_of s.n s.k (D.leaves i b))) foreign os
    → (cs : List Call) → offered cs ≡ os
    → close_of (after (begun s) cs) t ≡ Ok (index_in t i, space_of s.n s.k (D.leaves i b))
turns-recovered s settings t known i h b l foreign apart os turns cs given =
    let rows = rows_of s.n s.k ((drawing s.q s.n s.k t).leaves i b) in
    drawn-rows-recovered s.q s.n s.k t settings known i h b l s.pack cs
    (subst (All (λ o. Among o.row rows ⊎ ((o.pack ≡ s.pack) × Row s.q s.n o.row → ⊥))) (sym given)
    (turns-all turns (all-offers s.pack (all_map (λ v a. inl a) (each-among rows))) (all_map (λ o p. inr (λ x. p x.0)) apart)))
    (subst (λ os. All (λ row. Among (offer s.pack row) os) rows) (sym given)
    (all_map (λ v a. turns-among turns (among-offers s.pack a)) (each-among rows)))

pub both-recovered : (s other : Setup) → setup_refusal s ≡ 0 → setup_refusal other ≡ 0 → (s.pack ≡ other.pack → ⊥)
    → (t u : ℕ) → is_numbering t ≡ true → is_numbering u ≡ true
    → let D = drawing s.q s.n s.k t in
    let E = drawing other.q other.n other.k u in
    (i j : ℕ) → i < D.count → j < E.count → (b c : List ℕ) → Buffer s.n s.k b → Buffer other.n other.k c
    → (os : List Offer)
    → Turns (offers s.pack (rows_of s.n s.k (D.leaves i b)))
    (offers other.pack (rows_of other.n other.k (E.leaves j c))) os
    → (cs ds : List Call) → offered cs ≡ os → offered ds ≡ os
    → (close_of (after (begun s) cs) t ≡ Ok (index_in t i, space_of s.n s.k (D.leaves i b)))
    × (close_of (after (begun other) ds) u ≡ Ok (index_in u j, space_of other.n other.k (E.leaves j c)))
both-recovered s other settings others apart t u known knows i j h g b c l m os turns cs ds given both =
    let mine = rows_of s.n s.k ((drawing s.q s.n s.k t).leaves i b) in
    let theirs = rows_of other.n other.k ((drawing other.q other.n other.k u).leaves j c) in (
      turns-recovered s settings t known i h b l _ (offers-foreign other.pack s.pack (λ e. apart (sym e)) theirs) os turns cs given,
      turns-recovered other others u knows j g c m _ (offers-foreign s.pack other.pack apart mine) os (turns-swap turns) ds both,
    )

closes-alike : (r : Receiver) (pack t : ℕ) → close_of (repacked r pack) t ≡ close_of r t
unfolding well_formed close_refusal close_of
closes-alike r pack t = refl

pub order-8 :
    -- "A receiver gets a pack number, 0 to 65535, at its start, (which it keeps through every list of calls,)
    ((s : Setup) → setup_refusal s ≡ 0 → (cs : List Call) → (after (begun s) cs).pack ≡ s.pack)
    -- a refused start has pack number 0. (All of it is zero.)
    × ((s : Setup) → (setup_refusal s ≡ 0 → ⊥) → begun s ≡ empty (setup 0 0 0 0))
    -- Any pack number is valid in a receiver. (With another in it, it is one that Start and Take can leave exactly where it was so before,
    -- and it closes as before.)
    × ((r : Receiver) → length r.entries ≡ 256 → (pack : ℕ)
    → (Reachable (repacked r pack) ↔ Reachable r) × ((t : ℕ) → close_of (repacked r pack) t ≡ close_of r t))
    -- each row given to Take is offered with one .. It refuses a row of another pack with 17, placed after 14 and before 4. (For any
    -- receiver, whatever is offered, and Take in either form: 14 exactly for a receiver that Start and Take cannot leave, 17 exactly for
    -- another pack's row on one that they can, and then 4 and 6. Refused, the receiver is as it was.)
    × ((r : Receiver) → length r.entries ≡ 256 → (pack : ℕ) (row : List ℕ) (t : Taken) → TakenBy r (offer pack row) t
    → ((take_number t.answer ≡ 14) ↔ (Reachable r → ⊥))
    × ((take_number t.answer ≡ 17) ↔ (Reachable r × (pack ≡ r.pack → ⊥)))
    × (Reachable r → pack ≡ r.pack → (length row ≡ r.n → ⊥) → (t.answer ≡ Err Length) × (take_number t.answer ≡ 4))
    × (Reachable r → pack ≡ r.pack → length row ≡ r.n → (Row r.q r.n row → ⊥)
    → (t.answer ≡ Err Entry) × (take_number t.answer ≡ 6))
    × (Reachable r → pack ≡ r.pack → Row r.q r.n row → take_number t.answer ≡ 0)
    × ((take_number t.answer ≡ 0 → ⊥) → t.receiver ≡ r))
    -- In a full rack the rows of two packs arrive by turns," (Let two receivers have different packs, each accepted settings of its own,
    -- and let both be given one list of offers, by calls in either form and with any Close among them.)
    × ((s other : Setup) → setup_refusal s ≡ 0 → setup_refusal other ≡ 0 → (s.pack ≡ other.pack → ⊥)
    → (os : List Offer) (cs ds : List Call) → offered cs ≡ os → offered ds ≡ os
    -- (Each accepts the rows that are offered for its own pack and fit, and no others: what one accepts the other refuses with 17.)
    → (accepted (begun s) cs ≡ fitting s os)
    × (accepted (begun other) ds ≡ fitting other os)
    × ((o : Offer) (t u : Taken) → TakenBy (after (begun s) cs) o t → TakenBy (after (begun other) ds) o u
    → (take_number t.answer ≡ 0 → (u.answer ≡ Err Pack) × (take_number u.answer ≡ 17))
    × (take_number u.answer ≡ 0 → (t.answer ≡ Err Pack) × (take_number t.answer ≡ 17)))
    -- "In the promise about mixed rows, a row offered for another pack is one of the refused." (Where the rows that fit are mixed from one
    -- drawn matrix, each closes as demand 3 says, whatever came for the other.)
    × ((t : ℕ) → is_numbering t ≡ true → let D = drawing s.q s.n s.k t in
    (i : ℕ) → i < D.count → (b : List ℕ) → length b ≡ s.k * s.n
    → All (Mixed s.q s.n (rows_of s.n s.k (D.leaves i b))) (fitting s os)
    → Recovery s t i cs)
    × ((t : ℕ) → is_numbering t ≡ true → let D = drawing other.q other.n other.k t in
    (i : ℕ) → i < D.count → (b : List ℕ) → length b ≡ other.k * other.n
    → All (Mixed other.q other.n (rows_of other.n other.k (D.leaves i b))) (fitting other os)
    → Recovery other t i ds)
    -- (So where what is offered is the rows of two drawn matrices, for the two packs, by turns in any way, each receiver closes to its own
    -- index.)
    × ((t u : ℕ) → is_numbering t ≡ true → is_numbering u ≡ true
    → let D = drawing s.q s.n s.k t in
    let E = drawing other.q other.n other.k u in
    (i j : ℕ) → i < D.count → j < E.count → (b c : List ℕ) → length b ≡ s.k * s.n → length c ≡ other.k * other.n
    → Turns (offers s.pack (rows_of s.n s.k (D.leaves i b)))
    (offers other.pack (rows_of other.n other.k (E.leaves j c))) os
    → (close_of (after (begun s) cs) t ≡ Ok (index_in t i, space_of s.n s.k (D.leaves i b)))
    × (close_of (after (begun other) ds) u ≡ Ok (index_in u j, space_of other.n other.k (E.leaves j c)))))
unfolding start_of
order-8 = (
  after-pack,
  λ s z. sym (kept _ _ _ z),
  λ r size pack. (
    (
      λ h. (reachable-exactly-well-formed r size).1
          (sym (formed-any-pack r pack) ∙ (reachable-exactly-well-formed (repacked r pack) size).0 h),
      λ h. (reachable-exactly-well-formed (repacked r pack) size).1 (formed-any-pack r pack ∙ (reachable-exactly-well-formed r size).0 h),
    ),
    closes-alike r pack,
  ),
  λ r size pack row t by.
      let o = offer pack row in
      let number = number_of r size o by in (
        (λ e. (forged-exactly r size o).0 (sym number ∙ e), λ h. number ∙ (forged-exactly r size o).1 h),
        (λ e. (foreign-exactly r size o).0 (sym number ∙ e), λ x. number ∙ (foreign-exactly r size o).1 x),
        λ reached p l.
            named-by r size o by Length (take_long r o (formed r size reached) p l),
        λ reached p l h.
            named-by r size o by Entry (take-large r o (formed r size reached) p l h),
        λ reached p h. number ∙ take_row r o (formed r size reached) p h,
        λ z. (refused-leaves r size o by (λ e. z (number ∙ e))).2,
      ),
  λ s other settings others apart os cs ds given both.
      let x = rack s other settings others apart os cs ds given both in (
        x.0.accepts,
        x.1.accepts,
        x.2,
        x.0.recovers,
        x.1.recovers,
        λ t u known knows i j h g b c l m turns.
            both-recovered s other settings others apart t u known knows i j h g b c l m os turns cs ds given both,
      ),
)
