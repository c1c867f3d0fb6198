-- Order 9 once more, as one flat statement under the order's words.
--   order-9      == "Take two receivers started with the same settings and pack, .."
-- Assumes nothing.
use Rattle.std.specs.Prelude.{◌≡◌, false, List, ◌∷◌, ◌++◌, ◌↔◌, ℕ, length}
use Rattle.settings.specs.Settings.{settings_refusal}
use Rattle.linear.specs.Span.{Among, SameSpan}
use Rattle.receiver.specs.Receiver.{Setup, Offer, setup, setup_refusal, held_rows, is_zero, take_of, take_raised}
use Rattle.receiver.specs.declared.Receiver.{Receiver}
use Rattle.promise_recovery.specs.Calls.{Call, take_value, take_lent, begun, after, accepted, Reachable}
use Rattle.promise_recovery.proofs.Laws.Reachable.{reachable-size, after-reachable}
use Rattle.promise_pool.specs.Pooling.{SameSetup, pooled_after}
use Rattle.promise_trace.specs.Trace.{SameFields}
use Rattle.promise_trace.proofs.Equal.{equal-exactly}
use Rattle.promise_trace.proofs.Fields.{fields-equal}
use Rattle.promise_trace.proofs.Theorem.{no-trace, unraised-anywhere, any-two, held-exactly}
use Rattle.promise_trace.proofs.Theorem.{pooled-exactly, pooled-no-trace, pooled-either-way}

pub order-9 :
    -- (Two receivers are equal exactly when they are equal in every field.)
    ((a b : Receiver) → (a ≡ b) ↔ SameFields a b)
    -- "Take two receivers started with the same settings and pack, and two sequences of offered rows. (Settings are accepted, and the pack
    -- is any. A sequence is a list of calls: Take, in either form, and Close.)
    × ((q n k pack : ℕ) → settings_refusal q n k ≡ 0 → (cs ds : List Call)
    → let s = setup q n k pack in
    let a = after (begun s) cs in
    let b = after (begun s) ds in
    let us = accepted (begun s) cs in
    let vs = accepted (begun s) ds in
    -- If each row accepted in either sequence is also accepted in the other, however often and at whatever place, (zero rows excepted,)
    (((row : List ℕ) → Among row us → is_zero row ≡ false → Among row vs)
    → ((row : List ℕ) → Among row vs → is_zero row ≡ false → Among row us)
    -- both end equal in every field.
    → SameFields a b)
    -- More strongly, they are equal exactly when the accepted rows span the same space.
    × ((a ≡ b) ↔ SameSpan q n us vs)
    -- Refused and idle rows are allowed anywhere." (A row that does not raise the dimension where it is put in, so a row that is refused
    -- there, or idle, leaves no trace, by either Take.)
    × ((o : Offer) → take_raised (take_of a o).answer ≡ false
    → (after (begun s) (cs ++ (take_value o ∷ ds)) ≡ after (begun s) (cs ++ ds))
    × (after (begun s) (cs ++ (take_lent o ∷ ds)) ≡ after (begun s) (cs ++ ds)))
    -- (The entries are 256.)
    × (length a.entries ≡ 256)
    -- (Pooling leaves no trace either. What it hands back, the same either way round, is what the calls of a third list leave exactly when
    -- they accept rows with the span of the rows of both,
    × ((pooled_after s cs ds).receiver ≡ (pooled_after s ds cs).receiver)
    × ((es : List Call)
    → let ws = accepted (begun s) es in
    (((pooled_after s cs ds).receiver ≡ after (begun s) es) ↔ SameSpan q n (us ++ vs) ws)
    -- and so where they accept just the rows of both, but for zero rows, in whatever sequence.)
    × (((row : List ℕ) → Among row (us ++ vs) → is_zero row ≡ false → Among row ws)
    → ((row : List ℕ) → Among row ws → is_zero row ≡ false → Among row (us ++ vs))
    → (pooled_after s cs ds).receiver ≡ after (begun s) es)))
    -- (Whatever two receivers are compared, equal means the same space of the same pack: of two lists, each from a Start of its own with
    -- accepted settings,
    × ((s other : Setup) → setup_refusal s ≡ 0 → setup_refusal other ≡ 0 → (cs ds : List Call)
    → (after (begun s) cs ≡ after (begun other) ds)
    ↔ ((s.q ≡ other.q)
    × (s.n ≡ other.n)
    × (s.k ≡ other.k)
    × (s.pack ≡ other.pack)
    × SameSpan s.q s.n (accepted (begun s) cs) (accepted (begun other) ds)))
    -- and of any two receivers that Start and Take can leave, pooled ones too, by the rows that they hold.)
    × ((a b : Receiver) → Reachable a → Reachable b
    → (a ≡ b) ↔ (SameSetup a b × SameSpan a.q a.n (held_rows a) (held_rows b)))
order-9 = (
  fields-equal,
  λ q n k pack settings cs ds.
      let s = setup q n k pack in (
        λ there back. (fields-equal (after (begun s) cs) (after (begun s) ds)).0 (no-trace s settings cs ds there back),
        equal-exactly s settings cs ds,
        unraised-anywhere s settings cs ds,
        reachable-size (after-reachable s settings cs),
        pooled-either-way s settings cs ds,
        λ es. (pooled-exactly s settings cs ds es, pooled-no-trace s settings cs ds es),
      ),
  any-two,
  held-exactly,
)
