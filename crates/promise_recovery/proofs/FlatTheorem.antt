-- Demand 3 once more, as one flat statement: quantifiers, implications and pairs, under the user's words. It follows from `Demand` by its
-- fields alone, and uses each of them; a reader may believe either.
--   demand-3-flat == "Suppose settings are accepted and have N spaces. Then, in either numbering, .."
-- Assumes nothing.
use Rattle.std.specs.Prelude.{◌≡◌, refl, true, List, ◌↔◌, ℕ, ◌*◌, ◌<◌, ◌≤◌, length, Ok}
use Rattle.counts.specs.Gaussian.{gaussian}
use Rattle.settings.specs.Settings.{settings_refusal}
use Rattle.matrix.specs.Matrix.{Reduced}
use Rattle.linear.specs.Span.{All, Mixed, rows_of, HasDimension, HasVector}
use Rattle.linear.specs.Eliminate.{join}
use Rattle.numbering.specs.Numbering.{is_numbering, index_in}
use Rattle.drawing.specs.Drawing.{drawing}
use Rattle.receive.specs.Receive.{receive_of}
use Rattle.receiver.specs.Receiver.{setup, close_of}
use Rattle.pandrwyg.specs.Exported.{answer_size, answer_bytes, exported_number, exported_bytes}
use Rattle.promise_recovery.specs.Calls.{Call, begun, after, accepted, offered, fitting, Unforged}
use Rattle.promise_recovery.specs.Demand.{Demand}
use Rattle.promise_recovery.proofs.Theorem.{demand-3}
use Rattle.promise_recovery.specs.Flat.{tells, tells_space, reads, reads_space}

pub demand-3-flat :
    -- "Suppose settings are accepted and have N spaces. Then, in either numbering,
    (q n k t : ℕ) → settings_refusal q n k ≡ 0 → is_numbering t ≡ true
    → let D = drawing q n k t in
    -- drawing 0 to N-1 lists
    (D.count ≡ gaussian q n k)
    × ((i : ℕ) → i < D.count → (b : List ℕ) → length b ≡ k * n
    → (D.refusal i (length b) ≡ 0) × Reduced q n k (D.leaves i b))
    -- every reduced k-by-n matrix
    × ((m : List ℕ) → Reduced q n k m
    → (i : ℕ) × (i < D.count) × ((b : List ℕ) → length b ≡ k * n → D.leaves i b ≡ m))
    -- exactly once,
    × ((i j : ℕ) → i < D.count → j < D.count → (a b : List ℕ) → length a ≡ k * n → length b ≡ k * n
    → D.leaves i a ≡ D.leaves j b → i ≡ j)
    -- strictly rising in that numbering's order, the order told by comparing matrices alone.
    × ((i j : ℕ) → i < j → j < D.count → (a b : List ℕ) → length a ≡ k * n → length b ≡ k * n
    → D.order (D.leaves i a) (D.leaves j b))
    -- (No call of a list is refused 14, and a row is accepted exactly when it is offered for the receiver's pack, whichever that is, and is
    -- n bytes, each below q, mixture or not.)
    × ((pack : ℕ) → let s = setup q n k pack in
    (cs : List Call) → Unforged (begun s) cs × (accepted (begun s) cs ≡ fitting s (offered cs)))
    -- Draw any one of them,
    × ((i : ℕ) → i < D.count → (b : List ℕ) → length b ≡ k * n
    -- and let rows be mixed from its rows over the field, in whatever way and sequence. Then for every list of Take and Close calls on one
    -- receiver, refused ones included, from a fresh Start with these settings, (and any pack,) in which every row accepted is such a
    -- mixture:
    → ((pack : ℕ) → let s = setup q n k pack in
    (cs : List Call) → All (Mixed q n (rows_of n k (D.leaves i b))) (accepted (begun s) cs)
    -- (the accepted rows have a dimension, at most k, and an identifying vector;)
    → ((d v : ℕ) × HasVector q n (accepted (begun s) cs) d v)
    × ((d : ℕ) → HasDimension q n (accepted (begun s) cs) d → d ≤ k)
    -- closing after it, in the draw's numbering, gives back the drawn index, unrefused, exactly when the accepted rows span k dimensions;
    × (tells (close_of (after (begun s) cs) t) 0 i ↔ HasDimension q n (accepted (begun s) cs) k)
    × ((v : ℕ) → HasVector q n (accepted (begun s) cs) k v
    → close_of (after (begun s) cs) t ≡ Ok (index_in t i, record { dimension = k; vector = v }))
    -- if fewer, it refuses with 8
    × ((d : ℕ) → HasDimension q n (accepted (begun s) cs) d → d < k → tells (close_of (after (begun s) cs) t) 8 0)
    -- and their true dimension. (It tells the true dimension either way, and with it the true identifying vector.)
    × ((d v : ℕ) → HasVector q n (accepted (begun s) cs) d v → tells_space (close_of (after (begun s) cs) t) d v))
    -- Receive, given none to 64 such rows in one call, in that numbering,
    × ((rows : List (List ℕ)) → length rows ≤ 64 → All (Mixed q n (rows_of n k (D.leaves i b))) rows
    -- answers alike for them."
    → ((d v : ℕ) × HasVector q n rows d v)
    × ((d : ℕ) → HasDimension q n rows d → d ≤ k)
    × (tells (receive_of q n k t (length rows) (join rows)) 0 i ↔ HasDimension q n rows k)
    × ((v : ℕ) → HasVector q n rows k v
    → receive_of q n k t (length rows) (join rows) ≡ Ok (index_in t i, record { dimension = k; vector = v }))
    × ((d : ℕ) → HasDimension q n rows d → d < k → tells (receive_of q n k t (length rows) (join rows)) 8 0)
    × ((d v : ℕ) → HasVector q n rows d v → tells_space (receive_of q n k t (length rows) (join rows)) d v)
    -- (And so do the number that its C form returns and the bytes that it leaves.)
    × ((a : List ℕ) → length a ≡ answer_size
    → (reads (exported_number q n k t (length rows) (join rows) answer_size) (exported_bytes q n k t (length rows) (join rows) a) 0 i
    ↔ HasDimension q n rows k)
    × ((v : ℕ) → HasVector q n rows k v → exported_bytes q n k t (length rows) (join rows) a ≡ answer_bytes i k v)
    × ((d : ℕ) → HasDimension q n rows d → d < k
    → reads (exported_number q n k t (length rows) (join rows) answer_size) (exported_bytes q n k t (length rows) (join rows) a) 8 0)
    × ((d v : ℕ) → HasVector q n rows d v → d < k → exported_bytes q n k t (length rows) (join rows) a ≡ answer_bytes 0 d v)
    × ((d v : ℕ) → HasVector q n rows d v → reads_space (exported_bytes q n k t (length rows) (join rows) a) d v))))
demand-3-flat q n k t settings known =
    let D : (pack : ℕ) → Demand (setup q n k pack) t (drawing q n k t) = λ pack. demand-3 (setup q n k pack) t settings known in
    let L = (D 0).listing in (
      refl,
      λ i h b l. (L.unrefused i h b l, L.reduced i h b l),
      L.every,
      L.once,
      L.rising,
      λ pack cs. ((D pack).unforged cs, (D pack).fits cs),
      λ i h b l. (
        λ pack cs mixed.
            let R = (D pack).recovery i h b l cs mixed in
            (R.answers.some, R.answers.never-more, R.answers.whole, R.typed, R.answers.fewer, R.answers.space),
        λ rows few mixed.
            let R = (D 0).reception i h b l rows few mixed in (
              R.answers.some,
              R.answers.never-more,
              R.answers.whole,
              R.typed,
              R.answers.fewer,
              R.answers.space,
              λ a sized. (
                (R.exported a sized).whole,
                R.whole-bytes a sized,
                (R.exported a sized).fewer,
                R.fewer_bytes a sized,
                (R.exported a sized).space,
              ),
            ),
      ),
    )
