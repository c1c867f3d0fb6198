-- The room is tested for the whole text, of which the first bytes are then in their places.
use Rattle.std.proofs.Common.{◌≡◌, ◌+◌, ◌∙◌, Bool, ap, ap₂, sym, add-one, arith, leb, length, set, List, ℕ}
use Rattle.std.proofs.Math.Seq.{paste, paste-zero, paste-suc}
use borrow.Author.Tests.{leb-true}
use Rattle.text.specs.Piece.{fits}
use Rattle.text.proofs.Piece.{refused, fitted}
use Rattle.rows_text.specs.Rows.{rows_text}
use Rattle.rows_text.specs.Laws.Rows.{rows_text-length}
use Rattle.rows_text.proofs.append_rows.Goals as goal

-- the test of the room is the one of `fits`
tested : (n k size at : ℕ) (m buffer : List ℕ) (room : Bool) → size ≡ length (rows_text n k m) → room ≡ leb (at + size) (length buffer)
    → fits (length buffer) at (rows_text n k m) ≡ room
tested n k size at m buffer room s e = ap (λ l. leb (at + l) (length buffer)) (sym s) ∙ sym e

pub returns-then-not-has_room : goal.returns-then-not-has_room
returns-then-not-has_room c =
    let r = c.args.rows in
    let size = c.size-size.ensures ∙ sym (rows_text-length r.n r.entries.now r.k) in
    refused c.args.buffer.now c.args.at (rows_text r.n r.k r.entries.now)
    (tested r.n r.k _ c.args.at r.entries.now c.args.buffer.now _ size c.has_room.ensures ∙ c.if-not-has_room.true)

pub loop-place-init : goal.loop-place-init
loop-place-init c =
    let r = c.args.rows in
    paste-zero c.args.buffer.now c.args.at (rows_text r.n r.k r.entries.now)

pub loop-place-preserved : goal.loop-place-preserved
loop-place-preserved c =
    let r = c.args.rows in
    let text = rows_text r.n r.k r.entries.now in
    let size = c.size-size.ensures ∙ sym (rows_text-length r.n r.entries.now r.k) in
    let room = leb-true _ _ (sym c.has_room.ensures ∙ c.if-not-has_room.false) in
    let place = c.loop-place.place in
    ap₂ (λ b x. set b (c.args.at + place) x) c.loop-place.invariant c.byte.ensures
    ∙ rw add-one (paste-suc c.args.buffer.now c.args.at text place 0 (omega arith) (omega arith))

pub returns : goal.returns
returns c =
    let r = c.args.rows in
    let text = rows_text r.n r.k r.entries.now in
    let size = c.size-size.ensures ∙ sym (rows_text-length r.n r.entries.now r.k) in
    let place : c.loop-place.place ≡ c.size-size.result = omega arith in
    let f =
    fitted c.args.buffer.now c.args.at text
    (tested r.n r.k _ c.args.at r.entries.now c.args.buffer.now _ size c.has_room.ensures ∙ c.if-not-has_room.false) in
    (ap (λ x. c.args.at + x) size ∙ f.0, f.1, c.loop-place.invariant ∙ ap (paste c.args.buffer.now c.args.at text) (place ∙ size) ∙ f.2)
