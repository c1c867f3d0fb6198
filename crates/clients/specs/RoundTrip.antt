-- A record that is drawn for C and received from the same bytes.
--   round_trip   == where Draw is not refused and the answer has eleven bytes, Receive of the drawn bytes is done, and leaves the index, k
--                   and the drawn matrix's identifying vector; the index is what the first eight bytes tell
-- Assumes nothing.
use Rattle.std.specs.Prelude.{◌≡◌, List, ℕ, ◌^◌, ◌<◌, length, take, Ok}
use Rattle.std.proofs.Math.Path.{ap}
use Rattle.std.proofs.Common.{◌∙◌}
use Rattle.settings.specs.Laws.Accepted.{not-refused}
use Rattle.matrix.specs.Matrix.{identifying}
use Rattle.numbering.specs.Numbering.{index_in}
use Rattle.numbering.specs.Laws.Either.{typed-value}
use Rattle.draw.specs.Draw.{draw_refusal, draw_buffer}
use Rattle.draw.specs.Laws.DrawAccepted.{draw-accepted}
use Rattle.reduce.specs.Reduce.{space_of}
use Rattle.receive.specs.Answer.{received_number}
use Rattle.pandrwyg.specs.Exported.{answer_size, bytes_of, answer_bytes, left_bytes, exported_of, exported_bytes}
use Rattle.promise_recovery.specs.Demand.{little_endian}
use Rattle.promise_recovery.proofs.Promises.{receive-agrees}
use Rattle.promise_recovery.proofs.Laws.Whole.{drawn-bytes-received}
use Rattle.promise_recovery.proofs.Laws.LittleEndian.{little_endian_lem}

module _ (q n k t i : ℕ) (b : List ℕ) (drawn : draw_refusal q n k t i (length b) ≡ 0) where
  abbrev left : List ℕ
  left = draw_buffer q n k t i b

  received : exported_of q n k t k left answer_size ≡ Ok (index_in t i, space_of n k left)
  received =
      let a = draw-accepted q n k t i (length b) drawn in
      receive-agrees q n k t k left
      ∙ drawn-bytes-received q n k t (not-refused q n k a.choice.settings) a.choice.known i a.inside b a.sized

  bytes : (answer : List ℕ) → length answer ≡ answer_size → exported_bytes q n k t k left answer ≡ answer_bytes i k (identifying n k left)
  unfolding exported_bytes
  bytes answer l =
      ap (λ size. left_bytes answer (exported_of q n k t k left size)) l
      ∙ ap (left_bytes answer) received
      ∙ ap (λ x. answer_bytes x k (identifying n k left)) (typed-value t i)

  pub round_trip : (answer : List ℕ) → length answer ≡ 11 → i < 2 ^ 64
      → (received_number (exported_of q n k t k left (length answer)) ≡ 0)
      × (exported_bytes q n k t k left answer ≡ answer_bytes i k (identifying n k left))
      × (little_endian (take 8 (exported_bytes q n k t k left answer)) ≡ i)
  unfolding bytes_of
  round_trip answer l small = (
    ap (λ size. received_number (exported_of q n k t k left size)) l ∙ ap received_number received,
    bytes answer l,
    ap (λ x. little_endian (take 8 x)) (bytes answer l) ∙ little_endian_lem 8 i small,
  )
