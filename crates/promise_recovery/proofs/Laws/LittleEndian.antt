-- The bytes of a number, least first, tell the number; no part of the meaning.
--   little_endian_lem   == the bytes of x tell x, where it fits
--   read-bytes      == what C reads of the bytes that are written
-- Assumes nothing.
use Rattle.std.specs.Prelude.{◌≡◌, ℕ, zero, suc, ◌+◌, ◌*◌, ◌^◌, ◌/◌, ◌%◌, ◌<◌}
use Rattle.std.proofs.Common.{ap, ap₂, ◌∙◌, div-add-mod', arith}
use Rattle.std.proofs.Math.Nat.{pow-succ'}
use Rattle.pandrwyg.specs.Exported.{bytes_of, answer_bytes}
use Rattle.promise_recovery.specs.Demand.{little_endian, read}

pub little_endian_lem : (size x : ℕ) → x < 256 ^ size → little_endian (bytes_of size x) ≡ x
unfolding little_endian bytes_of
little_endian_lem zero x h = omega arith
little_endian_lem (suc size) x h =
    let small : x / 256 < 256 ^ size = omega (arith, pow-succ' 256 size) in
    ap (λ y. x % 256 + 256 * y) (little_endian_lem size (x / 256) small) ∙ omega (arith, div-add-mod' x 256)

pub read-bytes : (number i d v : ℕ) → i < 2 ^ 64 → v < 2 ^ 16
    → read number (answer_bytes i d v) ≡ record { number = number; index = i; dimension = d; vector = v }
unfolding bytes_of
read-bytes number i d v h g =
    ap₂ (λ x y. record { number = number; index = x; dimension = d; vector = y }) (little_endian_lem 8 i h) (little_endian_lem 2 v g)
