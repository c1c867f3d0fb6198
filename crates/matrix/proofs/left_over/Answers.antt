-- x and `others` times q differ by what is left over, and so do their low bytes, but for multiples of 256.
use Rattle.std.proofs.Common.{◌≡◌, ℕ, ◌+◌, ◌*◌, ◌-◌, ◌/◌, ◌%◌, ◌<◌, ◌≤◌, ap, ◌∙◌, sym, mod-lt, div-add-mod', mul-le-mul_right, arith}
use Rattle.matrix.proofs.left_over.Goals as goal

-- the low byte of `others`, q times
low-times : (q others : ℕ) → 0 < q → others % 256 * q ≤ 256 * q - q
low-times q others positive = omega (arith, mul-le-mul_right {m = others % 256} {n = 255} q (omega arith))

low_digit : (q x others : ℕ) → 0 < q → q ≤ 8 → others ≡ x / q → (x % 256 + 256 * q - others % 256 * q) % 256 ≡ x % q
low_digit q x others positive small e =
    let whole : others * q + x % q ≡ x = ap (λ o. o * q + x % q) e ∙ div-add-mod' x q in
    let less : x % q < q = mod-lt x positive in
    let split : others * q ≡ others / 256 * q * 256 + others % 256 * q = omega (arith, ap (λ o. o * q) (sym (div-add-mod' others 256))) in
    omega (arith, whole, less, split, low-times q others positive)

pub returns : goal.returns
returns c = low_digit _ _ _ c.requires.0 c.requires.1 c.requires.2
