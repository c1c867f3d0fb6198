-- Lists of one element over and over.
--   drop-replicate == without its first j elements such a list has j fewer
--   take-replicate == its first j elements
--   zeros-lent, zeros-behind == the first bytes of an array of zeros, as they are lent; and the zeros behind what is then in them
-- Assumes nothing.
use Rattle.std.specs.Prelude.{◌≡◌, List, ◌++◌, ℕ, zero, suc, ◌+◌, ◌-◌, ◌≤◌, length, take, drop, replicate}
use Rattle.std.proofs.Common.{ap, sym, ◌∙◌, arith, length-append, length-drop, take_at}
use Rattle.std.proofs.Math.Nat.{sub-zero, zero-sub, suc-sub-suc}
use Rattle.std.proofs.lemmas.List.{length-replicate, replicate-append-replicate}

pub drop-replicate : {A : Type 0} (j k : ℕ) (a : A) → drop j (replicate k a) ≡ replicate (k - j) a
drop-replicate zero k a = ap (λ x. replicate x a) (sym (sub-zero k))
drop-replicate (suc j) zero a = ap (λ x. replicate x a) (sym (zero-sub (suc j)))
drop-replicate (suc j) (suc k) a = drop-replicate j k a ∙ ap (λ x. replicate x a) (sym (suc-sub-suc k j))

pub take-replicate : {A : Type 0} (j k : ℕ) (a : A) → j ≤ k → take j (replicate k a) ≡ replicate j a
take-replicate j k a h =
    let e : j + (k - j) ≡ k = omega arith in
    ap (λ x. take j (replicate x a)) (sym e) ∙ ap (take j) (sym (replicate-append-replicate j (k - j) a))
    ∙ take_at (replicate j a) (replicate (k - j) a) j (length-replicate j a)

module _ (size room : ℕ) (fits : size ≤ room) where
  pub zeros-lent : length (take size (replicate {A = ℕ} room 0)) ≡ size
  zeros-lent = ap length (take-replicate {A = ℕ} size room 0 fits) ∙ length-replicate size 0

  pub zeros-behind : (l : List ℕ) → length l ≡ size → length (l ++ drop size (replicate {A = ℕ} room 0)) ≡ room
  zeros-behind l e =
      length-append l (drop size (replicate room 0))
      ∙ omega (arith, length-drop size (replicate {A = ℕ} room 0), length-replicate {A = ℕ} room 0)
