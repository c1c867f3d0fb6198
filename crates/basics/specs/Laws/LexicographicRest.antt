-- The order of sequences by their first place.
--   lex-first == what comes before a sequence has no larger first place
--   lex-rest  == two sequences that agree at the first place are in the order of the rest
-- Assumes nothing.
use Rattle.std.specs.Prelude.{◌≡◌, ◌⊎◌, ℕ, suc, pred, ◌<◌, ◌≤◌}
use Rattle.std.proofs.Common.{sym, subst, inl, inr, le_of_eq, le_of_lt, eq-zero-or-pos, arith}
use Rattle.std.proofs.Math.Nat.{suc-pred-eq_of_pos}
use Rattle.basics.specs.Sum.{Lex}

pub lex-first : (n : ℕ) (f g : ℕ → ℕ) → Lex n f g → f 0 ≤ g 0
lex-first n f g l = cases (eq-zero-or-pos l.at)
  where
    cases : (l.at ≡ 0) ⊎ (0 < l.at) → f 0 ≤ g 0
    cases (inl e) = le_of_lt (subst (λ i. f i < g i) e l.less)
    cases (inr b) = le_of_eq (l.same 0 b)

pub lex-rest : (n : ℕ) (f g : ℕ → ℕ) → f 0 ≡ g 0 → Lex (suc n) f g → Lex n (λ i. f (suc i)) (λ i. g (suc i))
lex-rest n f g h l = cases (eq-zero-or-pos l.at)
  where
    cases : (l.at ≡ 0) ⊎ (0 < l.at) → Lex n (λ i. f (suc i)) (λ i. g (suc i))
    cases (inl e) = let b : f 0 < g 0 = subst (λ i. f i < g i) e l.less in absurd (omega arith)
    cases (inr b) =
        let e : suc (pred l.at) ≡ l.at = suc-pred-eq_of_pos b in
        record {
          at = pred l.at;
          within = omega (arith, l.within);
          same = λ i c. l.same (suc i) (omega arith);
          less = subst (λ i. f i < g i) (sym e) l.less;
        }
