-- The order of sequences by the least place where they differ.
--   lex-irreflexive == no sequence comes before itself
--   lex-transitive  == what comes before a sequence comes before all that come after it
--   lex-total       == of two sequences one comes before the other, or they agree at all n places
-- Assumes nothing.
use Rattle.std.specs.Prelude.{◌≡◌, ◌⊎◌, ℕ, zero, suc, ◌<◌}
use Rattle.std.proofs.Common.{◌∙◌, sym, subst, inl, inr, le_refl, lt_trans, lt_irrefl, not-suc-le-zero, eq-or-lt_of_le, le_of_suc-le-suc, arith}
use Rattle.basics.specs.Laws.Order.{trichotomy}
use Rattle.basics.specs.Sum.{Lex}

pub lex-irreflexive : (n : ℕ) (f : ℕ → ℕ) → Lex n f f → ⊥
lex-irreflexive n f l = lt_irrefl (f l.at) l.less

pub lex-transitive : (n : ℕ) (f g h : ℕ → ℕ) → Lex n f g → Lex n g h → Lex n f h
lex-transitive n f g h l r = cases (trichotomy l.at r.at)
  where
    cases : (l.at < r.at) ⊎ ((l.at ≡ r.at) ⊎ (r.at < l.at)) → Lex n f h
    cases (inl b) =
        record {
          at = l.at;
          within = l.within;
          same = λ i b'. l.same i b' ∙ r.same i (omega arith);
          less = subst (λ x. f l.at < x) (r.same l.at b) l.less;
        }
    cases (inr (inl e)) =
        record {
          at = l.at;
          within = l.within;
          same = λ i b'. l.same i b' ∙ r.same i (omega arith);
          less = lt_trans l.less (subst (λ p. g p < h p) (sym e) r.less);
        }
    cases (inr (inr b)) =
        record {
          at = r.at;
          within = r.within;
          same = λ i b'. l.same i (omega arith) ∙ r.same i b';
          less = subst (λ x. x < h r.at) (sym (l.same r.at b)) r.less;
        }

lex-longer : (n : ℕ) (f g : ℕ → ℕ) → Lex n f g → Lex (suc n) f g
lex-longer n f g l = record { at = l.at; within = omega arith; same = l.same; less = l.less }

lex-last : (n : ℕ) (f g : ℕ → ℕ) → ((i : ℕ) → i < n → f i ≡ g i) → f n < g n → Lex (suc n) f g
lex-last n f g e b = record { at = n; within = le_refl (suc n); same = e; less = b }

pub lex-total : (n : ℕ) (f g : ℕ → ℕ) → Lex n f g ⊎ (((i : ℕ) → i < n → f i ≡ g i) ⊎ Lex n g f)
lex-total zero f g = inr (inl (λ i b. absurd (not-suc-le-zero b)))
lex-total (suc n) f g = cases (lex-total n f g) (trichotomy (f n) (g n))
  where
    both : ((i : ℕ) → i < n → f i ≡ g i) → f n ≡ g n → (i : ℕ) → (i ≡ n) ⊎ (i < n) → f i ≡ g i
    both e d i (inl s) = subst (λ x. f x ≡ g x) (sym s) d
    both e d i (inr b) = e i b

    cases : Lex n f g ⊎ (((i : ℕ) → i < n → f i ≡ g i) ⊎ Lex n g f) → (f n < g n) ⊎ ((f n ≡ g n) ⊎ (g n < f n))
        → Lex (suc n) f g ⊎ (((i : ℕ) → i < suc n → f i ≡ g i) ⊎ Lex (suc n) g f)
    cases (inl l) t = inl (lex-longer n f g l)
    cases (inr (inr l)) t = inr (inr (lex-longer n g f l))
    cases (inr (inl e)) (inl b) = inl (lex-last n f g e b)
    cases (inr (inl e)) (inr (inl d)) = inr (inl (λ i b. both e d i (eq-or-lt_of_le (le_of_suc-le-suc b))))
    cases (inr (inl e)) (inr (inr b)) = inr (inr (lex-last n g f (λ i l. sym (e i l)) b))
