-- The bytes of a lent answer, as they are written; no part of the meaning.
--   eight-bytes, two-bytes == std's bytes of a number, least first, are those of a lent answer
--   Writing index now rest i == i bytes of the index are written to `now`, and `rest` is what is left of it
--   writing_start, -more, -end == none is; one more is; all are, and the dimension and the vector are put after them
--   written-answer         == the answer with the index, the dimension and the vector written to it
-- Assumes nothing.
use Rattle.std.specs.Prelude.{◌≡◌, refl, List, [], ◌∷◌, ◌++◌, ℕ, zero, suc, ◌+◌, ◌-◌, ◌/◌, ◌%◌, ◌<◌, ◌≤◌, length, take, drop, set}
use Rattle.std.specs.Int.{w16, w64, to_le_bytes}
use Rattle.std.proofs.Common.{ap, ◌∙◌, sym, append-nil, append_assoc, arith, length-set, length-drop}
use Rattle.std.proofs.Math.Path.{ap₂}
use Rattle.std.proofs.Math.Seq.{paste, take-length}
use Rattle.std.proofs.lemmas.List.Edits.{paste_all}
use Rattle.pandrwyg.specs.Exported.{answer_size, bytes_of, answer_bytes}

pub eight-bytes : (x : ℕ) → to_le_bytes w64 x ≡ bytes_of 8 x
unfolding bytes_of
eight-bytes x =
    let two : x / 256 / 256 ≡ x / 65536 = omega arith in
    let three : x / 65536 / 256 ≡ x / 16777216 = omega arith in
    let four : x / 16777216 / 256 ≡ x / 4294967296 = omega arith in
    let five : x / 4294967296 / 256 ≡ x / 1099511627776 = omega arith in
    let six : x / 1099511627776 / 256 ≡ x / 281474976710656 = omega arith in
    let seven : x / 281474976710656 / 256 ≡ x / 72057594037927936 = omega arith in
    rw (two, three, four, five, six, seven) refl

pub two-bytes : (x : ℕ) → to_le_bytes w16 x ≡ bytes_of 2 x
unfolding bytes_of
two-bytes x = refl

-- eight bytes are before the three that are left
three : (rest : List ℕ) (i d v : ℕ) → length rest ≡ 3 → let here = set (bytes_of 8 i ++ rest) 8 d in
    take 9 here ++ (bytes_of 2 v ++ drop 11 here) ≡ answer_bytes i d v
unfolding bytes_of
three [] i d v e = absurd (omega (arith, e))
three (x ∷ []) i d v e = absurd (omega (arith, e))
three (x ∷ y ∷ []) i d v e = absurd (omega (arith, e))
three (x ∷ y ∷ z ∷ []) i d v e = refl
three (x ∷ y ∷ z ∷ w ∷ rest) i d v e = absurd (omega (arith, e))

pub written-answer : (answer index vector with last : List ℕ) (i d v : ℕ) → length answer ≡ answer_size
    → index ≡ bytes_of 8 i → vector ≡ bytes_of 2 v → with ≡ paste answer 0 index (length index)
    → last ≡ paste (set with 8 d) 9 vector (length vector) → last ≡ answer_bytes i d v
unfolding bytes_of
written-answer answer index vector with last i d v sized e f g h =
    let front = g ∙ ap (λ x. paste answer 0 x (length x)) e ∙ paste_all answer 0 (bytes_of 8 i) 8 refl in
    let whole = h ∙ ap₂ (λ x y. paste (set x 8 d) 9 y (length y)) front f ∙ paste_all (set (bytes_of 8 i ++ drop 8 answer) 8 d) 9 (bytes_of 2 v) 2 refl in
    whole ∙ three (drop 8 answer) i d v (omega (arith, length-drop 8 answer, sized))

take-set : (l : List ℕ) (i v : ℕ) → i < length l → take (suc i) (set l i v) ≡ take i l ++ (v ∷ [])
take-set [] i v h = elim h [ ]
take-set (x ∷ l) zero v h = refl
take-set (x ∷ l) (suc i) v h = ap (λ t. x ∷ t) (take-set l i v (omega arith))

set_last : (l : List ℕ) (i v : ℕ) → length l ≡ suc i → set l i v ≡ take i l ++ (v ∷ [])
set_last l i v e =
    sym (ap (λ x. take x (set l i v)) (sym (length-set l i v ∙ e)) ∙ take-length (set l i v)) ∙ take-set l i v (omega (arith, e))

pub record Writing (index : ℕ) (now : List ℕ) (rest i : ℕ) : Type 0 where
  pub within : i ≤ 8
  pub sized : length now ≡ answer_size
  pub bytes : take i now ++ bytes_of (8 - i) rest ≡ bytes_of 8 index

pub writing_start : (index : ℕ) (now : List ℕ) → length now ≡ answer_size → Writing index now index 0
writing_start index now e = record { within = omega arith; sized = e; bytes = refl }

pub writing_more : (index : ℕ) (now : List ℕ) (rest i : ℕ) → i < 8 → Writing index now rest i
    → Writing index (set now i (rest % 256)) (rest / 256) (i + 1)
unfolding bytes_of
writing_more index now rest i h w =
    let byte = rest % 256 in
    let e : 8 - i ≡ suc (8 - (i + 1)) = omega arith in
    let s : i + 1 ≡ suc i = omega arith in
    record {
      within = omega arith;
      sized = length-set now i byte ∙ w.sized;
      bytes =
          ap (λ t. t ++ bytes_of (8 - (i + 1)) (rest / 256))
          (ap (λ x. take x (set now i byte)) s ∙ take-set now i byte (omega (arith, w.sized)))
          ∙ append_assoc (take i now) (byte ∷ []) (bytes_of (8 - (i + 1)) (rest / 256))
          ∙ ap (λ x. take i now ++ bytes_of x rest) (sym e)
          ∙ w.bytes;
    }

-- three bytes more, at the end
set-three : (now : List ℕ) (d v w : ℕ) → length now ≡ answer_size → set (set (set now 8 d) 9 v) 10 w ≡ take 8 now ++ (d ∷ v ∷ w ∷ [])
set-three now d v w e =
    let one = set now 8 d in
    let two = set one 9 v in
    set_last two 10 w (length-set one 9 v ∙ length-set now 8 d ∙ e)
    ∙ ap (λ x. x ++ (w ∷ []))
    (take-set one 9 v (omega (arith, length-set now 8 d)) ∙ ap (λ x. x ++ (v ∷ [])) (take-set now 8 d (omega arith)))
    ∙ append_assoc (take 8 now ++ (d ∷ [])) (v ∷ []) (w ∷ [])
    ∙ append_assoc (take 8 now) (d ∷ []) (v ∷ w ∷ [])

pub writing-end : (index : ℕ) (now : List ℕ) (rest d v : ℕ) → Writing index now rest 8
    → set (set (set now 8 d) 9 (v % 256)) 10 (v / 256 % 256) ≡ answer_bytes index d v
unfolding bytes_of
writing-end index now rest d v w =
    set-three now d (v % 256) (v / 256 % 256) w.sized
    ∙ ap (λ t. t ++ (d ∷ v % 256 ∷ v / 256 % 256 ∷ [])) (sym (append-nil (take 8 now)) ∙ w.bytes)
