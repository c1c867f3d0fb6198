-- A list that is laid out in parts of one size.
--   part-next   == what begins at a place after the first begins at the place before it, without the first part
--   part_length == a part has its size
--   parts_same  == two such lists are the same where all of their parts are
-- Assumes nothing.
use Rattle.std.specs.Prelude.{◌≡◌, List, ◌++◌, ℕ, zero, suc, ◌+◌, ◌*◌, ◌<◌, length, take, drop}
use Rattle.std.proofs.Common.{ap, ap₂, sym, ◌∙◌, zero-mul, arith, length-drop, take-append-drop, drop-drop, take_all, length-take-le}
use Rattle.basics.specs.Laws.Flat.{row_fits}

pub part-next : (size : ℕ) (l : List ℕ) (place : ℕ) → drop (place * size) (drop size l) ≡ drop (suc place * size) l
part-next size l place =
    let e : size + place * size ≡ suc place * size = omega arith in
    drop-drop (place * size) size l ∙ ap (λ x. drop x l) e

pub part_length : (size count place : ℕ) (l : List ℕ) → length l ≡ count * size → place < count
    → length (take size (drop (place * size) l)) ≡ size
part_length size count place l e h =
    length-take-le size (drop (place * size) l) (omega (arith, length-drop (place * size) l, e, row_fits place count size h))

pub parts_same : (size count : ℕ) (a b : List ℕ) → length a ≡ count * size → length b ≡ count * size
    → ((place : ℕ) → place < count → take size (drop (place * size) a) ≡ take size (drop (place * size) b)) → a ≡ b
parts_same size zero a b la lb same = sym (take_all 0 a (omega (arith, la))) ∙ take_all 0 b (omega (arith, lb))
parts_same size (suc count) a b la lb same =
    let first : take size a ≡ take size b = ap (λ x. take size (drop x a)) (sym (zero-mul size)) ∙ same 0 (omega arith)
    ∙ ap (λ x. take size (drop x b)) (zero-mul size) in
    let rest : drop size a ≡ drop size b =
    parts_same size count (drop size a) (drop size b) (length-drop size a ∙ omega arith) (length-drop size b ∙ omega arith)
    (λ place h. ap (take size) (part-next size a place) ∙ same (suc place) (omega arith) ∙ ap (take size) (sym (part-next size b place))) in
    sym (take-append-drop size a) ∙ ap₂ ◌++◌ first rest ∙ take-append-drop size b
