-- A receiver and the rows that it holds; no part of the meaning.
--   held_kept       == the rows of a Sound receiver are rows, reduced when joined
--   held-again      == a Sound receiver is the one that holds its rows
--   holding-size, holding-used, holding-rows, holding-sound == what the receiver that holds some rows has, and that it is Sound
--   holding-span    == the rows that it then holds span what those rows do
--   holding-exactly == two lists of rows are held alike exactly where they have the same span
--   holding-held    == a row more, in the span of the others, makes no other receiver
--   holding-none    == the receiver that holds no rows is empty
-- Assumes nothing.
use Rattle.std.specs.Prelude.{◌≡◌, refl, ◌↔◌, ℕ, ◌+◌, ◌*◌, ◌-◌, ◌≤◌, ◌<◌, replicate}
use Rattle.std.proofs.Math.Path.{ap, ap₂, subst}
use Rattle.std.proofs.Common.{sym, ◌∙◌, subst₂, arith, length-drop, take-append-drop, get_or-drop, ext_get_or}
use mathlib.Core.List.{List, [], ◌∷◌, ◌++◌}
use Rattle.std.proofs.Math.ListN.{length, get_or, drop, length-append, length-replicate, get_or-replicate}
use Rattle.std.proofs.Math.Seq.{take_at, get_or-append-add}
use Rattle.field.specs.FieldLaws.{Laws}
use Rattle.field.specs.Laws.Decide.{laws}
use Rattle.settings.specs.Settings.{settings_refusal}
use Rattle.settings.specs.Laws.Accepted.{accepted}
use Rattle.matrix.specs.Matrix.{Reduced}
use Rattle.linear.specs.Span.{All, Row, InSpan, SameSpan, rows_of}
use Rattle.linear.specs.Eliminate.{join, insert_rows, reduced_rows, reduced_of, dimension}
use Rattle.linear.specs.Laws.FlatMatrix.{rows-length, join-rows}
use Rattle.linear.specs.Laws.FlatRows.{rows-joined, join-taken}
use Rattle.linear.specs.Laws.InsertMany.{Kept}
use Rattle.linear.specs.Laws.OneMore.{reduced_rows-held}
use Rattle.linear.specs.Laws.ReducedOf.{reduced_rows-kept, reduced_rows-span, reduced_of-reduced, dimension-le}
use Rattle.linear.specs.Laws.ReducedRows.{reduced-rows, rows-sized}
use Rattle.linear.specs.Laws.SameMatrix.{matrix-same, reduced_rows-again}
use Rattle.reduction.specs.Padded.{padded}
use Rattle.receiver.specs.Receiver.{Setup, setup_of, setup_refusal, made, empty, used, held_rows, holding}
use Rattle.receiver.specs.Laws.Sound.{Sound, used-fit}
use Rattle.receiver.specs.declared.Receiver.{Receiver}

pub settings-laws : (q n k : ℕ) → settings_refusal q n k ≡ 0 → Laws q
settings-laws q n k s = laws q (accepted q n k s).size

-- a list of zeros
zeros : (l : List ℕ) (size : ℕ) → length l ≡ size → ((i : ℕ) → i < size → get_or l i 0 ≡ 0) → l ≡ replicate size 0
zeros l size e z =
    ext_get_or 0 l (replicate size 0) (e ∙ sym (length-replicate size 0))
    (λ i h. let g : i < size = omega arith in z i g ∙ sym (get_or-replicate size i 0 0 g))

module _ (r : Receiver) (size : length r.entries ≡ 256) (s : Sound r) where
  pub held-used : held_rows r ≡ rows_of r.n r.dimension (used r)
  unfolding held_rows
  held-used =
      ap (rows_of r.n r.dimension) (sym (take-append-drop (r.dimension * r.n) r.entries))
      ∙ ap₂ (λ d m. rows_of r.n d (m ++ drop (r.dimension * r.n) r.entries)) (sym (rows-length r.n r.dimension (used r)))
      (sym (join-rows r.n r.dimension (used r) s.reduced.size))
      ∙ rows-joined r.n (drop (r.dimension * r.n) r.entries) (rows-sized r.q r.n (reduced-rows r.q r.n s.reduced))

  pub held-join : join (held_rows r) ≡ used r
  unfolding held_rows
  held-join = join-taken r.n r.entries r.dimension

  pub held-length : length (held_rows r) ≡ r.dimension
  unfolding held_rows
  held-length = rows-length r.n r.dimension r.entries

  pub held_kept : Kept r.q r.n (held_rows r)
  held_kept =
      record {
        rows = subst (All (Row r.q r.n)) (sym held-used) (reduced-rows r.q r.n s.reduced);
        reduced = subst₂ (Reduced r.q r.n) (sym held-length) (sym held-join) s.reduced;
      }

  -- past the entries that are used, however many of them are passed over
  pub rest-zero : (i : ℕ) → r.dimension * r.n ≤ i → drop i r.entries ≡ replicate (256 - i) 0
  rest-zero i h =
      zeros (drop i r.entries) (256 - i) (length-drop i r.entries ∙ omega arith)
      (λ j g. get_or-drop i r.entries j 0 ∙ s.rest (i + j) (omega arith) (omega arith))

  pub held-again : r ≡ holding (setup_of r) (held_rows r)
  unfolding holding dimension reduced_of padded
  held-again =
      ap₂ (λ (e : List ℕ) (d : ℕ). made (setup_of r) d e) entries (sym (ap length again ∙ held-length))
    where
      again : reduced_rows r.q r.n (held_rows r) ≡ held_rows r
      again =
          reduced_rows-again r.q (settings-laws r.q r.n r.k s.settings) r.n (held_rows r) held_kept.rows
          held_kept.reduced

      entries : r.entries ≡ padded 256 (reduced_of r.q r.n (held_rows r))
      entries =
          sym (take-append-drop (r.dimension * r.n) r.entries)
          ∙ ap (λ (x : List ℕ). used r ++ x) (rest-zero (r.dimension * r.n) (omega arith))
          ∙ ap (λ x. used r ++ replicate (256 - x) 0) (sym s.reduced.size)
          ∙ ap (padded 256) (sym (ap join again ∙ held-join))

module _ (s : Setup) (settings : setup_refusal s ≡ 0) (rows : List (List ℕ)) (h : All (Row s.q s.n) rows) where
  abbrev q : ℕ
  q = s.q

  abbrev n : ℕ
  n = s.n

  law : Laws q
  law = settings-laws q n s.k settings

  fit : dimension q n rows * n ≤ 256
  fit = used-fit q n s.k (dimension q n rows) settings (dimension-le q law n rows h)

  sized : length (reduced_of q n rows) ≡ dimension q n rows * n
  sized = (reduced_of-reduced q law n rows h).size

  pub holding-size : length (holding s rows).entries ≡ 256
  unfolding holding padded
  holding-size =
      length-append (reduced_of q n rows) (replicate (256 - length (reduced_of q n rows)) 0)
      ∙ omega (arith, length-replicate {A = ℕ} (256 - length (reduced_of q n rows)) 0, sized, fit)

  pub holding-used : used (holding s rows) ≡ reduced_of q n rows
  unfolding holding padded
  holding-used = take_at (reduced_of q n rows) (replicate (256 - length (reduced_of q n rows)) 0) (dimension q n rows * n) sized

  pub holding-rows : held_rows (holding s rows) ≡ reduced_rows q n rows
  unfolding holding padded held_rows dimension reduced_of
  holding-rows = rows-joined n (replicate (256 - length (reduced_of q n rows)) 0) (rows-sized q n (reduced_rows-kept q law n rows h).rows)

  pub holding-span : SameSpan q n (held_rows (holding s rows)) rows
  holding-span = subst (λ x. SameSpan q n x rows) (sym holding-rows) (reduced_rows-span q law n rows h)

  pub holding-sound : Sound (holding s rows)
  unfolding holding padded
  holding-sound =
      record {
        settings = settings;
        fits = dimension-le q law n rows h;
        reduced = subst (Reduced q n (dimension q n rows)) (sym holding-used) (reduced_of-reduced q law n rows h);
        rest = rest;
      }
    where
      rest : (i : ℕ) → i < 256 → dimension q n rows * n ≤ i → get_or (padded 256 (reduced_of q n rows)) i 0 ≡ 0
      rest i b g =
          let e : i ≡ length (reduced_of q n rows) + (i - length (reduced_of q n rows)) = omega (arith, sized) in
          ap (λ x. get_or (padded 256 (reduced_of q n rows)) x 0) e
          ∙ get_or-append-add (reduced_of q n rows) (replicate (256 - length (reduced_of q n rows)) 0) (i - length (reduced_of q n rows)) 0
          ∙ get_or-replicate (256 - length (reduced_of q n rows)) (i - length (reduced_of q n rows)) 0 0 (omega (arith, sized))

  pub holding-held : (v : List ℕ) → InSpan q n rows v → holding s (rows ++ (v ∷ [])) ≡ holding s rows
  unfolding holding dimension reduced_of
  holding-held v i = ap (λ (x : List (List ℕ)). made s (length x) (padded 256 (join x))) (reduced_rows-held q law n rows h v i)

pub holding-exactly : (s : Setup) (settings : setup_refusal s ≡ 0) (rows others : List (List ℕ))
    → All (Row s.q s.n) rows → All (Row s.q s.n) others
    → (holding s rows ≡ holding s others) ↔ SameSpan s.q s.n rows others
unfolding SameSpan holding
holding-exactly s settings rows others h g = (there, back)
  where
    there : holding s rows ≡ holding s others → SameSpan s.q s.n rows others
    there e v =
        let own = holding-span s settings rows h v in
        let held = subst (λ r. SameSpan s.q s.n (held_rows r) others) (sym e) (holding-span s settings others g) v in
        (λ i. held.0 (own.1 i), λ i. own.0 (held.1 i))

    back : SameSpan s.q s.n rows others → holding s rows ≡ holding s others
    back same =
        let e = matrix-same s.q (settings-laws s.q s.n s.k settings) s.n rows others h g same in
        ap₂ (λ (m : List ℕ) (d : ℕ). made s d (padded 256 m)) e.1 e.0

pub holding-none : (s : Setup) → empty s ≡ holding s []
unfolding holding padded reduced_of dimension reduced_rows insert_rows join
holding-none s = refl
