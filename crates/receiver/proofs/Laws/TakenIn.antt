-- A row taken into the bytes of a receiver, as the code does it; no part of the meaning.
--   lent_fits, lent-size     == the n·n entries that are lent
--   lent-kept, lent-held     == they hold the receiver's rows, with zeros after them
--   lent-leads               == the leads of these rows are the pivots of what the receiver uses
--   taken-raised, taken-held == what the row reduction leaves in them is the receiver with the row taken in, by the answer, the row not
--                               being zero
-- Assumes nothing.
use Rattle.std.specs.Prelude.{◌≡◌, false, ltb, get_or, drop, Ok}
use Rattle.std.proofs.Math.Path.{ap, ap₂}
use Rattle.std.proofs.Common.{sym, ◌∙◌, subst, mul-le-mul_right, arith, lt-ltb, le-ltb, take-append-drop, take-take}
use mathlib.Core.List.{List, [], ◌∷◌, ◌++◌, append_assoc}
use Prim.Native.Nat.{ℕ, ◌+◌, ◌*◌, ◌-◌, ◌≤◌, ◌<◌}
use Rattle.std.proofs.Math.ListN.{length, take, replicate}
use Rattle.std.proofs.lemmas.List.{length-replicate, replicate-append-replicate}
use Rattle.std.proofs.Math.Seq.{length-take-le, take_at, take-append-add}
use Rattle.basics.specs.Choice.{pick}
use Rattle.field.specs.FieldLaws.{Laws}
use Rattle.matrix.specs.Matrix.{pivot}
use Rattle.linear.specs.Span.{Row, rows_of}
use Rattle.linear.specs.Eliminate.{join, insert_row, reduced_rows, reduced_of, dimension}
use Rattle.linear.specs.Laws.FlatMatrix.{join-length}
use Rattle.linear.specs.Laws.FlatRows.{rows-joined}
use Rattle.linear.specs.Laws.InsertMany.{Kept, insert-kept}
use Rattle.linear.specs.Laws.OneMore.{reduced_rows-more}
use Rattle.linear.specs.Laws.ReducedOf.{reduced-le}
use Rattle.linear.specs.Laws.ReducedRows.{rows-sized}
use Rattle.linear.specs.Laws.SameMatrix.{reduced_rows-again}
use Rattle.reduction.specs.Laws.Leads.{leads-known}
use Rattle.reduction.specs.Padded.{padded}
use Rattle.rows.specs.Laws.Puts.{rows-front}
use Rattle.reduction.specs.Laws.Steps.{leads}
use Rattle.receiver.specs.Receiver.{Offer, setup_of, made, used, held_rows, holding, is_zero, taken_in, taken_as}
use Rattle.receiver.specs.Laws.Sound.{Sound, used-fit}
use Rattle.receiver.specs.Laws.Held.{settings-laws, held_kept, held-join, held-length, rest-zero}
use Rattle.receiver.specs.declared.Receiver.{Receiver}
use Rattle.receiver.specs.declared.Taken.{Taken}
use Rattle.receiver.specs.declared.Effect.TheVariants.{Raised, Held, Idle}

module _ (r : Receiver) (size : length r.entries ≡ 256) (s : Sound r) where
  -- the entries that are lent to the reduction
  abbrev lent : List ℕ
  lent = take (r.n * r.n) r.entries

  law : Laws r.q
  law = settings-laws r.q r.n r.k s.settings

  pub lent_fits : r.n * r.n ≤ 256
  lent_fits = used-fit r.q r.n r.k r.n s.settings (omega arith)

  pub lent-size : length (take (r.n * r.n) r.entries) ≡ r.n * r.n
  lent-size = length-take-le (r.n * r.n) r.entries (omega (arith, lent_fits))

  used-lent : r.dimension * r.n ≤ r.n * r.n
  used-lent = mul-le-mul_right r.n s.fits

  lent_rows : rows_of r.n r.dimension (take (r.n * r.n) r.entries) ≡ held_rows r
  lent_rows =
      ap (rows_of r.n r.dimension)
      (sym (take-append-drop (r.dimension * r.n) lent) ∙ ap (λ (x : List ℕ). x ++ drop (r.dimension * r.n) lent) front)
      ∙ ap (λ d. rows_of r.n d (join (held_rows r) ++ drop (r.dimension * r.n) lent)) (sym (held-length r size s))
      ∙ rows-joined r.n (drop (r.dimension * r.n) lent) (rows-sized r.q r.n (held_kept r size s).rows)
    where
      front : take (r.dimension * r.n) lent ≡ join (held_rows r)
      front = take-take (r.dimension * r.n) (r.n * r.n) r.entries used-lent ∙ sym (held-join r size s)

  pub lent-kept : Kept r.q r.n (rows_of r.n r.dimension (take (r.n * r.n) r.entries))
  lent-kept = subst (Kept r.q r.n) (sym lent_rows) (held_kept r size s)

  pub lent-held : take (r.n * r.n) r.entries
      ≡ padded (r.n * r.n) (join (rows_of r.n r.dimension (take (r.n * r.n) r.entries)))
  unfolding padded
  lent-held =
      let used : ℕ = r.dimension * r.n in
      let more : used + (r.n * r.n - used) ≡ r.n * r.n = omega (arith, used-lent) in
      let left : r.n * r.n - used + (256 - r.n * r.n) ≡ 256 - used = omega (arith, used-lent, lent_fits) in
      let held : length (join (held_rows r)) ≡ used =
      ap length (held-join r size s) ∙ length-take-le used r.entries (omega (arith, used-lent, lent_fits)) in
      ap₂ (λ (x : ℕ) (y : List ℕ). take x y) (sym more ∙ ap (λ x. x + (r.n * r.n - used)) (sym held))
      (sym (take-append-drop used r.entries)
      ∙ ap₂ (λ (x y : List ℕ). x ++ y) (sym (held-join r size s)) (rest-zero r size s used (omega arith)))
      ∙ take-append-add (join (held_rows r)) (replicate (256 - used) 0) (r.n * r.n - used)
      ∙ ap (λ (x : List ℕ). join (held_rows r) ++ x)
      (ap (λ x. take (r.n * r.n - used) (replicate x 0)) (sym left)
      ∙ ap (take (r.n * r.n - used)) (sym (replicate-append-replicate (r.n * r.n - used) (256 - r.n * r.n) 0))
      ∙ take_at (replicate (r.n * r.n - used) 0) (replicate (256 - r.n * r.n) 0) (r.n * r.n - used)
      (length-replicate {A = ℕ} (r.n * r.n - used) 0))
      ∙ ap (λ x. join (held_rows r) ++ replicate (r.n * r.n - x) 0) (sym held)
      ∙ ap (λ x. padded (r.n * r.n) (join x)) (sym lent_rows)

  pub lent-leads : (pivots : List ℕ) → r.dimension ≤ length pivots
      → ((i : ℕ) → i < r.dimension → get_or pivots i 0 ≡ pivot r.n (used r) i)
      → take r.dimension pivots ≡ leads r.n (rows_of r.n r.dimension (take (r.n * r.n) r.entries))
  lent-leads pivots room known =
      let size : ℕ = r.dimension * r.n in
      leads-known r.n r.dimension (used r) pivots room known
      ∙ ap (leads r.n)
      (sym (rows-front r.n r.dimension (used r) (drop size lent) (omega (arith, s.reduced.size)))
      ∙ ap (λ (x : List ℕ). rows_of r.n r.dimension (x ++ drop size lent)) (sym (take-take size (r.n * r.n) r.entries used-lent))
      ∙ ap (rows_of r.n r.dimension) (take-append-drop size lent))

  module _ (o : Offer) (hr : Row r.q r.n o.row) where
    -- the rows that come out
    abbrev out : List (List ℕ)
    out = insert_row r.q r.n (held_rows r) o.row

    new : reduced_rows r.q r.n (held_rows r ++ (o.row ∷ [])) ≡ out
    new =
        let kept = held_kept r size s in
        reduced_rows-more r.q r.n (held_rows r) o.row
        ∙ ap (λ x. insert_row r.q r.n x o.row) (reduced_rows-again r.q law r.n (held_rows r) kept.rows kept.reduced)

    out-kept : Kept r.q r.n out
    out-kept = insert-kept r.q law r.n (held_rows r) (held_kept r size s) o.row hr

    out-size : length (join out) ≡ length out * r.n
    out-size = join-length r.n (rows-sized r.q r.n out-kept.rows)

    out-fits : length out * r.n ≤ r.n * r.n
    out-fits = mul-le-mul_right r.n (reduced-le r.q r.n (length out) (join out) out-kept.reduced)

    module _ (d : ℕ) (after : List ℕ) (count : d ≡ length (insert_row r.q r.n (rows_of r.n r.dimension lent) o.row))
        (bytes : after ≡ padded (r.n * r.n) (join (insert_row r.q r.n (rows_of r.n r.dimension lent) o.row))) where
      -- the receiver that comes out
      abbrev left : Receiver
      left = made (setup_of r) d (after ++ drop (r.n * r.n) r.entries)

      here : d ≡ length out
      here = count ∙ ap (λ x. length (insert_row r.q r.n x o.row)) lent_rows

      dimensions : d ≡ length (reduced_rows r.q r.n (held_rows r ++ (o.row ∷ [])))
      dimensions = here ∙ ap length (sym new)

      entries : after ++ drop (r.n * r.n) r.entries ≡ padded 256 (join (reduced_rows r.q r.n (held_rows r ++ (o.row ∷ []))))
      unfolding padded
      entries =
          let more : r.n * r.n - length (join out) + (256 - r.n * r.n) ≡ 256 - length (join out) =
          omega (arith, out-size, out-fits, lent_fits) in
          ap₂ (λ (x y : List ℕ). x ++ y) (bytes ∙ ap (λ x. padded (r.n * r.n) (join (insert_row r.q r.n x o.row))) lent_rows)
          (rest-zero r size s (r.n * r.n) used-lent)
          ∙ append_assoc (join out) (replicate (r.n * r.n - length (join out)) 0) (replicate (256 - r.n * r.n) 0)
          ∙ ap (λ (x : List ℕ). join out ++ x)
          (replicate-append-replicate (r.n * r.n - length (join out)) (256 - r.n * r.n) 0 ∙ ap (λ x. replicate x 0) more)
          ∙ ap (λ x. padded 256 (join x)) (sym new)

      -- the dimension with the o.row
      abbrev next : ℕ
      next = dimension r.q r.n (held_rows r ++ (o.row ∷ []))

      module _ (nonzero : is_zero o.row ≡ false) where
        taken_in_lem : ◌≡◌ {A = Taken} (taken_as left (Ok (pick (ltb r.dimension d) Raised Held))) (taken_in r o)
        unfolding taken_in holding dimension reduced_of
        taken_in_lem =
            ap₂
            (λ (e : List ℕ) (x : ℕ). taken_as (made (setup_of r) x e) (Ok (pick (ltb r.dimension x) Raised Held))) entries dimensions
            ∙ ap (λ b. taken_as (taken_in r o).receiver (Ok (pick b Idle (pick (ltb r.dimension next) Raised Held)))) (sym nonzero)

        pub taken-raised : r.dimension < d → taken_as left (Ok Raised) ≡ taken_in r o
        taken-raised h = ap (λ b. taken_as left (Ok (pick b Raised Held))) (sym (lt-ltb r.dimension d h)) ∙ taken_in_lem

        pub taken-held : d ≤ r.dimension → taken_as left (Ok Held) ≡ taken_in r o
        taken-held h = ap (λ b. taken_as left (Ok (pick b Raised Held))) (sym (le-ltb r.dimension d h)) ∙ taken_in_lem
