-- The stack of two receivers' rows, lent and reduced, and the right halves of what it leaves; no part of the meaning.
--   double-low, count_low, double-square, stack-fits == how large the stack and its reduced matrix are
--   stack-size, stack-length, stack-below == the bytes that hold the stack, and those that are lent: how many, and that they are below q
--   found-few, found-fits, found-leads == what the reduction leaves: how many rows, how many bytes, and the leads of the rows read back
--   halves-few, halves-told == the right halves of these rows are at most n, and are the rows of the common space
-- Assumes nothing.
use Rattle.std.specs.Prelude.{◌≡◌, true, false, get_or, take}
use Rattle.std.proofs.Math.Path.{ap, ap₂}
use Rattle.std.proofs.Common.{sym, ◌∙◌, subst, mul-le-mul, arith, length-append}
use mathlib.Core.List.{List, [], ◌++◌, append_assoc}
use Prim.Native.Nat.{ℕ, ◌+◌, ◌*◌, ◌-◌, ◌≤◌, ◌<◌}
use Rattle.std.proofs.Math.ListN.{length, replicate}
use Rattle.linear.specs.Span.{All, Row, rows_of}
use Rattle.linear.specs.Eliminate.{join, insert_rows, reduced_rows}
use Rattle.linear.specs.Laws.Every.{all-at}
use Rattle.linear.specs.Laws.FlatMatrix.{rows-length, rows_join, join-length}
use Rattle.linear.specs.Laws.FlatRows.{rows-joined}
use Rattle.linear.specs.Laws.InsertMany.{Kept}
use Rattle.linear.specs.Laws.ReducedOf.{reduced-le, reduced_rows-kept}
use Rattle.linear.specs.Laws.ReducedRows.{join-below, rows-sized}
use Rattle.reduction.specs.Padded.{padded}
use Rattle.reduction.specs.Laws.Steps.{leads}
use Rattle.spaces.specs.Spaces.{wide_rows, stacked, right_halves, common_rows, common_of, common_dimension}
use Rattle.spaces.specs.Laws.Common.{common-kept}
use Rattle.spaces.specs.Laws.Halves.{stacked-rows}
use Rattle.receiver.specs.Receiver.{well_formed, held_rows}
use Rattle.receiver.specs.declared.Receiver.{Receiver}
use Rattle.pool.specs.Pool.{alike}
use Rattle.double_rows.specs.Laws.Fill.{padded-taken, padded-size, wide-count}
use Rattle.pool.specs.Laws.Pooling.{field_laws, narrow, first-low, second-low, first-held, second-held}

stacked-count : (n : ℕ) (us vs : List (List ℕ)) → length (stacked n us vs) ≡ length us + length vs
unfolding stacked wide_rows
stacked-count n us vs = length-append (wide_rows true n us) (wide_rows false n vs) ∙ ap₂ ◌+◌ (wide-count true n us) (wide-count false n vs)

module _ (a b : Receiver) (whole-a : length a.entries ≡ 256) (whole-b : length b.entries ≡ 256) (formed-a : well_formed a ≡ true)
    (formed-b : well_formed b ≡ true) (same : alike a b ≡ true) where
  abbrev double : ℕ
  double = a.n + a.n

  abbrev count : ℕ
  count = a.dimension + b.dimension

  abbrev stack : List (List ℕ)
  stack = stacked a.n (held_rows a) (held_rows b)

  pub double-low : double ≤ 32
  double-low = omega (arith, narrow a b whole-a whole-b formed-a formed-b same)

  pub count_low : count ≤ 32
  count_low =
      omega (
        arith,
        narrow a b whole-a whole-b formed-a formed-b same,
        first-low a b whole-a whole-b formed-a formed-b same,
        second-low a b whole-a whole-b formed-a formed-b same,
      )

  pub double-square : double * double ≤ 1024
  double-square = mul-le-mul {n₁ = double} {m₁ = double} {n₂ = 32} {m₂ = 32} double-low double-low

  pub stack-fits : count * double ≤ 1024
  stack-fits = mul-le-mul {n₁ = count} {m₁ = double} {n₂ = 32} {m₂ = 32} count_low double-low

  stack_rows : All (Row a.q double) stack
  stack_rows =
      stacked-rows a.q (field_laws a b whole-a whole-b formed-a formed-b same) a.n
      (first-held a b whole-a whole-b formed-a formed-b same) (second-held a b whole-a whole-b formed-a formed-b same)

  stack-count : length stack ≡ count
  unfolding held_rows
  stack-count =
      stacked-count a.n (held_rows a) (held_rows b)
      ∙ ap₂ ◌+◌ (rows-length a.n a.dimension a.entries) (rows-length b.n b.dimension b.entries)

  stack-bytes : length (join stack) ≡ count * double
  stack-bytes = join-length double (rows-sized a.q double stack_rows) ∙ ap (λ x. x * double) stack-count

  -- the bytes that hold the stack, and what is lent of them
  module _ (rows : List ℕ) (made : rows ≡ padded 1024 (join stack)) where
    abbrev lent : List ℕ
    lent = take (count * double) rows

    lent-joined : lent ≡ join stack
    lent-joined = padded-taken 1024 (count * double) (join stack) rows made stack-bytes stack-fits

    pub stack-size : length rows ≡ 1024
    stack-size = padded-size 1024 (count * double) (join stack) rows made stack-bytes stack-fits

    pub stack-length : length lent ≡ count * double
    stack-length = ap length lent-joined ∙ stack-bytes

    pub stack-below : (i : ℕ) → i < length lent → get_or lent i 0 < a.q
    stack-below =
        subst (λ (l : List ℕ). (i : ℕ) → i < length l → get_or l i 0 < a.q) (sym lent-joined)
        (all-at (join-below a.q double stack_rows) 0)

    lent_rows : rows_of double count lent ≡ stack
    lent_rows =
        ap₂ (rows_of double) (sym stack-count) lent-joined ∙ rows_join double (rows-sized a.q double stack_rows)

    -- what the reduction of the stack leaves
    module _ (m : List ℕ) (d : ℕ) (filled pivots : List ℕ)
        (told : (d ≡ length (insert_rows a.q double (rows_of double 0 m) (rows_of double count lent)))
        × ((filled ≡ padded (double * double) (join (insert_rows a.q double (rows_of double 0 m) (rows_of double count lent))))
        × (take d pivots ≡ leads double (insert_rows a.q double (rows_of double 0 m) (rows_of double count lent))))) where
      abbrev found : List (List ℕ)
      found = reduced_rows a.q double stack

      found-is : insert_rows a.q double (rows_of double 0 m) (rows_of double count lent) ≡ found
      unfolding rows_of reduced_rows
      found-is = ap (insert_rows a.q double []) lent_rows

      found-kept : Kept a.q double found
      found-kept = reduced_rows-kept a.q (field_laws a b whole-a whole-b formed-a formed-b same) double stack stack_rows

      found-count : d ≡ length found
      found-count = told.0 ∙ ap length found-is

      pub found-few : d ≤ double
      found-few = omega (arith, found-count, reduced-le a.q double (length found) (join found) found-kept.reduced)

      pub found-fits : d * double ≤ 1024
      found-fits = mul-le-mul {n₁ = d} {m₁ = double} {n₂ = 32} {m₂ = 32} (omega (arith, found-few, double-low)) double-low

      found-bytes : filled ≡ padded (double * double) (join found)
      found-bytes = told.1.0 ∙ ap (λ x. padded (double * double) (join x)) found-is

      module _ (rest : List ℕ) where
        found_rows : rows_of double d (filled ++ rest) ≡ found
        unfolding padded
        found_rows =
            let zeros = replicate {A = ℕ} (double * double - length (join found)) 0 in
            ap₂ (λ x (y : List ℕ). rows_of double x (y ++ rest)) found-count found-bytes
            ∙ ap (rows_of double (length found)) (append_assoc (join found) zeros rest)
            ∙ rows-joined double (zeros ++ rest) (rows-sized a.q double found-kept.rows)

        pub found-leads : take d pivots ≡ leads double (rows_of double d (filled ++ rest))
        found-leads = told.1.1 ∙ ap (leads double) (found-is ∙ sym found_rows)

        found-halves : right_halves a.n (rows_of double d (filled ++ rest)) ≡ common_rows a.q a.n (held_rows a) (held_rows b)
        unfolding common_rows
        found-halves = ap (right_halves a.n) found_rows

        pub halves-few : length (right_halves a.n (rows_of double d (filled ++ rest))) ≤ a.n
        halves-few =
            let common = common_rows a.q a.n (held_rows a) (held_rows b) in
            let kept =
            common-kept a.q (field_laws a b whole-a whole-b formed-a formed-b same) a.n (held_rows a) (held_rows b)
            (first-held a b whole-a whole-b formed-a formed-b same) (second-held a b whole-a whole-b formed-a formed-b same) in
            omega (arith, ap length found-halves, reduced-le a.q a.n (length common) (join common) kept.reduced)

        pub halves-told : (r : ℕ) (out : List ℕ)
            → (r ≡ length (right_halves a.n (rows_of double d (filled ++ rest))))
            × (out ≡ padded (a.n * a.n) (join (right_halves a.n (rows_of double d (filled ++ rest)))))
            → (r ≡ common_dimension a.q a.n (held_rows a) (held_rows b))
            × (out ≡ padded (a.n * a.n) (common_of a.q a.n (held_rows a) (held_rows b)))
        unfolding common_dimension common_of
        halves-told r out wrote =
            (wrote.0 ∙ ap length found-halves, wrote.1 ∙ ap (λ x. padded (a.n * a.n) (join x)) found-halves)
