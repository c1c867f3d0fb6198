-- The rows of two receivers taken into the bytes of one, those of the first and then those of the second; no part of the meaning.
--   first_taken   == after the first receiver's rows the bytes hold these, reduced
--   again-length, again-lent == how many bytes stand in the array then, and how many of them are lent again
--   again-asks    == what taking in the second receiver's rows asks of these
--   second-taken  == after these the receiver holds the rows of both
-- Assumes nothing.
use Rattle.std.specs.Prelude.{◌≡◌, true, ℕ, ◌*◌, ◌-◌, ◌≤◌, take, drop, replicate}
use Rattle.std.proofs.Math.Path.{ap, ap₂, sym}
use Rattle.std.proofs.Common.{◌∙◌, subst, mul-le-mul_right, arith, length-append, take_at, drop_at}
use mathlib.Core.List.{List, [], ◌++◌}
use Rattle.std.proofs.Math.ListN.{length}
use Rattle.std.proofs.lemmas.List.{length-replicate}
use Rattle.linear.specs.Span.{All, Row, rows_of}
use Rattle.linear.specs.Eliminate.{join, insert_rows, reduced_rows, reduced_of, dimension}
use Rattle.linear.specs.Laws.InsertMany.{Kept, insert_rows-append, insert_rows-kept}
use Rattle.linear.specs.Laws.ReducedOf.{reduced-le, reduced_rows-kept}
use Rattle.reduction.specs.Padded.{padded}
use Rattle.reduction.specs.Laws.Insert.{padded-length}
use Rattle.reduction.specs.Laws.InsertRows.{Holds, holds-asks, holds_rows, holds-reduced}
use Rattle.reduction.specs.Laws.Steps.{leads}
use Rattle.receiver.specs.Receiver.{setup_of, made, well_formed, held_rows, holding}
use Rattle.receiver.specs.declared.Receiver.{Receiver}
use Rattle.pool.specs.Pool.{alike}
use Rattle.double_rows.specs.Laws.Fill.{padded-more}
use Rattle.pool.specs.Laws.Pooling.{field_laws, square-fits, first_rows, second-rows, first-held, second-held}

-- reduced rows of n entries fit into n·n bytes
kept-fits : (q n : ℕ) {rs : List (List ℕ)} → Kept q n rs → length (join rs) ≤ n * n
kept-fits q n {rs} k =
    omega (arith, k.reduced.size, mul-le-mul_right n (reduced-le q n (length rs) (join rs) k.reduced))

module _ (a b : Receiver) (whole-a : length a.entries ≡ 256) (whole-b : length b.entries ≡ 256) (formed-a : well_formed a ≡ true)
    (formed-b : well_formed b ≡ true) (same : alike a b ≡ true) where
  -- the rows of the first receiver, reduced, and what comes of them with those of the second
  abbrev firsts : List (List ℕ)
  firsts = reduced_rows a.q a.n (held_rows a)

  abbrev both : List (List ℕ)
  both = insert_rows a.q a.n firsts (held_rows b)

  -- the rows as the code reads them
  abbrev read_a : List (List ℕ)
  read_a = rows_of a.n a.dimension (take (a.dimension * a.n) a.entries)

  abbrev read-b : List (List ℕ)
  read-b = rows_of a.n b.dimension (take (b.dimension * a.n) b.entries)

  firsts-kept : Kept a.q a.n firsts
  firsts-kept =
      reduced_rows-kept a.q (field_laws a b whole-a whole-b formed-a formed-b same) a.n (held_rows a)
      (first-held a b whole-a whole-b formed-a formed-b same)

  both-kept : Kept a.q a.n both
  both-kept =
      insert_rows-kept a.q (field_laws a b whole-a whole-b formed-a formed-b same) a.n firsts firsts-kept
      (second-held a b whole-a whole-b formed-a formed-b same)

  both-reduced : both ≡ reduced_rows a.q a.n (held_rows a ++ held_rows b)
  unfolding reduced_rows
  both-reduced = sym (insert_rows-append a.q a.n [] (held_rows a) (held_rows b))

  pub first_taken : (start : List ℕ) (d : ℕ) (m pivots : List ℕ) → d ≡ length (insert_rows a.q a.n (rows_of a.n 0 start) read_a)
      → m ≡ padded (a.n * a.n) (join (insert_rows a.q a.n (rows_of a.n 0 start) read_a))
      → take d pivots ≡ leads a.n (insert_rows a.q a.n (rows_of a.n 0 start) read_a)
      → Holds a.q a.n firsts d m pivots
  first_taken start d m pivots count bytes known =
      let e = first_rows a b whole-a whole-b formed-a formed-b same in
      let rows = first-held a b whole-a whole-b formed-a formed-b same in
      subst (λ x. Holds a.q a.n (reduced_rows a.q a.n x) d m pivots) e
      (holds-reduced a.q (field_laws a b whole-a whole-b formed-a formed-b same) a.n read_a
      (subst (All (Row a.q a.n)) (sym e) rows) start count bytes known)

  -- the bytes m hold the first receiver's rows, and zeros follow in the array
  module _ {d : ℕ} {m pivots : List ℕ} (h : Holds a.q a.n firsts d m pivots) (rest : List ℕ)
      (zeros : rest ≡ replicate (256 - a.n * a.n) 0) where
    m-length : length m ≡ a.n * a.n
    m-length = ap length h.bytes ∙ padded-length (a.n * a.n) (join firsts) (kept-fits a.q a.n firsts-kept)

    again-front : take (a.n * a.n) (m ++ rest) ≡ m
    again-front = take_at m rest (a.n * a.n) m-length

    pub again-length : length (m ++ rest) ≡ 256
    again-length =
        length-append m rest
        ∙ omega (
          arith,
          m-length,
          ap length zeros,
          length-replicate {A = ℕ} (256 - a.n * a.n) 0,
          square-fits a b whole-a whole-b formed-a formed-b same,
        )

    pub again-lent : length (take (a.n * a.n) (m ++ rest)) ≡ a.n * a.n
    again-lent = ap length again-front ∙ m-length

    again-holds : Holds a.q a.n firsts d (take (a.n * a.n) (m ++ rest)) pivots
    again-holds = subst (λ x. Holds a.q a.n firsts d x pivots) (sym again-front) h

    pub again-asks : Kept a.q a.n (rows_of a.n d (take (a.n * a.n) (m ++ rest)))
        × (take (a.n * a.n) (m ++ rest) ≡ padded (a.n * a.n) (join (rows_of a.n d (take (a.n * a.n) (m ++ rest)))))
        × (take d pivots ≡ leads a.n (rows_of a.n d (take (a.n * a.n) (m ++ rest))))
    again-asks = holds-asks a.q (field_laws a b whole-a whole-b formed-a formed-b same) a.n again-holds

    again-rows : rows_of a.n d (take (a.n * a.n) (m ++ rest)) ≡ firsts
    again-rows = holds_rows a.q (field_laws a b whole-a whole-b formed-a formed-b same) a.n again-holds

    pub second-taken : (r : ℕ) (after : List ℕ)
        → r ≡ length (insert_rows a.q a.n (rows_of a.n d (take (a.n * a.n) (m ++ rest))) read-b)
        → after ≡ padded (a.n * a.n) (join (insert_rows a.q a.n (rows_of a.n d (take (a.n * a.n) (m ++ rest))) read-b))
        → ◌≡◌ {A = Receiver}
        (made (setup_of a) r (after ++ drop (a.n * a.n) (m ++ rest)))
        (holding (setup_of a) (held_rows a ++ held_rows b))
    unfolding holding dimension reduced_of
    second-taken r after count bytes =
        ap₂ (λ (e : List ℕ) (x : ℕ). made (setup_of a) x e) entries (count ∙ ap length new)
      where
        new : insert_rows a.q a.n (rows_of a.n d (take (a.n * a.n) (m ++ rest))) read-b
            ≡ reduced_rows a.q a.n (held_rows a ++ held_rows b)
        new =
            ap₂ (insert_rows a.q a.n) again-rows (second-rows a b whole-a whole-b formed-a formed-b same) ∙ both-reduced

        entries : after ++ drop (a.n * a.n) (m ++ rest) ≡ padded 256 (join (reduced_rows a.q a.n (held_rows a ++ held_rows b)))
        entries =
            ap₂ (λ (x y : List ℕ). x ++ y) (bytes ∙ ap (λ x. padded (a.n * a.n) (join x)) (new ∙ sym both-reduced))
            (drop_at m rest (a.n * a.n) m-length ∙ zeros)
            ∙ padded-more (a.n * a.n) 256 (join both) (kept-fits a.q a.n both-kept)
            (square-fits a b whole-a whole-b formed-a formed-b same)
            ∙ ap (λ x. padded 256 (join x)) both-reduced
