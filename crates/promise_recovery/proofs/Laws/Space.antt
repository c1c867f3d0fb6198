-- The answer for rows in the span of a reduced matrix of k rows, which Receive and Close share; no part of the meaning.
--   space-answers  == Answers of what it tells: the index of the matrix, or 8 with the dimension
--   space-typed    == where the rows have dimension k, it is the index, of the numbering, with the dimension and the vector
--   space-fewer    == where they have fewer, it is "too few" with the dimension and the vector
--   space-whole-or-fewer == one of these is so
--   vector-fits    == an identifying vector fits two bytes
-- Assumes nothing.
use Rattle.std.specs.Prelude.{◌≡◌, refl, List, ◌↔◌, ◌⊎◌, ℕ, ◌^◌, ◌≤◌, ◌<◌, Ok, Err}
use Rattle.std.proofs.Common.{ap, ap₂, sym, ◌∙◌, inl, inr, arith, pow_mono}
use Rattle.basics.specs.Laws.Order.{trichotomy}
use Rattle.field.specs.FieldLaws.{Laws}
use Rattle.settings.specs.Settings.{settings_refusal}
use Rattle.matrix.specs.Matrix.{Reduced, identifying}
use Rattle.matrix.proofs.Laws.Vector.{identifying-below}
use Rattle.linear.specs.Span.{All, Row, InSpan, rows_of, HasDimension, HasVector}
use Rattle.linear.specs.Eliminate.{reduced_of, dimension}
use Rattle.linear.specs.Laws.Every.{all_map}
use Rattle.linear.specs.Laws.Mixture.{span-row}
use Rattle.linear.specs.Laws.ReducedOf.{dimension-has, vector-has, vector-dimension}
use Rattle.linear.specs.Laws.ReducedRows.{reduced-rows}
use Rattle.linear.specs.Laws.SameMatrix.{within-dimension}
use Rattle.numbering.specs.Numbering.{index_of, index_in}
use Rattle.numbering.specs.Laws.Either.{typed-value}
use Rattle.reduce.specs.Reduce.{space_of}
use Rattle.receive.specs.Answer.{space_answer, received_number, received_index}
use Rattle.receive.proofs.Laws.Space.{space-few, space-whole, space-dimension, space-vector}
use Rattle.receive.specs.declared.Unreceived.TheVariants.{TooFew}
use Rattle.receiver.specs.Laws.Held.{settings-laws}
use Rattle.promise_recovery.specs.Demand.{told, Answers}

module _ (q n k t : ℕ) (settings : settings_refusal q n k ≡ 0) (m : List ℕ) (R : Reduced q n k m) (rows : List (List ℕ))
    (each : All (InSpan q n (rows_of n k m)) rows) where
  law : Laws q
  law = settings-laws q n k settings

  pub within-rows : All (Row q n) rows
  within-rows = all_map (span-row q law n (rows_of n k m) (reduced-rows q n R)) each

  within : (dimension q n rows ≤ k) × (dimension q n rows ≡ k → reduced_of q n rows ≡ m)
  within = within-dimension q law n rows within-rows k m R each

  has : (d : ℕ) → HasDimension q n rows d ↔ (dimension q n rows ≡ d)
  has = dimension-has q law n rows within-rows

  has-vector : (d v : ℕ)
      → HasVector q n rows d v ↔ ((dimension q n rows ≡ d) × (identifying n (dimension q n rows) (reduced_of q n rows) ≡ v))
  has-vector = vector-has q law n rows within-rows

  -- what is told of the span of rows with this dimension and vector
  told-space : (d v : ℕ) → HasVector q n rows d v
      → space_of n (dimension q n rows) (reduced_of q n rows) ≡ record { dimension = d; vector = v }
  told-space d v h =
      let e = (has-vector d v).0 h in ap₂ (λ (x y : ℕ). record { dimension = x; vector = y }) e.0 e.1

  pub space-fewer : (d v : ℕ) → HasVector q n rows d v → d < k
      → space_answer q n k t (dimension q n rows) (reduced_of q n rows) ≡ Err (TooFew (record { dimension = d; vector = v }))
  space-fewer d v h l =
      let e : dimension q n rows ≡ d = ((has-vector d v).0 h).0 in
      sym (space-few q n k t (dimension q n rows) (reduced_of q n rows) (omega arith)) ∙ ap (λ x. Err (TooFew x)) (told-space d v h)

  pub space-typed : (v : ℕ) → HasVector q n rows k v
      → space_answer q n k t (dimension q n rows) (reduced_of q n rows)
      ≡ Ok (index_in t (index_of q n k t m), record { dimension = k; vector = v })
  space-typed v h =
      let e : dimension q n rows ≡ k = ((has-vector k v).0 h).0 in
      sym (space-whole q n k t (dimension q n rows) (reduced_of q n rows) (omega arith) (omega arith))
      ∙ ap₂ (λ x y. Ok (x, y)) (ap (λ x. index_in t (index_of q n k t x)) (within.1 e)) (told-space k v h)

  pub space-whole-or-fewer : ((v : ℕ) × HasVector q n rows k v) ⊎ ((d v : ℕ) × HasVector q n rows d v × (d < k))
  space-whole-or-fewer = cases (trichotomy (dimension q n rows) k)
    where
      v : ℕ
      v = identifying n (dimension q n rows) (reduced_of q n rows)

      cases : (dimension q n rows < k) ⊎ ((dimension q n rows ≡ k) ⊎ (k < dimension q n rows))
          → ((v : ℕ) × HasVector q n rows k v) ⊎ ((d v : ℕ) × HasVector q n rows d v × (d < k))
      cases (inl l) = inr (dimension q n rows, v, (has-vector _ v).1 (refl, refl), l)
      cases (inr (inl h)) = inl (v, (has-vector k v).1 (h, refl))
      cases (inr (inr g)) = absurd (omega (arith, within.0))

  pub space-answers : Answers q n k (index_of q n k t m) rows (told (space_answer q n k t (dimension q n rows) (reduced_of q n rows)))
  space-answers =
      record {
        some = (dimension q n rows, identifying n (dimension q n rows) (reduced_of q n rows), (has-vector _ _).1 (refl, refl));
        whole = (
          λ e. (has k).1 (there e.0 (trichotomy (dimension q n rows) k)),
          λ h.
              let (v, w) = (vector-dimension q n rows k).0 h in
              (ap received_number (space-typed v w), ap received_index (space-typed v w) ∙ typed-value t (index_of q n k t m)),
        );
        fewer =
            λ d h l.
            let (v, w) = (vector-dimension q n rows d).0 h in
            (ap received_number (space-fewer d v w l), ap received_index (space-fewer d v w l));
        never-more = λ d h. omega (arith, (has d).0 h, within.0);
        space =
            λ d v h. (
              space-dimension q n k t (dimension q n rows) (reduced_of q n rows) ∙ ((has-vector d v).0 h).0,
              space-vector q n k t (dimension q n rows) (reduced_of q n rows) ∙ ((has-vector d v).0 h).1,
            );
      }
    where
      there : received_number (space_answer q n k t (dimension q n rows) (reduced_of q n rows)) ≡ 0
          → (dimension q n rows < k) ⊎ ((dimension q n rows ≡ k) ⊎ (k < dimension q n rows)) → dimension q n rows ≡ k
      there e (inl l) =
          let z = sym (ap received_number (space-fewer _ _ ((has-vector _ _).1 (refl, refl)) l)) ∙ e in
          absurd (omega arith)
      there e (inr (inl h)) = h
      there e (inr (inr g)) = absurd (omega (arith, within.0))

-- an identifying vector fits two bytes
pub vector-fits : (q n : ℕ) → n ≤ 16 → (rows : List (List ℕ)) (d v : ℕ) → HasVector q n rows d v → v < 2 ^ 16
unfolding HasVector
vector-fits q n narrow rows d v h =
    let g : 2 ^ n ≤ 2 ^ 16 = pow_mono narrow in omega (arith, identifying-below h.1, h.3)
