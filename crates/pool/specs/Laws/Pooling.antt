-- Two receivers that pooling does not refuse: what their bytes hold; no part of the meaning.
--   narrow, first-low, second-low, first_fits, second_fits == how large they are
--   first_rows, second-rows   == the bytes that are read hold the rows held
--   first-held, second-held   == these are rows
--   first_below, second_below == with entries below q
--   stack-joined    == the stack that is made of them
--   joint-length, joint-part, joint-pasted == the pooled receiver's entries, and those pasted into the joint buffer
--   joint-front     == the pooled receiver's first entries, those copied into the joint buffer
-- Assumes nothing.
use Rattle.std.specs.Prelude.{◌≡◌, ℕ, ◌*◌, ◌≤◌, ◌<◌, T, get_or}
use Rattle.std.proofs.Math.Path.{ap, ap₂, sym}
use Rattle.std.proofs.Common.{◌∙◌, subst, mul-le-mul_right, arith, length-take-le}
use Rattle.std.proofs.Math.Bool.{true, false}
use mathlib.Core.List.{List, ◌++◌}
use Rattle.std.proofs.Math.ListN.{length, take}
use Rattle.std.proofs.Math.Seq.{paste}
use Rattle.field.specs.Field.{is_field_size}
use Rattle.field.specs.FieldLaws.{Laws}
use Rattle.settings.specs.Laws.Accepted.{accepted}
use Rattle.linear.specs.Span.{All, Row, rows_of}
use Rattle.linear.specs.Eliminate.{join, reduced_of}
use Rattle.linear.specs.Laws.Every.{all_append}
use Rattle.linear.specs.Laws.FlatRows.{join-append}
use Rattle.linear.specs.Laws.ReducedOf.{reduced_of-reduced, dimension-le}
use Rattle.reduction.specs.Padded.{padded}
use Rattle.reduction.specs.Laws.Insert.{padded-length}
use Rattle.spaces.specs.Spaces.{wide_rows, stacked, joint_of}
use Rattle.receiver.specs.Receiver.{setup_of, well_formed, held_rows, holding}
use Rattle.receiver.specs.Laws.Held.{settings-laws, held-used, held_kept}
use Rattle.receiver.specs.Laws.Sound.{Sound, sound, used-fit}
use Rattle.receiver.specs.declared.Receiver.{Receiver}
use Rattle.pool.specs.Pool.{alike}
use Rattle.pool.specs.Laws.PoolAccepted.{alike-setups}
use Rattle.double_rows.specs.Laws.Fill.{padded-front, paste-whole}

module _ (r : Receiver) (size : length r.entries ≡ 256) (s : Sound r) where
  used-rows : rows_of r.n r.dimension (take (r.dimension * r.n) r.entries) ≡ held_rows r
  used-rows = sym (held-used r size s)

  used-below : (i : ℕ) → i < length (take (r.dimension * r.n) r.entries) → get_or (take (r.dimension * r.n) r.entries) i 0 < r.q
  used-below i h = s.reduced.below i (omega (arith, s.reduced.size))

module _ (a b : Receiver) (whole-a : length a.entries ≡ 256) (whole-b : length b.entries ≡ 256) (formed-a : well_formed a ≡ true)
    (formed-b : well_formed b ≡ true) (same : alike a b ≡ true) where
  sound-a : Sound a
  sound-a = sound a whole-a formed-a

  sound-b : Sound b
  sound-b = sound b whole-b formed-b

  pub field-size : T (is_field_size a.q)
  field-size = (accepted a.q a.n a.k sound-a.settings).size

  pub field_laws : Laws a.q
  field_laws = settings-laws a.q a.n a.k sound-a.settings

  pub narrow : a.n ≤ 16
  narrow = (accepted a.q a.n a.k sound-a.settings).narrow

  equal-n : b.n ≡ a.n
  equal-n = sym (alike-setups a b same).1

  pub first-low : a.dimension ≤ a.n
  first-low = sound-a.fits

  pub second-low : b.dimension ≤ a.n
  second-low = subst (λ x. b.dimension ≤ x) equal-n sound-b.fits

  pub first_fits : a.dimension * a.n ≤ 256
  first_fits = used-fit a.q a.n a.k a.dimension sound-a.settings first-low

  pub second_fits : b.dimension * a.n ≤ 256
  second_fits = used-fit a.q a.n a.k b.dimension sound-a.settings second-low

  pub square-fits : a.n * a.n ≤ 256
  square-fits = used-fit a.q a.n a.k a.n sound-a.settings (omega arith)

  pub first-length : length (take (a.dimension * a.n) a.entries) ≡ a.dimension * a.n
  first-length = length-take-le (a.dimension * a.n) a.entries (omega (arith, first_fits))

  pub second-length : length (take (b.dimension * a.n) b.entries) ≡ b.dimension * a.n
  second-length = length-take-le (b.dimension * a.n) b.entries (omega (arith, second_fits))

  pub first_rows : rows_of a.n a.dimension (take (a.dimension * a.n) a.entries) ≡ held_rows a
  first_rows = used-rows a whole-a sound-a

  pub second-rows : rows_of a.n b.dimension (take (b.dimension * a.n) b.entries) ≡ held_rows b
  second-rows =
      subst (λ x. rows_of x b.dimension (take (b.dimension * x) b.entries) ≡ held_rows b) equal-n (used-rows b whole-b sound-b)

  pub first-held : All (Row a.q a.n) (held_rows a)
  first-held = (held_kept a whole-a sound-a).rows

  pub second-held : All (Row a.q a.n) (held_rows b)
  second-held =
      subst (λ x. All (Row x a.n) (held_rows b)) (sym (alike-setups a b same).0)
      (subst (λ x. All (Row b.q x) (held_rows b)) equal-n (held_kept b whole-b sound-b).rows)

  pub first_below : (i : ℕ) → i < length (take (a.dimension * a.n) a.entries)
      → get_or (take (a.dimension * a.n) a.entries) i 0 < a.q
  first_below = used-below a whole-a sound-a

  pub second_below : (i : ℕ) → i < length (take (b.dimension * a.n) b.entries)
      → get_or (take (b.dimension * a.n) b.entries) i 0 < a.q
  second_below =
      subst (λ x. (i : ℕ) → i < length (take (b.dimension * a.n) b.entries) → get_or (take (b.dimension * a.n) b.entries) i 0 < x)
      (sym (alike-setups a b same).0)
      (subst (λ x. (i : ℕ) → i < length (take (b.dimension * x) b.entries) → get_or (take (b.dimension * x) b.entries) i 0 < b.q)
      equal-n (used-below b whole-b sound-b))

  pub stack-joined : join (wide_rows true a.n (rows_of a.n a.dimension (take (a.dimension * a.n) a.entries)))
      ++ join (wide_rows false a.n (rows_of a.n b.dimension (take (b.dimension * a.n) b.entries)))
      ≡ join (stacked a.n (held_rows a) (held_rows b))
  unfolding stacked
  stack-joined =
      ap₂ (λ x y. join (wide_rows true a.n x) ++ join (wide_rows false a.n y)) first_rows second-rows
      ∙ sym (join-append (wide_rows true a.n (held_rows a)) (wide_rows false a.n (held_rows b)))

  -- the joint rows as bytes
  joint-fits : length (reduced_of a.q a.n (held_rows a ++ held_rows b)) ≤ a.n * a.n
  joint-fits =
      let h = all_append first-held second-held in
      let R = reduced_of-reduced a.q field_laws a.n (held_rows a ++ held_rows b) h in
      omega (arith, R.size, mul-le-mul_right a.n (dimension-le a.q field_laws a.n (held_rows a ++ held_rows b) h))

  pub joint-front : (size : ℕ) (entries : List ℕ) → size ≡ a.n * a.n
      → entries ≡ (holding (setup_of a) (held_rows a ++ held_rows b)).entries
      → take size entries ≡ padded (a.n * a.n) (joint_of a.q a.n (held_rows a) (held_rows b))
  unfolding holding joint_of
  joint-front size entries sized is =
      ap₂ (λ (x : ℕ) (y : List ℕ). take x y) sized is ∙ padded-front (a.n * a.n) 256 _ joint-fits square-fits

  module _ (old entries : List ℕ) (size : length old ≡ a.n * a.n)
      (is : entries ≡ (holding (setup_of a) (held_rows a ++ held_rows b)).entries) where
    pub joint-length : length entries ≡ 256
    unfolding holding
    joint-length = ap length is ∙ padded-length 256 _ (omega (arith, joint-fits, square-fits))

    pub joint-part : length (take (length old) entries) ≡ length old
    joint-part = length-take-le (length old) entries (omega (arith, size, square-fits, joint-length))

    pub joint-pasted : paste old 0 (take (length old) entries) (length (take (length old) entries))
        ≡ padded (a.n * a.n) (joint_of a.q a.n (held_rows a) (held_rows b))
    unfolding holding joint_of
    joint-pasted =
        paste-whole old (take (length old) entries) joint-part ∙ ap₂ (λ (x : ℕ) (y : List ℕ). take x y) size is
        ∙ padded-front (a.n * a.n) 256 _ joint-fits square-fits
