-- Two receivers that hold some rows: what they hold is apart as the rows are. No part of the meaning.
--   holding-measured == the distance of what they hold is not refused, and is that of the rows
-- Assumes nothing.
use Rattle.std.specs.Prelude.{◌≡◌, List, ℕ}
use Rattle.std.proofs.Common.{ap₂, sym, ◌∙◌, arith}
use Rattle.std.proofs.Math.Path.{subst₂}
use Rattle.basics.specs.Laws.Choice.{is_true}
use Rattle.field.specs.FieldLaws.{Laws}
use Rattle.settings.specs.Laws.Accepted.{Accepted, accepted as settings-accepted}
use Rattle.linear.specs.Span.{All, Row}
use Rattle.linear.specs.Eliminate.{reduced_rows, reduced_of, dimension}
use Rattle.linear.specs.Laws.Every.{all_of}
use Rattle.linear.specs.Laws.ReducedOf.{reduced_rows-kept, reduced_rows-span, reduced_of-reduced, reduced_of-rows, dimension-le}
use Rattle.spaces.specs.Distance.{distance}
use Rattle.spaces.proofs.Laws.Distance.{distance-symmetric, distance-same}
use Rattle.reduce.specs.Reduce.{row_list_refusal}
use Rattle.distance.specs.Distance.{distance_of, distance_number, distance_value}
use Rattle.receiver.specs.Receiver.{Setup, setup_refusal, holding}
use Rattle.receiver.specs.Laws.Held.{settings-laws, holding-used}
use Rattle.promise_distance.specs.Apart.{held}
use Rattle.promise_distance.specs.Laws.Refused.{value-is, settings-right, list_right, refused-second}

module _ (s : Setup) (settings : setup_refusal s ≡ 0) where
  abbrev q : ℕ
  q = s.q

  abbrev n : ℕ
  n = s.n

  law : Laws q
  law = settings-laws q n s.k settings

  ok : Accepted q n s.k
  ok = settings-accepted q n s.k settings

  -- the reduced matrix of some rows, as a list for the call
  matrix-right : (rows : List (List ℕ)) → All (Row q n) rows → row_list_refusal q n (dimension q n rows) (reduced_of q n rows) ≡ 0
  matrix-right rows h =
      let R = reduced_of-reduced q law n rows h in
      list_right q n (dimension q n rows) (reduced_of q n rows) (omega (arith, dimension-le q law n rows h, ok.narrow)) R.size
      (all_of 0 (reduced_of q n rows) (λ i l. R.below i (omega (arith, R.size))))

  -- what two receivers that hold some rows are apart
  pub holding-measured : (us vs : List (List ℕ)) → All (Row q n) us → All (Row q n) vs
      → (distance_number (held s (holding s us) (holding s vs)) ≡ 0)
      × (distance_value (held s (holding s us) (holding s vs)) ≡ distance q n us vs)
  unfolding holding
  holding-measured us vs hu hv =
      subst₂
      (λ x y.
      (distance_number (distance_of q n (dimension q n us) x (dimension q n vs) y) ≡ 0)
      × (distance_value (distance_of q n (dimension q n us) x (dimension q n vs) y) ≡ distance q n us vs))
      (sym (holding-used s settings us hu)) (sym (holding-used s settings vs hv)) (none, value)
    where
      none : distance_number (distance_of q n (dimension q n us) (reduced_of q n us) (dimension q n vs) (reduced_of q n vs)) ≡ 0
      none =
          refused-second q n _ _ _ _ (settings-right q n (is_true _ ok.size) ok.row ok.narrow) (matrix-right us hu)
          ∙ matrix-right vs hv

      first : All (Row q n) (reduced_rows q n us)
      first = (reduced_rows-kept q law n us hu).rows

      second : All (Row q n) (reduced_rows q n vs)
      second = (reduced_rows-kept q law n vs hv).rows

      value : distance_value (distance_of q n (dimension q n us) (reduced_of q n us) (dimension q n vs) (reduced_of q n vs))
          ≡ distance q n us vs
      value =
          value-is q n _ _ _ _ none
          ∙ ap₂ (distance q n) (reduced_of-rows q law n us hu) (reduced_of-rows q law n vs hv)
          ∙ distance-same q law n _ us _ first hu second (reduced_rows-span q law n us hu)
          ∙ distance-symmetric q law n us _ hu second
          ∙ distance-same q law n _ vs us second hv hu (reduced_rows-span q law n vs hv)
          ∙ distance-symmetric q law n vs us hv hu
