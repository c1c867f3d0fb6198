-- A number that is neither 1 nor 2 stands for no numbering.
use Rattle.std.proofs.Common.{refl, ne_eqb}
use Rattle.numbering.specs.Numbering.{is_numbering}
use Rattle.numbering.proofs.NumberingTryFromU64.try_from.Goals as goal

pub returns-in_default : goal.returns-in_default
unfolding is_numbering
returns-in_default c = let r = c.in_default.in_default-own.rest in (refl, rw (ne_eqb _ _ r.0.1, ne_eqb _ _ r.1))
