-- Each arm by computing the list's entry at its place.
use Rattle.std.proofs.Common.{rules}
use Rattle.basics.specs.Laws.LookUp.{arm, past}
use Rattle.basics.specs.Table.{tabulate}
use Rattle.field.specs.Polynomial.{times, remainder}
use Rattle.field.specs.Field.{is_polynomial, multiply, least_from, invert}
use Rattle.field.specs.Laws.Inverses.{entry, inverses}
use Rattle.field.proofs.inverse_at.Goals as goal

pub returns-in-1 : goal.returns-in-1
unfolding inverses entry tabulate invert least_from multiply is_polynomial times remainder
returns-in-1 c = arm inverses 1 c.in-1.is

pub returns-in-9 : goal.returns-in-9
unfolding inverses entry tabulate invert least_from multiply is_polynomial times remainder
returns-in-9 c = arm inverses 9 c.in-9.is

pub returns-in-10 : goal.returns-in-10
unfolding inverses entry tabulate invert least_from multiply is_polynomial times remainder
returns-in-10 c = arm inverses 10 c.in-10.is

pub returns-in-17 : goal.returns-in-17
unfolding inverses entry tabulate invert least_from multiply is_polynomial times remainder
returns-in-17 c = arm inverses 17 c.in-17.is

pub returns-in-18 : goal.returns-in-18
unfolding inverses entry tabulate invert least_from multiply is_polynomial times remainder
returns-in-18 c = arm inverses 18 c.in-18.is

pub returns-in-19 : goal.returns-in-19
unfolding inverses entry tabulate invert least_from multiply is_polynomial times remainder
returns-in-19 c = arm inverses 19 c.in-19.is

pub returns-in-25 : goal.returns-in-25
unfolding inverses entry tabulate invert least_from multiply is_polynomial times remainder
returns-in-25 c = arm inverses 25 c.in-25.is

pub returns-in-26 : goal.returns-in-26
unfolding inverses entry tabulate invert least_from multiply is_polynomial times remainder
returns-in-26 c = arm inverses 26 c.in-26.is

pub returns-in-27 : goal.returns-in-27
unfolding inverses entry tabulate invert least_from multiply is_polynomial times remainder
returns-in-27 c = arm inverses 27 c.in-27.is

pub returns-in-28 : goal.returns-in-28
unfolding inverses entry tabulate invert least_from multiply is_polynomial times remainder
returns-in-28 c = arm inverses 28 c.in-28.is

pub returns-in-33 : goal.returns-in-33
unfolding inverses entry tabulate invert least_from multiply is_polynomial times remainder
returns-in-33 c = arm inverses 33 c.in-33.is

pub returns-in-34 : goal.returns-in-34
unfolding inverses entry tabulate invert least_from multiply is_polynomial times remainder
returns-in-34 c = arm inverses 34 c.in-34.is

pub returns-in-35 : goal.returns-in-35
unfolding inverses entry tabulate invert least_from multiply is_polynomial times remainder
returns-in-35 c = arm inverses 35 c.in-35.is

pub returns-in-36 : goal.returns-in-36
unfolding inverses entry tabulate invert least_from multiply is_polynomial times remainder
returns-in-36 c = arm inverses 36 c.in-36.is

pub returns-in-37 : goal.returns-in-37
unfolding inverses entry tabulate invert least_from multiply is_polynomial times remainder
returns-in-37 c = arm inverses 37 c.in-37.is

pub returns-in-38 : goal.returns-in-38
unfolding inverses entry tabulate invert least_from multiply is_polynomial times remainder
returns-in-38 c = arm inverses 38 c.in-38.is

pub returns-in-41 : goal.returns-in-41
unfolding inverses entry tabulate invert least_from multiply is_polynomial times remainder
returns-in-41 c = arm inverses 41 c.in-41.is

pub returns-in-42 : goal.returns-in-42
unfolding inverses entry tabulate invert least_from multiply is_polynomial times remainder
returns-in-42 c = arm inverses 42 c.in-42.is

pub returns-in-43 : goal.returns-in-43
unfolding inverses entry tabulate invert least_from multiply is_polynomial times remainder
returns-in-43 c = arm inverses 43 c.in-43.is

pub returns-in-44 : goal.returns-in-44
unfolding inverses entry tabulate invert least_from multiply is_polynomial times remainder
returns-in-44 c = arm inverses 44 c.in-44.is

pub returns-in-45 : goal.returns-in-45
unfolding inverses entry tabulate invert least_from multiply is_polynomial times remainder
returns-in-45 c = arm inverses 45 c.in-45.is

pub returns-in-46 : goal.returns-in-46
unfolding inverses entry tabulate invert least_from multiply is_polynomial times remainder
returns-in-46 c = arm inverses 46 c.in-46.is

pub returns-in-47 : goal.returns-in-47
unfolding inverses entry tabulate invert least_from multiply is_polynomial times remainder
returns-in-47 c = arm inverses 47 c.in-47.is

pub returns-in_default : goal.returns-in_default
unfolding inverses entry tabulate invert least_from multiply is_polynomial times remainder
returns-in_default c = past inverses c.args.at (search rules)
