-- One zero row put into a list of calls; no part of the meaning.
--   put-value, put-lent == a zero row put in at one place
-- Assumes nothing.
use Rattle.std.specs.Prelude.{List, [], ◌∷◌, ◌++◌, ℕ}
use Rattle.promise_recovery.specs.Calls.{Call, take_value, take_lent}
use Rattle.promise_idle.specs.Idle.{zeros, WithIdle, none as nothing, call, idle_value, idle_lent}

same-calls : (n : ℕ) (cs : List Call) → WithIdle n cs cs
same-calls n [] = nothing
same-calls n (c ∷ cs) = call c (same-calls n cs)

pub put-value : (pack n : ℕ) (cs ds : List Call) → WithIdle n (cs ++ ds) (cs ++ (take_value (zeros pack n) ∷ ds))
put-value pack n [] ds = idle_value pack (same-calls n ds)
put-value pack n (c ∷ cs) ds = call c (put-value pack n cs ds)

pub put-lent : (pack n : ℕ) (cs ds : List Call) → WithIdle n (cs ++ ds) (cs ++ (take_lent (zeros pack n) ∷ ds))
put-lent pack n [] ds = idle_lent pack (same-calls n ds)
put-lent pack n (c ∷ cs) ds = call c (put-lent pack n cs ds)
