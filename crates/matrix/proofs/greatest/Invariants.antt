-- So far no byte is above the greatest, which is one of them or 0.
use Rattle.std.proofs.Common.{◌≡◌, ℕ, ◌<◌, ltb}
use Rattle.matrix.specs.Laws.Tests.{below_to}
use Rattle.matrix.proofs.greatest.Given as goal

abbrev pub invariant-loop-place : goal.invariant-loop-place
invariant-loop-place l = (q : ℕ) → 0 < q → below_to q l.m l.place ≡ ltb l.greatest q
