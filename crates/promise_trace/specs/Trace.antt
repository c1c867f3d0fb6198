-- When two receivers are compared, and when two lists of rows have the same rows. Order 9: "The service desk wants to compare two receivers
-- byte by byte. Take two receivers started with the same settings and pack, and two sequences of offered rows. If each row accepted in
-- either sequence is also accepted in the other, however often and at whatever place, both end equal in every field. More strongly, they are
-- equal exactly when the accepted rows span the same space. Refused and idle rows are allowed anywhere."
--   SameFields a b      == the receivers a and b are equal in every field
--   Covered rows others == each row of `rows` that isn't zero is one of `others`, however often and at whatever place
-- Assumes nothing.
use Rattle.std.specs.Prelude.{◌≡◌, false, List, ℕ}
use Rattle.linear.specs.Span.{Among}
use Rattle.receiver.specs.Receiver.{is_zero}
use Rattle.receiver.specs.declared.Receiver.{Receiver}

abbrev pub SameFields : Receiver → Receiver → Type 0
SameFields a b =
    (a.entries ≡ b.entries)
    × (a.q ≡ b.q)
    × (a.n ≡ b.n)
    × (a.k ≡ b.k)
    × (a.dimension ≡ b.dimension)
    × (a.pack ≡ b.pack)

abbrev pub Covered : List (List ℕ) → List (List ℕ) → Type 0
Covered rows others = (row : List ℕ) → Among row rows → is_zero row ≡ false → Among row others
