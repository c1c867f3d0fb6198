-- The test of a matrix on one walk. Order 3: "row by row, each entry goes once into a state without an array, and nothing else of the
-- matrix is tested". A row's code has two bits for each column from the left; `width` is how many bits a code can have.
--   digit x            == the two bits of an entry: 0 or 1 as it is, 2 where it is more
--   fresh, entered     == a row of which nothing is read, and with one more entry x
--   row_read n m i j    == row i of the matrix m with n columns, its first j entries read
--   started            == no row has ended
--   extends n w z      == the rows that have ended are reduced together with one more, whose code has z zeros below its lowest bit: its
--                         first nonzero entry is in column z/2, and is 1 where z is even
--   bounded w r        == the least number above the entries of the rows that have ended and of the row r
--   ended width n w r  == the rows that have ended, and the row r after them
--   walked width n m i == the first i rows have ended
--   oversized q w      == the walk tells that an entry of the rows is q or more
-- Assumes nothing.
use Rattle.std.specs.Prelude.{Bool, true, ◌&&◌, List, ℕ, zero, suc, ◌+◌, ◌*◌, ◌-◌, ◌^◌, ◌/◌, ◌%◌, max, eqb, ltb, leb}
use Rattle.std.specs.Int.Bits.{bit_or}
use Rattle.std.specs.Int.Count.{count_trailing_zeros}
use Rattle.basics.specs.Choice.{pick}
use Rattle.matrix.specs.Matrix.{entry}
use Rattle.walk.specs.declared.Row.{Row}
use Rattle.walk.specs.declared.Walk.{Walk}

abbrev pub digit : ℕ → ℕ
digit x = pick (ltb x 2) x 2

abbrev pub fresh : Row
fresh = record { column = 0; greatest = 0; code = 0 }

unfoldable pub entered : Row → ℕ → Row
entered r x =
    record { column = suc r.column; greatest = max r.greatest x; code = r.code + digit x * 2 ^ (2 * r.column) }

unfoldable pub row_read : ℕ → List ℕ → ℕ → ℕ → Row
row_read n m i zero = fresh
row_read n m i (suc j) = entered (row_read n m i j) (entry n m i j)

abbrev pub started : Walk
started = record { bound = 0; code = 0; least = 0; reduced = true; vector = 0 }

unfoldable pub extends : ℕ → Walk → ℕ → Bool
extends n w z =
    w.reduced && (ltb (z / 2) n && (eqb (z % 2) 0 && (leb w.least (z / 2) && eqb (w.code / 2 ^ z % 4) 0)))

abbrev pub bounded : Walk → Row → ℕ
bounded w r = pick (ltb 0 r.column) (max w.bound (suc r.greatest)) w.bound

unfoldable pub ended : ℕ → ℕ → Walk → Row → Walk
ended width n w r =
    let z = count_trailing_zeros width r.code in
    record {
      bound = bounded w r;
      code = bit_or w.code r.code;
      least = pick (extends n w z) (suc (z / 2)) w.least;
      reduced = extends n w z;
      vector = pick (extends n w z) (w.vector + 2 ^ (n - 1 - z / 2)) 0;
    }

unfoldable pub walked : ℕ → ℕ → List ℕ → ℕ → Walk
walked width n m zero = started
walked width n m (suc i) = ended width n (walked width n m i) (row_read n m i n)

abbrev pub oversized : ℕ → Walk → Bool
oversized q w = ltb q w.bound
