-- Examples that tell document 01 from readings that its marked examples do not tell from it.
--   readings  == the table
-- Assumes nothing.
use Rattle.std.specs.Prelude.{List, [], ◌∷◌, ◌++◌, ℕ, replicate}
use Rattle.receiver.specs.Receiver.{Offer, offer}
use Rattle.promise_recovery.specs.Calls.{take_value, take_lent, close}
use Rattle.worked_examples.specs.Answer.{Example, ◌⇒◌, lent, paper, fields, receiver, image}
use Rattle.worked_examples.specs.Answer.{number, draw, reduce, distance, receive, receive_c, calls, list}

-- diagrams of 3,1,1,1 and of 2,2,2,0 dots: at n = 7, k = 3 the first two diagrams that another order of formula (12) would exchange
abbrev steep : List ℕ
steep = 1 ∷ 0 ∷ 0 ∷ 0 ∷ 0 ∷ 0 ∷ 0 ∷ 0 ∷ 0 ∷ 0 ∷ 0 ∷ 1 ∷ 0 ∷ 0 ∷ 0 ∷ 0 ∷ 0 ∷ 0 ∷ 0 ∷ 1 ∷ 0 ∷ []

abbrev level : List ℕ
level = 0 ∷ 1 ∷ 0 ∷ 0 ∷ 0 ∷ 0 ∷ 0 ∷ 0 ∷ 0 ∷ 1 ∷ 0 ∷ 0 ∷ 0 ∷ 0 ∷ 0 ∷ 0 ∷ 0 ∷ 0 ∷ 0 ∷ 0 ∷ 1 ∷ []

-- the bytes of `extended,ferrers,rows` and of the lines 0,0,10 1,1,11 2,2,12 3,3,13 4,4,01
abbrev five_lines : List ℕ
five_lines =
    fields
    ++ (48 ∷ 44 ∷ 48 ∷ 44 ∷ 49 ∷ 48 ∷ 10 ∷ [])
    ++ (49 ∷ 44 ∷ 49 ∷ 44 ∷ 49 ∷ 49 ∷ 10 ∷ [])
    ++ (50 ∷ 44 ∷ 50 ∷ 44 ∷ 49 ∷ 50 ∷ 10 ∷ [])
    ++ (51 ∷ 44 ∷ 51 ∷ 44 ∷ 49 ∷ 51 ∷ 10 ∷ [])
    ++ (52 ∷ 44 ∷ 52 ∷ 44 ∷ 48 ∷ 49 ∷ 10 ∷ [])

-- rows of three entries, offered for the pack 258
abbrev own : ℕ → ℕ → ℕ → Offer
own a b c = offer 258 (a ∷ b ∷ c ∷ [])

-- the receiver of 2,3,2 and the pack 258 that holds 101/011, by its fields
abbrev plane : List ℕ
plane = image (receiver 2 3 2 258 2 (1 ∷ 0 ∷ 1 ∷ 0 ∷ 1 ∷ 1 ∷ []))

abbrev pub readings : List Example
readings =
    -- a column of the tableau is read from top to bottom: 1010/0100 over three elements
    (number 3 4 2 2 (1 ∷ 0 ∷ 1 ∷ 0 ∷ 0 ∷ 1 ∷ 0 ∷ 0 ∷ []) ⇒ (0 ∷ 3 ∷ []))
    ∷ (number 2 7 3 2 steep ⇒ (0 ∷ 11392 ∷ []))
    ∷ (number 2 7 3 2 level ⇒ (0 ∷ 11456 ∷ []))
    ∷ (draw 2 7 3 2 11392 (lent 21) ⇒ (0 ∷ steep))
    ∷ (draw 2 7 3 2 11456 (lent 21) ⇒ (0 ∷ level))
    -- no two elements of the larger fields are renamed: 2 · 3 = 6 is 1 over five elements, and 2 · 4 = 8 is 1 over seven
    ∷ (reduce 5 2 1 (2 ∷ 1 ∷ []) (lent 4) ⇒ (0 ∷ 1 ∷ 2 ∷ 1 ∷ 3 ∷ 0 ∷ 0 ∷ []))
    ∷ (reduce 5 2 1 (4 ∷ 1 ∷ []) (lent 4) ⇒ (0 ∷ 1 ∷ 2 ∷ 1 ∷ 4 ∷ 0 ∷ 0 ∷ []))
    ∷ (reduce 7 2 1 (2 ∷ 1 ∷ []) (lent 4) ⇒ (0 ∷ 1 ∷ 2 ∷ 1 ∷ 4 ∷ 0 ∷ 0 ∷ []))
    ∷ (reduce 7 2 1 (3 ∷ 1 ∷ []) (lent 4) ⇒ (0 ∷ 1 ∷ 2 ∷ 1 ∷ 5 ∷ 0 ∷ 0 ∷ []))
    ∷ (reduce 7 2 1 (6 ∷ 1 ∷ []) (lent 4) ⇒ (0 ∷ 1 ∷ 2 ∷ 1 ∷ 6 ∷ 0 ∷ 0 ∷ []))
    ∷ (receive 5 2 1 1 1 (2 ∷ 1 ∷ []) ⇒ (0 ∷ 3 ∷ 1 ∷ 2 ∷ []))
    ∷ (receive 7 2 1 1 1 (3 ∷ 1 ∷ []) ⇒ (0 ∷ 5 ∷ 1 ∷ 2 ∷ []))
    -- order 7: over four elements t·(t + 1) = 2 · 3 is 1, and over eight t·(t^2 + 1) = 2 · 5; with t^3 + t^2 + 1 it would be 2 · 6
    ∷ (reduce 4 2 1 (2 ∷ 1 ∷ []) (lent 4) ⇒ (0 ∷ 1 ∷ 2 ∷ 1 ∷ 3 ∷ 0 ∷ 0 ∷ []))
    ∷ (reduce 4 2 1 (3 ∷ 1 ∷ []) (lent 4) ⇒ (0 ∷ 1 ∷ 2 ∷ 1 ∷ 2 ∷ 0 ∷ 0 ∷ []))
    ∷ (reduce 8 2 1 (2 ∷ 1 ∷ []) (lent 4) ⇒ (0 ∷ 1 ∷ 2 ∷ 1 ∷ 5 ∷ 0 ∷ 0 ∷ []))
    ∷ (reduce 8 2 1 (3 ∷ 1 ∷ []) (lent 4) ⇒ (0 ∷ 1 ∷ 2 ∷ 1 ∷ 6 ∷ 0 ∷ 0 ∷ []))
    ∷ (reduce 8 2 1 (4 ∷ 1 ∷ []) (lent 4) ⇒ (0 ∷ 1 ∷ 2 ∷ 1 ∷ 7 ∷ 0 ∷ 0 ∷ []))
    ∷ (receive 4 2 1 1 1 (2 ∷ 1 ∷ []) ⇒ (0 ∷ 3 ∷ 1 ∷ 2 ∷ []))
    ∷ (receive 8 2 1 2 1 (2 ∷ 1 ∷ []) ⇒ (0 ∷ 5 ∷ 1 ∷ 2 ∷ []))
    -- sums are bit by bit: 113 and 132 differ by 021, and 153 and 174 by 027; modulo q they would differ by 023 and 021
    ∷ (reduce 4 3 2 (1 ∷ 1 ∷ 3 ∷ 1 ∷ 3 ∷ 2 ∷ []) (lent 9) ⇒ (0 ∷ 2 ∷ 6 ∷ 1 ∷ 0 ∷ 0 ∷ 0 ∷ 1 ∷ 3 ∷ 0 ∷ 0 ∷ 0 ∷ []))
    ∷ (reduce 8 3 2 (1 ∷ 5 ∷ 3 ∷ 1 ∷ 7 ∷ 4 ∷ []) (lent 9) ⇒ (0 ∷ 2 ∷ 6 ∷ 1 ∷ 0 ∷ 0 ∷ 0 ∷ 1 ∷ 6 ∷ 0 ∷ 0 ∷ 0 ∷ []))
    -- numberings and listing use the entries as numbers
    ∷ (number 8 3 1 1 (1 ∷ 2 ∷ 7 ∷ []) ⇒ (0 ∷ 65 ∷ []))
    ∷ (draw 8 3 1 2 58 (lent 3) ⇒ (0 ∷ 1 ∷ 2 ∷ 7 ∷ []))
    ∷ (list (52 ∷ 44 ∷ 50 ∷ 44 ∷ 49 ∷ 10 ∷ []) ⇒ five_lines)
    -- an identifying vector is read from the right, column 1 at value 1: 011001/000100/000011 has 010110, 22, and not 26; 44 or 11
    ∷ (reduce 2 6 3 paper (lent 36) ⇒ (0 ∷ 3 ∷ 22 ∷ paper ++ replicate 18 0))
    ∷ (receive 2 6 3 1 3 paper ⇒ (0 ∷ 928 ∷ 3 ∷ 22 ∷ []))
    ∷ (receive 2 6 3 2 3 paper ⇒ (0 ∷ 1323 ∷ 3 ∷ 22 ∷ []))
    -- its bytes, least first: pivots in columns 10 and 1 of 16 are 512 + 1, the bytes 1 and 2
    ∷ (receive_c 2 16 3 1 2 (replicate 6 0 ++ (1 ∷ replicate 24 0 ++ (1 ∷ []))) (lent 11)
    ⇒ (8 ∷ replicate 8 0 ++ (2 ∷ 1 ∷ 2 ∷ [])))
    ∷ (receive_c 2 9 1 1 1 (1 ∷ replicate 8 0) (lent 11) ⇒ (0 ∷ replicate 8 0 ++ (1 ∷ 0 ∷ 1 ∷ [])))
    -- no dimension has the vector 0, and all of them have all ones
    ∷ (receive 2 3 0 1 0 [] ⇒ (0 ∷ 0 ∷ 0 ∷ 0 ∷ []))
    ∷ (receive 2 3 3 1 3 (1 ∷ 0 ∷ 0 ∷ 0 ∷ 1 ∷ 0 ∷ 0 ∷ 0 ∷ 1 ∷ []) ⇒ (0 ∷ 0 ∷ 3 ∷ 7 ∷ []))
    -- order 9: 110, 011 leave no trace of their sequence, of a repeat, a zero row, a row of the pack 259 and a Close; nor do 101, 110, which
    -- have the same span
    ∷ (calls 2 3 2 258 (take_value (own 1 1 0) ∷ take_lent (own 0 1 1) ∷ []) ⇒ (1 ∷ 1 ∷ 0 ∷ 0 ∷ 1 ∷ 1 ∷ plane))
    ∷ (calls 2 3 2 258
    (take_lent (own 0 1 1) ∷ take_value (own 0 0 0) ∷ take_lent (offer 259 (1 ∷ 1 ∷ 1 ∷ [])) ∷ close 1 ∷ take_value (own 1 1 0)
    ∷ take_value (own 0 1 1) ∷ [])
    ⇒ (0 ∷ 1 ∷ 1 ∷ 0 ∷ 0 ∷ 0 ∷ 1 ∷ 1 ∷ 0 ∷ 0 ∷ 1 ∷ 1 ∷ plane))
    ∷ (calls 2 3 2 258 (take_lent (own 1 0 1) ∷ take_value (own 1 1 0) ∷ []) ⇒ (1 ∷ 0 ∷ 1 ∷ 1 ∷ 1 ∷ 0 ∷ plane))
    -- as many dimensions of another span, 110/001, and the first rows in a receiver of another pack, leave other receivers
    ∷ (calls 2 3 2 258 (take_value (own 1 1 0) ∷ take_lent (own 1 1 1) ∷ [])
    ⇒ (1 ∷ 1 ∷ 0 ∷ 1 ∷ 1 ∷ 1 ∷ image (receiver 2 3 2 258 2 (1 ∷ 1 ∷ 0 ∷ 0 ∷ 0 ∷ 1 ∷ []))))
    ∷ (calls 2 3 2 259 (take_value (offer 259 (1 ∷ 1 ∷ 0 ∷ [])) ∷ take_lent (offer 259 (0 ∷ 1 ∷ 1 ∷ [])) ∷ [])
    ⇒ (1 ∷ 1 ∷ 0 ∷ 0 ∷ 1 ∷ 1 ∷ image (receiver 2 3 2 259 2 (1 ∷ 0 ∷ 1 ∷ 0 ∷ 1 ∷ 1 ∷ []))))
    -- order 10: twice the joint dimension, less both. 110 and 011 are 2 apart, and not 0, as with the joint dimension taken once; 110 and
    -- 110/011 are 1 apart either way round, and two planes 2, as many as the rows that they don't share; nothing and the whole space are 3
    ∷ (distance 2 3 1 (1 ∷ 1 ∷ 0 ∷ []) 1 (0 ∷ 1 ∷ 1 ∷ []) ⇒ (0 ∷ 2 ∷ []))
    ∷ (distance 2 3 1 (1 ∷ 1 ∷ 0 ∷ []) 2 (1 ∷ 1 ∷ 0 ∷ 0 ∷ 1 ∷ 1 ∷ []) ⇒ (0 ∷ 1 ∷ []))
    ∷ (distance 2 3 2 (1 ∷ 1 ∷ 0 ∷ 0 ∷ 1 ∷ 1 ∷ []) 1 (1 ∷ 1 ∷ 0 ∷ []) ⇒ (0 ∷ 1 ∷ []))
    ∷ (distance 2 3 2 (1 ∷ 0 ∷ 0 ∷ 0 ∷ 1 ∷ 0 ∷ []) 2 (0 ∷ 1 ∷ 0 ∷ 0 ∷ 0 ∷ 1 ∷ []) ⇒ (0 ∷ 2 ∷ []))
    ∷ (distance 2 3 0 [] 3 (1 ∷ 0 ∷ 0 ∷ 0 ∷ 1 ∷ 0 ∷ 0 ∷ 0 ∷ 1 ∷ []) ⇒ (0 ∷ 3 ∷ []))
    -- equal spans are 0 apart: of other rows, of a multiple over three and over four elements, of repeats and zero rows, and of no rows
    ∷ (distance 2 3 2 (1 ∷ 1 ∷ 0 ∷ 0 ∷ 1 ∷ 1 ∷ []) 2 (1 ∷ 0 ∷ 1 ∷ 1 ∷ 1 ∷ 0 ∷ []) ⇒ (0 ∷ 0 ∷ []))
    ∷ (distance 3 2 1 (2 ∷ 1 ∷ []) 1 (1 ∷ 2 ∷ []) ⇒ (0 ∷ 0 ∷ []))
    ∷ (distance 4 2 1 (2 ∷ 1 ∷ []) 1 (1 ∷ 3 ∷ []) ⇒ (0 ∷ 0 ∷ []))
    ∷ (distance 2 3 3 (1 ∷ 1 ∷ 0 ∷ 1 ∷ 1 ∷ 0 ∷ 0 ∷ 0 ∷ 0 ∷ []) 1 (1 ∷ 1 ∷ 0 ∷ []) ⇒ (0 ∷ 0 ∷ []))
    ∷ (distance 2 3 0 [] 0 [] ⇒ (0 ∷ 0 ∷ []))
    -- 64 rows on either side, and 16 columns
    ∷ (distance 2 1 64 (replicate 64 1) 64 (replicate 64 0) ⇒ (0 ∷ 1 ∷ []))
    ∷ (distance 2 16 1 (1 ∷ replicate 15 0) 1 (replicate 15 0 ++ (1 ∷ [])) ⇒ (0 ∷ 2 ∷ []))
    ∷ []
