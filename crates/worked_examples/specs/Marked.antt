-- Document 01's "Bench examples", those marked *; with order 2's identifying vector in the answers of Reduce and Receive.
--   marked   == the table
-- Assumes nothing.
use Rattle.std.specs.Prelude.{List, [], ◌∷◌, ◌++◌, ℕ}
use Rattle.worked_examples.specs.Answer.{Example, ◌⇒◌, count, draw, number, reduce, receive, list, summands, lent, paper, fields}

-- 000100/000010/000001
abbrev last : List ℕ
last = 0 ∷ 0 ∷ 0 ∷ 1 ∷ 0 ∷ 0 ∷ 0 ∷ 0 ∷ 0 ∷ 0 ∷ 1 ∷ 0 ∷ 0 ∷ 0 ∷ 0 ∷ 0 ∷ 0 ∷ 1 ∷ []

-- the bytes of the lines 0,0,100 1,1,110 2,4,010 3,2,101 4,3,111 5,5,011 6,6,001
abbrev seven_lines : List ℕ
seven_lines =
    (48 ∷ 44 ∷ 48 ∷ 44 ∷ 49 ∷ 48 ∷ 48 ∷ 10 ∷ [])
    ++ (49 ∷ 44 ∷ 49 ∷ 44 ∷ 49 ∷ 49 ∷ 48 ∷ 10 ∷ [])
    ++ (50 ∷ 44 ∷ 52 ∷ 44 ∷ 48 ∷ 49 ∷ 48 ∷ 10 ∷ [])
    ++ (51 ∷ 44 ∷ 50 ∷ 44 ∷ 49 ∷ 48 ∷ 49 ∷ 10 ∷ [])
    ++ (52 ∷ 44 ∷ 51 ∷ 44 ∷ 49 ∷ 49 ∷ 49 ∷ 10 ∷ [])
    ++ (53 ∷ 44 ∷ 53 ∷ 44 ∷ 48 ∷ 49 ∷ 49 ∷ 10 ∷ [])
    ++ (54 ∷ 44 ∷ 54 ∷ 44 ∷ 48 ∷ 48 ∷ 49 ∷ 10 ∷ [])

abbrev pub marked : List Example
marked =
    -- "q=2, n=6, k=3, rows 011001/000100/000011: extended 928 (document 001, Example 4), Ferrers 1312 + 0 + 11 = 1323."
    (number 2 6 3 1 paper ⇒ (0 ∷ 928 ∷ []))
    ∷ (number 2 6 3 2 paper ⇒ (0 ∷ 1323 ∷ []))
    ∷ (summands 2 6 3 paper ⇒ (1312 ∷ 0 ∷ 11 ∷ []))
    ∷ (draw 2 6 3 1 928 (lent 18) ⇒ (0 ∷ paper))
    ∷ (draw 2 6 3 2 1323 (lent 18) ⇒ (0 ∷ paper))
    -- "There N = 1395; 1394 in both numberings is 000100/000010/000001; 1395 is refused 5."
    ∷ (count 2 6 3 ⇒ (0 ∷ 1395 ∷ []))
    ∷ (draw 2 6 3 1 1394 (lent 18) ⇒ (0 ∷ last))
    ∷ (draw 2 6 3 2 1394 (lent 18) ⇒ (0 ∷ last))
    ∷ (number 2 6 3 1 last ⇒ (0 ∷ 1394 ∷ []))
    ∷ (number 2 6 3 2 last ⇒ (0 ∷ 1394 ∷ []))
    ∷ (draw 2 6 3 1 1395 (lent 18) ⇒ (5 ∷ lent 18))
    ∷ (draw 2 6 3 2 1395 (lent 18) ⇒ (5 ∷ lent 18))
    -- "2,3,1: the seven lines above."
    ∷ (list (50 ∷ 44 ∷ 51 ∷ 44 ∷ 49 ∷ 10 ∷ []) ⇒ (fields ++ seven_lines))
    -- "2,3,0: one empty matrix, index 0 in both; its listing line is `0,0,`."
    ∷ (list (50 ∷ 44 ∷ 51 ∷ 44 ∷ 48 ∷ 10 ∷ []) ⇒ (fields ++ (48 ∷ 44 ∷ 48 ∷ 44 ∷ 10 ∷ [])))
    ∷ (count 2 3 0 ⇒ (0 ∷ 1 ∷ []))
    ∷ (draw 2 3 0 1 0 (lent 0) ⇒ (0 ∷ []))
    ∷ (draw 2 3 0 2 0 (lent 0) ⇒ (0 ∷ []))
    ∷ (number 2 3 0 1 [] ⇒ (0 ∷ 0 ∷ []))
    ∷ (number 2 3 0 2 [] ⇒ (0 ∷ 0 ∷ []))
    -- "q=3, n=2, k=1: row 21 received gives matrix 12, index 2. N for 3,4,2 is 130."
    ∷ (reduce 3 2 1 (2 ∷ 1 ∷ []) (lent 4) ⇒ (0 ∷ 1 ∷ 2 ∷ 1 ∷ 2 ∷ 0 ∷ 0 ∷ []))
    ∷ (receive 3 2 1 1 1 (2 ∷ 1 ∷ []) ⇒ (0 ∷ 2 ∷ 1 ∷ 2 ∷ []))
    ∷ (receive 3 2 1 2 1 (2 ∷ 1 ∷ []) ⇒ (0 ∷ 2 ∷ 1 ∷ 2 ∷ []))
    ∷ (count 3 4 2 ⇒ (0 ∷ 130 ∷ []))
    -- "2,3,2: rows 110, 011, 101 give 101/011, index 3 in both. Row 110 alone: 8, dimension 1. Rows 100, 010, 001: 9, dimension 3."
    ∷ (reduce 2 3 3 (1 ∷ 1 ∷ 0 ∷ 0 ∷ 1 ∷ 1 ∷ 1 ∷ 0 ∷ 1 ∷ []) (lent 9) ⇒ (0 ∷ 2 ∷ 6 ∷ 1 ∷ 0 ∷ 1 ∷ 0 ∷ 1 ∷ 1 ∷ 0 ∷ 0 ∷ 0 ∷ []))
    ∷ (receive 2 3 2 1 3 (1 ∷ 1 ∷ 0 ∷ 0 ∷ 1 ∷ 1 ∷ 1 ∷ 0 ∷ 1 ∷ []) ⇒ (0 ∷ 3 ∷ 2 ∷ 6 ∷ []))
    ∷ (receive 2 3 2 2 3 (1 ∷ 1 ∷ 0 ∷ 0 ∷ 1 ∷ 1 ∷ 1 ∷ 0 ∷ 1 ∷ []) ⇒ (0 ∷ 3 ∷ 2 ∷ 6 ∷ []))
    ∷ (receive 2 3 2 1 1 (1 ∷ 1 ∷ 0 ∷ []) ⇒ (8 ∷ 0 ∷ 1 ∷ 4 ∷ []))
    ∷ (receive 2 3 2 2 1 (1 ∷ 1 ∷ 0 ∷ []) ⇒ (8 ∷ 0 ∷ 1 ∷ 4 ∷ []))
    ∷ (receive 2 3 2 1 3 (1 ∷ 0 ∷ 0 ∷ 0 ∷ 1 ∷ 0 ∷ 0 ∷ 0 ∷ 1 ∷ []) ⇒ (9 ∷ 0 ∷ 3 ∷ 7 ∷ []))
    ∷ (receive 2 3 2 2 3 (1 ∷ 0 ∷ 0 ∷ 0 ∷ 1 ∷ 0 ∷ 0 ∷ 0 ∷ 1 ∷ []) ⇒ (9 ∷ 0 ∷ 3 ∷ 7 ∷ []))
    -- "2,2,2: 11/01 is refused 7; 11/02 is refused 6, though it isn't reduced either."
    ∷ (number 2 2 2 1 (1 ∷ 1 ∷ 0 ∷ 1 ∷ []) ⇒ (7 ∷ 0 ∷ []))
    ∷ (number 2 2 2 2 (1 ∷ 1 ∷ 0 ∷ 1 ∷ []) ⇒ (7 ∷ 0 ∷ []))
    ∷ (number 2 2 2 1 (1 ∷ 1 ∷ 0 ∷ 2 ∷ []) ⇒ (6 ∷ 0 ∷ []))
    ∷ (number 2 2 2 2 (1 ∷ 1 ∷ 0 ∷ 2 ∷ []) ⇒ (6 ∷ 0 ∷ []))
    ∷ []
