-- Refusals, call by call: each alone, each two neighbours in document 01's order together, and what is left in each case.
--   refusals  == the table
-- Assumes nothing.
use Rattle.std.specs.Prelude.{List, [], ◌∷◌, ◌++◌, ℕ, replicate}
use Rattle.receiver.specs.declared.Receiver.{Receiver}
use Rattle.worked_examples.specs.Answer.{Example, ◌⇒◌, lent, receiver, image, paper}
use Rattle.worked_examples.specs.Answer.{count, draw, draw_batch, number, convert, reduce, distance, receive, receive_c}
use Rattle.worked_examples.specs.Answer.{start, take_value, take_lent, close, pool, list, listable, write}

-- receivers of the pack 258, of 2,3,2: that hold no row, the row 110, the rows 101/011, and all three unit rows; one of 2,3,1 that holds
-- 010
abbrev no_rows : Receiver
no_rows = receiver 2 3 2 258 0 []

abbrev one_row : Receiver
one_row = receiver 2 3 2 258 1 (1 ∷ 1 ∷ 0 ∷ [])

abbrev two_rows : Receiver
two_rows = receiver 2 3 2 258 2 (1 ∷ 0 ∷ 1 ∷ 0 ∷ 1 ∷ 1 ∷ [])

abbrev three_rows : Receiver
three_rows = receiver 2 3 2 258 3 (1 ∷ 0 ∷ 0 ∷ 0 ∷ 1 ∷ 0 ∷ 0 ∷ 0 ∷ 1 ∷ [])

abbrev middle : Receiver
middle = receiver 2 3 1 258 1 (0 ∷ 1 ∷ 0 ∷ [])

-- receivers of 2,3,2 that hold 100/010, and 010/001; of 3,2,1 that hold 12, and 10; like the first, but for q, for n and for k; and like
-- the second, but for the high byte of the pack, and for the low one
abbrev left_plane : Receiver
left_plane = receiver 2 3 2 258 2 (1 ∷ 0 ∷ 0 ∷ 0 ∷ 1 ∷ 0 ∷ [])

abbrev right_plane : Receiver
right_plane = receiver 2 3 2 258 2 (0 ∷ 1 ∷ 0 ∷ 0 ∷ 0 ∷ 1 ∷ [])

abbrev slanted : Receiver
slanted = receiver 3 2 1 258 1 (1 ∷ 2 ∷ [])

abbrev level : Receiver
level = receiver 3 2 1 258 1 (1 ∷ 0 ∷ [])

abbrev other_field : Receiver
other_field = receiver 3 3 2 258 2 (1 ∷ 0 ∷ 0 ∷ 0 ∷ 1 ∷ 0 ∷ [])

abbrev other_length : Receiver
other_length = receiver 2 4 2 258 0 []

abbrev other_dimension : Receiver
other_dimension = receiver 2 3 1 258 2 (1 ∷ 0 ∷ 0 ∷ 0 ∷ 1 ∷ 0 ∷ [])

abbrev other_pack : Receiver
other_pack = receiver 2 3 2 514 2 (0 ∷ 1 ∷ 0 ∷ 0 ∷ 0 ∷ 1 ∷ [])

abbrev next_pack : Receiver
next_pack = receiver 2 3 2 259 2 (0 ∷ 1 ∷ 0 ∷ 0 ∷ 0 ∷ 1 ∷ [])

-- the row 110 in receivers of the first and of the last pack, and what they hold with 011
abbrev first_pack : Receiver
first_pack = receiver 2 3 2 0 1 (1 ∷ 1 ∷ 0 ∷ [])

abbrev last_pack : Receiver
last_pack = receiver 2 3 2 65535 1 (1 ∷ 1 ∷ 0 ∷ [])

abbrev first_plane : Receiver
first_plane = receiver 2 3 2 0 2 (1 ∷ 0 ∷ 1 ∷ 0 ∷ 1 ∷ 1 ∷ [])

abbrev last_plane : Receiver
last_plane = receiver 2 3 2 65535 2 (1 ∷ 0 ∷ 1 ∷ 0 ∷ 1 ∷ 1 ∷ [])

-- receivers that Start and Take cannot leave: of all zeros; a dimension above n; no field size; an entry of q; a zero row; entries that
-- are not 0 where there is no row, and behind a row
abbrev zeros : Receiver
zeros = receiver 0 0 0 0 0 []

abbrev too_many_rows : Receiver
too_many_rows = receiver 2 3 2 258 4 []

abbrev no_field : Receiver
no_field = receiver 6 3 2 258 0 []

abbrev oversized : Receiver
oversized = receiver 2 3 2 258 1 (2 ∷ 0 ∷ 0 ∷ [])

abbrev zero_row : Receiver
zero_row = receiver 2 3 2 258 1 (0 ∷ 0 ∷ 0 ∷ [])

abbrev left_over : Receiver
left_over = receiver 2 3 2 258 0 (1 ∷ [])

abbrev behind_the_row : Receiver
behind_the_row = receiver 2 3 2 258 1 (1 ∷ 1 ∷ 0 ∷ 1 ∷ [])

-- `refused,1` and a line feed
abbrev refused1 : List ℕ
refused1 = 114 ∷ 101 ∷ 102 ∷ 117 ∷ 115 ∷ 101 ∷ 100 ∷ 44 ∷ 49 ∷ 10 ∷ []

-- `refused,2` and a line feed
abbrev refused2 : List ℕ
refused2 = 114 ∷ 101 ∷ 102 ∷ 117 ∷ 115 ∷ 101 ∷ 100 ∷ 44 ∷ 50 ∷ 10 ∷ []

-- `refused,3` and a line feed
abbrev refused3 : List ℕ
refused3 = 114 ∷ 101 ∷ 102 ∷ 117 ∷ 115 ∷ 101 ∷ 100 ∷ 44 ∷ 51 ∷ 10 ∷ []

-- `refused,11` and a line feed
abbrev refused11 : List ℕ
refused11 = 114 ∷ 101 ∷ 102 ∷ 117 ∷ 115 ∷ 101 ∷ 100 ∷ 44 ∷ 49 ∷ 49 ∷ 10 ∷ []

-- `refused,12` and a line feed
abbrev refused12 : List ℕ
refused12 = 114 ∷ 101 ∷ 102 ∷ 117 ∷ 115 ∷ 101 ∷ 100 ∷ 44 ∷ 49 ∷ 50 ∷ 10 ∷ []

abbrev pub refusals : List Example
refusals =
    -- Count: 1; 2, for n outside 1 to 16 and for k above n; 3; then the first of two
    (count 6 3 1 ⇒ (1 ∷ 0 ∷ []))
    ∷ (count 9 3 1 ⇒ (1 ∷ 0 ∷ []))
    ∷ (count 11 3 1 ⇒ (1 ∷ 0 ∷ []))
    ∷ (count 16 3 1 ⇒ (1 ∷ 0 ∷ []))
    ∷ (count 1 3 1 ⇒ (1 ∷ 0 ∷ []))
    ∷ (count 0 3 1 ⇒ (1 ∷ 0 ∷ []))
    ∷ (count 2 0 0 ⇒ (2 ∷ 0 ∷ []))
    ∷ (count 2 17 0 ⇒ (2 ∷ 0 ∷ []))
    ∷ (count 2 3 4 ⇒ (2 ∷ 0 ∷ []))
    ∷ (count 7 10 5 ⇒ (3 ∷ 0 ∷ []))
    ∷ (count 3 14 4 ⇒ (3 ∷ 0 ∷ []))
    ∷ (count 6 17 1 ⇒ (1 ∷ 0 ∷ []))
    ∷ (count 2 17 8 ⇒ (2 ∷ 0 ∷ []))
    -- and where none applies: each size, and the longest row
    ∷ (count 2 16 1 ⇒ (0 ∷ 65535 ∷ []))
    ∷ (count 3 2 1 ⇒ (0 ∷ 4 ∷ []))
    ∷ (count 4 2 1 ⇒ (0 ∷ 5 ∷ []))
    ∷ (count 5 2 1 ⇒ (0 ∷ 6 ∷ []))
    ∷ (count 7 2 1 ⇒ (0 ∷ 8 ∷ []))
    ∷ (count 8 2 1 ⇒ (0 ∷ 9 ∷ []))
    ∷ (count 7 16 16 ⇒ (0 ∷ 1 ∷ []))
    -- and a count above 2^63
    ∷ (count 8 10 3 ⇒ (0 ∷ 10729268895402608265 ∷ []))
    -- Draw: each refusal alone leaves the buffer
    ∷ (draw 6 3 1 1 0 (lent 3) ⇒ (1 ∷ (lent 3)))
    ∷ (draw 2 17 1 1 0 (lent 3) ⇒ (2 ∷ (lent 3)))
    ∷ (draw 7 10 5 1 0 (lent 3) ⇒ (3 ∷ (lent 3)))
    ∷ (draw 2 3 1 0 0 (lent 3) ⇒ (10 ∷ (lent 3)))
    ∷ (draw 2 3 1 3 0 (lent 3) ⇒ (10 ∷ (lent 3)))
    ∷ (draw 2 3 1 1 0 (lent 2) ⇒ (4 ∷ (lent 2)))
    ∷ (draw 2 3 1 2 0 (lent 4) ⇒ (4 ∷ (lent 4)))
    ∷ (draw 2 3 1 1 7 (lent 3) ⇒ (5 ∷ (lent 3)))
    ∷ (draw 2 3 1 2 7 (lent 3) ⇒ (5 ∷ (lent 3)))
    -- and of two neighbours the first is told
    ∷ (draw 6 17 1 1 0 (lent 3) ⇒ (1 ∷ (lent 3)))
    ∷ (draw 2 17 8 1 0 (lent 3) ⇒ (2 ∷ (lent 3)))
    ∷ (draw 7 10 5 3 0 (lent 3) ⇒ (3 ∷ (lent 3)))
    ∷ (draw 2 3 1 3 0 (lent 1) ⇒ (10 ∷ (lent 1)))
    ∷ (draw 2 3 1 1 7 (lent 1) ⇒ (4 ∷ (lent 1)))
    -- and where none applies the matrix is left
    ∷ (draw 2 3 1 1 2 (lent 3) ⇒ (0 ∷ (0 ∷ 1 ∷ 0 ∷ [])))
    ∷ (draw 2 3 1 2 2 (lent 3) ⇒ (0 ∷ (1 ∷ 0 ∷ 1 ∷ [])))
    -- Drawing a list: each refusal of the whole alone leaves both buffers, the matrices of 165s and then the answers of 9s
    ∷ (draw_batch 6 3 1 1 (0 ∷ 1 ∷ []) (lent 6) (9 ∷ 9 ∷ []) ⇒ (1 ∷ lent 6 ++ (9 ∷ 9 ∷ [])))
    ∷ (draw_batch 2 17 1 1 (0 ∷ 1 ∷ []) (lent 34) (9 ∷ 9 ∷ []) ⇒ (2 ∷ lent 34 ++ (9 ∷ 9 ∷ [])))
    ∷ (draw_batch 7 10 5 1 (0 ∷ []) (lent 50) (9 ∷ []) ⇒ (3 ∷ lent 50 ++ (9 ∷ [])))
    ∷ (draw_batch 2 3 1 0 (0 ∷ 1 ∷ []) (lent 6) (9 ∷ 9 ∷ []) ⇒ (10 ∷ lent 6 ++ (9 ∷ 9 ∷ [])))
    ∷ (draw_batch 2 3 1 3 (0 ∷ 1 ∷ []) (lent 6) (9 ∷ 9 ∷ []) ⇒ (10 ∷ lent 6 ++ (9 ∷ 9 ∷ [])))
    ∷ (draw_batch 2 3 1 1 (0 ∷ 1 ∷ []) (lent 5) (9 ∷ 9 ∷ []) ⇒ (4 ∷ lent 5 ++ (9 ∷ 9 ∷ [])))
    ∷ (draw_batch 2 3 1 1 (0 ∷ 1 ∷ []) (lent 7) (9 ∷ 9 ∷ []) ⇒ (4 ∷ lent 7 ++ (9 ∷ 9 ∷ [])))
    ∷ (draw_batch 2 3 1 1 (0 ∷ 1 ∷ []) (lent 6) (9 ∷ []) ⇒ (4 ∷ lent 6 ++ (9 ∷ [])))
    ∷ (draw_batch 2 3 1 1 (0 ∷ 1 ∷ []) (lent 6) (9 ∷ 9 ∷ 9 ∷ []) ⇒ (4 ∷ lent 6 ++ (9 ∷ 9 ∷ 9 ∷ [])))
    -- and of two neighbours the first is told
    ∷ (draw_batch 6 17 1 1 (0 ∷ []) (lent 17) (9 ∷ []) ⇒ (1 ∷ lent 17 ++ (9 ∷ [])))
    ∷ (draw_batch 2 17 8 1 (0 ∷ []) (lent 3) (9 ∷ []) ⇒ (2 ∷ lent 3 ++ (9 ∷ [])))
    ∷ (draw_batch 7 10 5 3 (0 ∷ []) (lent 50) (9 ∷ []) ⇒ (3 ∷ lent 50 ++ (9 ∷ [])))
    ∷ (draw_batch 2 3 1 3 (0 ∷ []) (lent 1) (9 ∷ []) ⇒ (10 ∷ lent 1 ++ (9 ∷ [])))
    ∷ (draw_batch 2 3 1 3 (0 ∷ []) (lent 3) [] ⇒ (10 ∷ lent 3))
    -- and where none applies each place is answered by itself: indexes of 7 and more, which is N, keep their part
    ∷ (draw_batch 2 3 1 1 (5 ∷ 7 ∷ 2 ∷ []) (1 ∷ 2 ∷ 3 ∷ 4 ∷ 5 ∷ 6 ∷ 7 ∷ 8 ∷ 9 ∷ []) (9 ∷ 9 ∷ 9 ∷ [])
    ⇒ (0 ∷ (0 ∷ 1 ∷ 1 ∷ 4 ∷ 5 ∷ 6 ∷ 0 ∷ 1 ∷ 0 ∷ []) ++ (0 ∷ 5 ∷ 0 ∷ [])))
    ∷ (draw_batch 2 3 1 2 (7 ∷ 2 ∷ 2 ∷ 8 ∷ []) (1 ∷ 2 ∷ 3 ∷ 4 ∷ 5 ∷ 6 ∷ 7 ∷ 8 ∷ 9 ∷ 10 ∷ 11 ∷ 12 ∷ []) (9 ∷ 9 ∷ 9 ∷ 9 ∷ [])
    ⇒ (0 ∷ (1 ∷ 2 ∷ 3 ∷ 1 ∷ 0 ∷ 1 ∷ 1 ∷ 0 ∷ 1 ∷ 10 ∷ 11 ∷ 12 ∷ []) ++ (5 ∷ 0 ∷ 0 ∷ 5 ∷ [])))
    -- an empty list is fine, and so are empty parts
    ∷ (draw_batch 2 3 1 1 [] [] [] ⇒ (0 ∷ []))
    ∷ (draw_batch 2 3 1 1 [] (lent 1) [] ⇒ (4 ∷ lent 1))
    ∷ (draw_batch 2 3 1 1 [] [] (9 ∷ []) ⇒ (4 ∷ 9 ∷ []))
    ∷ (draw_batch 2 3 0 1 (0 ∷ 1 ∷ 0 ∷ []) [] (9 ∷ 9 ∷ 9 ∷ []) ⇒ (0 ∷ 0 ∷ 5 ∷ 0 ∷ []))
    ∷ (draw_batch 2 3 0 2 (0 ∷ []) (lent 1) (9 ∷ []) ⇒ (4 ∷ lent 1 ++ (9 ∷ [])))
    -- Number
    ∷ (number 6 3 1 1 (0 ∷ 1 ∷ 0 ∷ []) ⇒ (1 ∷ 0 ∷ []))
    ∷ (number 2 17 1 1 (0 ∷ 1 ∷ 0 ∷ []) ⇒ (2 ∷ 0 ∷ []))
    ∷ (number 7 10 5 1 (0 ∷ 1 ∷ 0 ∷ []) ⇒ (3 ∷ 0 ∷ []))
    ∷ (number 2 3 1 0 (0 ∷ 1 ∷ 0 ∷ []) ⇒ (10 ∷ 0 ∷ []))
    ∷ (number 2 3 1 3 (0 ∷ 1 ∷ 0 ∷ []) ⇒ (10 ∷ 0 ∷ []))
    ∷ (number 2 3 1 1 (0 ∷ 1 ∷ []) ⇒ (4 ∷ 0 ∷ []))
    ∷ (number 2 3 1 1 (0 ∷ 1 ∷ 0 ∷ 0 ∷ []) ⇒ (4 ∷ 0 ∷ []))
    ∷ (number 2 3 1 1 (0 ∷ 2 ∷ 0 ∷ []) ⇒ (6 ∷ 0 ∷ []))
    ∷ (number 2 3 1 1 (0 ∷ 0 ∷ 0 ∷ []) ⇒ (7 ∷ 0 ∷ []))
    ∷ (number 6 17 1 1 (0 ∷ 1 ∷ 0 ∷ []) ⇒ (1 ∷ 0 ∷ []))
    ∷ (number 2 17 8 1 (0 ∷ 1 ∷ 0 ∷ []) ⇒ (2 ∷ 0 ∷ []))
    ∷ (number 7 10 5 3 (0 ∷ 1 ∷ 0 ∷ []) ⇒ (3 ∷ 0 ∷ []))
    ∷ (number 2 3 1 3 (0 ∷ []) ⇒ (10 ∷ 0 ∷ []))
    ∷ (number 2 3 1 1 (2 ∷ 2 ∷ []) ⇒ (4 ∷ 0 ∷ []))
    ∷ (number 2 3 1 2 (0 ∷ 2 ∷ 0 ∷ []) ⇒ (6 ∷ 0 ∷ []))
    -- each clause of a reduced matrix alone: a zero row, a pivot of 2, pivots that do not rise, a pivot with company
    ∷ (number 3 3 2 1 (1 ∷ 0 ∷ 0 ∷ 0 ∷ 0 ∷ 0 ∷ []) ⇒ (7 ∷ 0 ∷ []))
    ∷ (number 3 3 1 1 (2 ∷ 0 ∷ 0 ∷ []) ⇒ (7 ∷ 0 ∷ []))
    ∷ (number 3 3 2 1 (0 ∷ 1 ∷ 0 ∷ 1 ∷ 0 ∷ 0 ∷ []) ⇒ (7 ∷ 0 ∷ []))
    ∷ (number 3 3 2 1 (1 ∷ 1 ∷ 0 ∷ 0 ∷ 1 ∷ 0 ∷ []) ⇒ (7 ∷ 0 ∷ []))
    ∷ (number 2 3 1 1 (0 ∷ 1 ∷ 0 ∷ []) ⇒ (0 ∷ 2 ∷ []))
    ∷ (number 2 3 1 2 (0 ∷ 1 ∷ 0 ∷ []) ⇒ (0 ∷ 4 ∷ []))
    -- Convert: 10 for the first numbering, then the second; 5
    ∷ (convert 6 3 1 1 2 0 ⇒ (1 ∷ 0 ∷ []))
    ∷ (convert 2 17 1 1 2 0 ⇒ (2 ∷ 0 ∷ []))
    ∷ (convert 7 10 5 1 2 0 ⇒ (3 ∷ 0 ∷ []))
    ∷ (convert 2 3 1 0 2 0 ⇒ (10 ∷ 0 ∷ []))
    ∷ (convert 2 3 1 1 0 0 ⇒ (10 ∷ 0 ∷ []))
    ∷ (convert 2 3 1 1 2 7 ⇒ (5 ∷ 0 ∷ []))
    -- of two neighbours the first
    ∷ (convert 6 17 1 1 2 0 ⇒ (1 ∷ 0 ∷ []))
    ∷ (convert 2 17 8 1 2 0 ⇒ (2 ∷ 0 ∷ []))
    ∷ (convert 7 10 5 3 2 0 ⇒ (3 ∷ 0 ∷ []))
    ∷ (convert 6 3 1 1 3 0 ⇒ (1 ∷ 0 ∷ []))
    ∷ (convert 2 17 1 1 3 0 ⇒ (2 ∷ 0 ∷ []))
    ∷ (convert 7 10 5 1 3 0 ⇒ (3 ∷ 0 ∷ []))
    ∷ (convert 2 3 1 3 1 7 ⇒ (10 ∷ 0 ∷ []))
    ∷ (convert 2 3 1 1 3 7 ⇒ (10 ∷ 0 ∷ []))
    -- and where none applies the other index of the space
    ∷ (convert 2 3 1 1 2 2 ⇒ (0 ∷ 4 ∷ []))
    ∷ (convert 2 3 1 2 1 4 ⇒ (0 ∷ 2 ∷ []))
    ∷ (convert 2 3 1 1 1 2 ⇒ (0 ∷ 2 ∷ []))
    ∷ (convert 2 3 1 2 2 4 ⇒ (0 ∷ 4 ∷ []))
    -- Reduce: the refusal number, the dimension, the identifying vector, the output
    ∷ (reduce 6 2 1 (1 ∷ 0 ∷ []) (lent 4) ⇒ (1 ∷ 0 ∷ 0 ∷ (lent 4)))
    ∷ (reduce 2 0 0 [] [] ⇒ (2 ∷ 0 ∷ 0 ∷ []))
    ∷ (reduce 2 17 0 [] [] ⇒ (2 ∷ 0 ∷ 0 ∷ []))
    ∷ (reduce 2 1 65 (replicate 65 1) (lent 1) ⇒ (13 ∷ 0 ∷ 0 ∷ (lent 1)))
    ∷ (reduce 2 2 1 (1 ∷ []) (lent 4) ⇒ (4 ∷ 0 ∷ 0 ∷ (lent 4)))
    ∷ (reduce 2 2 1 (1 ∷ 0 ∷ 0 ∷ []) (lent 4) ⇒ (4 ∷ 0 ∷ 0 ∷ (lent 4)))
    ∷ (reduce 2 2 1 (1 ∷ 0 ∷ []) (lent 3) ⇒ (4 ∷ 0 ∷ 0 ∷ (lent 3)))
    ∷ (reduce 2 2 1 (1 ∷ 0 ∷ []) (lent 5) ⇒ (4 ∷ 0 ∷ 0 ∷ (lent 5)))
    ∷ (reduce 2 2 1 (1 ∷ 2 ∷ []) (lent 4) ⇒ (6 ∷ 0 ∷ 0 ∷ (lent 4)))
    -- of two neighbours the first
    ∷ (reduce 6 17 0 [] [] ⇒ (1 ∷ 0 ∷ 0 ∷ []))
    ∷ (reduce 2 17 65 [] [] ⇒ (2 ∷ 0 ∷ 0 ∷ []))
    ∷ (reduce 2 2 65 [] (lent 4) ⇒ (13 ∷ 0 ∷ 0 ∷ (lent 4)))
    ∷ (reduce 2 1 65 (replicate 65 1) (lent 2) ⇒ (13 ∷ 0 ∷ 0 ∷ (lent 2)))
    ∷ (reduce 2 2 1 (2 ∷ []) (lent 4) ⇒ (4 ∷ 0 ∷ 0 ∷ (lent 4)))
    ∷ (reduce 2 2 1 (1 ∷ 2 ∷ []) (lent 1) ⇒ (4 ∷ 0 ∷ 0 ∷ (lent 1)))
    -- and where none applies the reduced rows, then zeros, and the dimension, which is not the count of rows; 64 rows pass
    ∷ (reduce 2 2 2 (1 ∷ 1 ∷ 1 ∷ 1 ∷ []) (lent 4) ⇒ (0 ∷ 1 ∷ 2 ∷ (1 ∷ 1 ∷ 0 ∷ 0 ∷ [])))
    ∷ (reduce 2 2 0 [] (lent 4) ⇒ (0 ∷ 0 ∷ 0 ∷ (0 ∷ 0 ∷ 0 ∷ 0 ∷ [])))
    ∷ (reduce 2 1 64 (replicate 64 1) (lent 1) ⇒ (0 ∷ 1 ∷ 1 ∷ (1 ∷ [])))
    -- the distance: each refusal alone, of the first list and of the second
    ∷ (distance 6 2 1 (1 ∷ 0 ∷ []) 1 (0 ∷ 1 ∷ []) ⇒ (1 ∷ 0 ∷ []))
    ∷ (distance 2 0 0 [] 0 [] ⇒ (2 ∷ 0 ∷ []))
    ∷ (distance 2 17 0 [] 0 [] ⇒ (2 ∷ 0 ∷ []))
    ∷ (distance 2 1 65 (replicate 65 1) 1 (1 ∷ []) ⇒ (13 ∷ 0 ∷ []))
    ∷ (distance 2 2 1 (1 ∷ []) 1 (0 ∷ 1 ∷ []) ⇒ (4 ∷ 0 ∷ []))
    ∷ (distance 2 2 1 (1 ∷ 0 ∷ 0 ∷ []) 1 (0 ∷ 1 ∷ []) ⇒ (4 ∷ 0 ∷ []))
    ∷ (distance 2 2 1 (1 ∷ 2 ∷ []) 1 (0 ∷ 1 ∷ []) ⇒ (6 ∷ 0 ∷ []))
    ∷ (distance 2 1 1 (1 ∷ []) 65 (replicate 65 1) ⇒ (13 ∷ 0 ∷ []))
    ∷ (distance 2 2 1 (1 ∷ 0 ∷ []) 1 (1 ∷ []) ⇒ (4 ∷ 0 ∷ []))
    ∷ (distance 2 2 1 (1 ∷ 0 ∷ []) 1 (1 ∷ 0 ∷ 0 ∷ []) ⇒ (4 ∷ 0 ∷ []))
    ∷ (distance 2 2 1 (1 ∷ 0 ∷ []) 1 (1 ∷ 2 ∷ []) ⇒ (6 ∷ 0 ∷ []))
    -- two at once: 1 and 2, 2 and 13, 13 and 4, 4 and 6; the first list's 13, 4 and 6 before the second's; 13 and 4, 4 and 6 of the second
    ∷ (distance 6 17 0 [] 0 [] ⇒ (1 ∷ 0 ∷ []))
    ∷ (distance 2 17 65 [] 0 [] ⇒ (2 ∷ 0 ∷ []))
    ∷ (distance 2 2 65 [] 1 (0 ∷ 1 ∷ []) ⇒ (13 ∷ 0 ∷ []))
    ∷ (distance 2 2 1 (2 ∷ []) 1 (0 ∷ 1 ∷ []) ⇒ (4 ∷ 0 ∷ []))
    ∷ (distance 2 2 65 (replicate 130 1) 1 (1 ∷ []) ⇒ (13 ∷ 0 ∷ []))
    ∷ (distance 2 2 1 (1 ∷ []) 65 (replicate 130 1) ⇒ (4 ∷ 0 ∷ []))
    ∷ (distance 2 2 1 (1 ∷ []) 1 (1 ∷ 2 ∷ []) ⇒ (4 ∷ 0 ∷ []))
    ∷ (distance 2 1 1 (2 ∷ []) 65 (replicate 65 1) ⇒ (6 ∷ 0 ∷ []))
    ∷ (distance 2 2 1 (1 ∷ 2 ∷ []) 1 (1 ∷ []) ⇒ (6 ∷ 0 ∷ []))
    ∷ (distance 2 2 1 (1 ∷ 0 ∷ []) 65 [] ⇒ (13 ∷ 0 ∷ []))
    ∷ (distance 2 2 1 (1 ∷ 0 ∷ []) 1 (2 ∷ []) ⇒ (4 ∷ 0 ∷ []))
    -- Receive: the refusal number, the index, the dimension, the identifying vector
    ∷ (receive 6 3 1 1 1 (0 ∷ 1 ∷ 0 ∷ []) ⇒ (1 ∷ 0 ∷ 0 ∷ 0 ∷ []))
    ∷ (receive 2 17 1 1 1 (0 ∷ 1 ∷ 0 ∷ []) ⇒ (2 ∷ 0 ∷ 0 ∷ 0 ∷ []))
    ∷ (receive 7 10 5 1 1 (0 ∷ 1 ∷ 0 ∷ []) ⇒ (3 ∷ 0 ∷ 0 ∷ 0 ∷ []))
    ∷ (receive 2 3 1 0 1 (0 ∷ 1 ∷ 0 ∷ []) ⇒ (10 ∷ 0 ∷ 0 ∷ 0 ∷ []))
    ∷ (receive 2 3 1 3 1 (0 ∷ 1 ∷ 0 ∷ []) ⇒ (10 ∷ 0 ∷ 0 ∷ 0 ∷ []))
    ∷ (receive 2 1 1 1 65 (replicate 65 1) ⇒ (13 ∷ 0 ∷ 0 ∷ 0 ∷ []))
    ∷ (receive 2 3 1 1 1 (0 ∷ 1 ∷ []) ⇒ (4 ∷ 0 ∷ 0 ∷ 0 ∷ []))
    ∷ (receive 2 3 1 1 1 (0 ∷ 1 ∷ 0 ∷ 0 ∷ []) ⇒ (4 ∷ 0 ∷ 0 ∷ 0 ∷ []))
    ∷ (receive 2 3 1 1 1 (0 ∷ 2 ∷ 0 ∷ []) ⇒ (6 ∷ 0 ∷ 0 ∷ 0 ∷ []))
    ∷ (receive 2 3 1 1 1 (0 ∷ 0 ∷ 0 ∷ []) ⇒ (8 ∷ 0 ∷ 0 ∷ 0 ∷ []))
    ∷ (receive 2 3 1 1 2 (1 ∷ 0 ∷ 0 ∷ 0 ∷ 1 ∷ 0 ∷ []) ⇒ (9 ∷ 0 ∷ 2 ∷ 6 ∷ []))
    -- of two neighbours the first
    ∷ (receive 6 17 1 1 1 (0 ∷ 1 ∷ 0 ∷ []) ⇒ (1 ∷ 0 ∷ 0 ∷ 0 ∷ []))
    ∷ (receive 2 17 8 1 1 (0 ∷ 1 ∷ 0 ∷ []) ⇒ (2 ∷ 0 ∷ 0 ∷ 0 ∷ []))
    ∷ (receive 7 10 5 3 1 (0 ∷ 1 ∷ 0 ∷ []) ⇒ (3 ∷ 0 ∷ 0 ∷ 0 ∷ []))
    ∷ (receive 2 3 1 3 65 [] ⇒ (10 ∷ 0 ∷ 0 ∷ 0 ∷ []))
    ∷ (receive 6 3 1 1 65 [] ⇒ (1 ∷ 0 ∷ 0 ∷ 0 ∷ []))
    ∷ (receive 2 3 1 1 65 [] ⇒ (13 ∷ 0 ∷ 0 ∷ 0 ∷ []))
    ∷ (receive 2 3 1 1 1 (2 ∷ []) ⇒ (4 ∷ 0 ∷ 0 ∷ 0 ∷ []))
    ∷ (receive 2 3 2 1 1 (0 ∷ 2 ∷ 0 ∷ []) ⇒ (6 ∷ 0 ∷ 0 ∷ 0 ∷ []))
    -- and where none applies
    ∷ (receive 2 3 1 1 2 (0 ∷ 1 ∷ 0 ∷ 0 ∷ 1 ∷ 0 ∷ []) ⇒ (0 ∷ 2 ∷ 1 ∷ 2 ∷ []))
    ∷ (receive 2 3 1 2 1 (0 ∷ 1 ∷ 0 ∷ []) ⇒ (0 ∷ 4 ∷ 1 ∷ 2 ∷ []))
    -- Receive for C: what it returns, and the eleven bytes; a program built for nine keeps its buffer
    ∷ (receive_c 6 3 1 1 1 (0 ∷ 1 ∷ 0 ∷ []) (lent 11) ⇒ (1 ∷ (lent 11)))
    ∷ (receive_c 2 17 1 1 1 (0 ∷ 1 ∷ 0 ∷ []) (lent 11) ⇒ (2 ∷ (lent 11)))
    ∷ (receive_c 7 10 5 1 1 (0 ∷ 1 ∷ 0 ∷ []) (lent 11) ⇒ (3 ∷ (lent 11)))
    ∷ (receive_c 2 3 1 3 1 (0 ∷ 1 ∷ 0 ∷ []) (lent 11) ⇒ (10 ∷ (lent 11)))
    ∷ (receive_c 2 1 1 1 65 (replicate 65 1) (lent 11) ⇒ (13 ∷ (lent 11)))
    ∷ (receive_c 2 3 1 1 1 (0 ∷ 1 ∷ []) (lent 11) ⇒ (4 ∷ (lent 11)))
    ∷ (receive_c 2 3 1 1 1 (0 ∷ 1 ∷ 0 ∷ 0 ∷ []) (lent 11) ⇒ (4 ∷ (lent 11)))
    ∷ (receive_c 2 3 1 1 1 (0 ∷ 1 ∷ 0 ∷ []) (lent 1) ⇒ (4 ∷ (lent 1)))
    ∷ (receive_c 2 3 1 1 1 (0 ∷ 1 ∷ 0 ∷ []) (lent 9) ⇒ (4 ∷ (lent 9)))
    ∷ (receive_c 2 3 1 1 1 (0 ∷ 1 ∷ 0 ∷ []) (lent 10) ⇒ (4 ∷ (lent 10)))
    ∷ (receive_c 2 3 1 1 1 (0 ∷ 1 ∷ 0 ∷ []) (lent 12) ⇒ (4 ∷ (lent 12)))
    ∷ (receive_c 2 3 1 1 1 (0 ∷ 2 ∷ 0 ∷ []) (lent 11) ⇒ (6 ∷ (lent 11)))
    ∷ (receive_c 2 3 2 1 1 (0 ∷ 1 ∷ 0 ∷ []) (lent 11) ⇒ (8 ∷ (0 ∷ 0 ∷ 0 ∷ 0 ∷ 0 ∷ 0 ∷ 0 ∷ 0 ∷ 1 ∷ 2 ∷ 0 ∷ [])))
    ∷ (receive_c 2 3 1 1 2 (1 ∷ 0 ∷ 0 ∷ 0 ∷ 1 ∷ 0 ∷ []) (lent 11) ⇒ (9 ∷ (0 ∷ 0 ∷ 0 ∷ 0 ∷ 0 ∷ 0 ∷ 0 ∷ 0 ∷ 2 ∷ 6 ∷ 0 ∷ [])))
    -- of two neighbours the first
    ∷ (receive_c 6 17 1 1 1 (0 ∷ 1 ∷ 0 ∷ []) (lent 11) ⇒ (1 ∷ (lent 11)))
    ∷ (receive_c 2 17 8 1 1 (0 ∷ 1 ∷ 0 ∷ []) (lent 11) ⇒ (2 ∷ (lent 11)))
    ∷ (receive_c 7 10 5 3 1 (0 ∷ 1 ∷ 0 ∷ []) (lent 11) ⇒ (3 ∷ (lent 11)))
    ∷ (receive_c 2 3 1 3 65 [] (lent 11) ⇒ (10 ∷ (lent 11)))
    ∷ (receive_c 2 3 1 1 65 [] (lent 11) ⇒ (13 ∷ (lent 11)))
    ∷ (receive_c 2 3 1 1 65 [] (lent 1) ⇒ (13 ∷ (lent 1)))
    ∷ (receive_c 2 3 1 1 1 (2 ∷ []) (lent 11) ⇒ (4 ∷ (lent 11)))
    ∷ (receive_c 2 3 1 1 1 (0 ∷ 2 ∷ 0 ∷ []) (lent 1) ⇒ (4 ∷ (lent 1)))
    ∷ (receive_c 2 3 2 1 1 (0 ∷ 2 ∷ 0 ∷ []) (lent 11) ⇒ (6 ∷ (lent 11)))
    -- and where none applies: the index 928, least byte first, then the dimension and the vector
    ∷ (receive_c 2 6 3 1 3 paper (lent 11) ⇒ (0 ∷ (160 ∷ 3 ∷ 0 ∷ 0 ∷ 0 ∷ 0 ∷ 0 ∷ 0 ∷ 3 ∷ 22 ∷ 0 ∷ [])))
    -- Pool: the refusal number, the dimensions of the joint and of the common space, the receiver, of all zeros where it refuses, and both
    -- buffers; 14 for the first receiver and for the second; 16 where q, n, k or the packs differ; 4 for the first buffer and for the
    -- second
    ∷ (pool zero_row right_plane (lent 9) (lent 9) ⇒ (14 ∷ 0 ∷ 0 ∷ image zeros ++ (lent 9 ++ lent 9)))
    ∷ (pool left_plane left_over (lent 9) (lent 9) ⇒ (14 ∷ 0 ∷ 0 ∷ image zeros ++ (lent 9 ++ lent 9)))
    ∷ (pool left_plane other_field (lent 9) (lent 9) ⇒ (16 ∷ 0 ∷ 0 ∷ image zeros ++ (lent 9 ++ lent 9)))
    ∷ (pool left_plane other_length (lent 9) (lent 9) ⇒ (16 ∷ 0 ∷ 0 ∷ image zeros ++ (lent 9 ++ lent 9)))
    ∷ (pool left_plane other_dimension (lent 9) (lent 9) ⇒ (16 ∷ 0 ∷ 0 ∷ image zeros ++ (lent 9 ++ lent 9)))
    ∷ (pool left_plane other_pack (lent 9) (lent 9) ⇒ (16 ∷ 0 ∷ 0 ∷ image zeros ++ (lent 9 ++ lent 9)))
    ∷ (pool next_pack left_plane (lent 9) (lent 9) ⇒ (16 ∷ 0 ∷ 0 ∷ image zeros ++ (lent 9 ++ lent 9)))
    ∷ (pool left_plane right_plane (lent 8) (lent 9) ⇒ (4 ∷ 0 ∷ 0 ∷ image zeros ++ (lent 8 ++ lent 9)))
    ∷ (pool left_plane right_plane (lent 10) (lent 9) ⇒ (4 ∷ 0 ∷ 0 ∷ image zeros ++ (lent 10 ++ lent 9)))
    ∷ (pool left_plane right_plane (lent 9) (lent 8) ⇒ (4 ∷ 0 ∷ 0 ∷ image zeros ++ (lent 9 ++ lent 8)))
    ∷ (pool left_plane right_plane (lent 9) (lent 10) ⇒ (4 ∷ 0 ∷ 0 ∷ image zeros ++ (lent 9 ++ lent 10)))
    ∷ (pool left_plane right_plane (lent 10) (lent 8) ⇒ (4 ∷ 0 ∷ 0 ∷ image zeros ++ (lent 10 ++ lent 8)))
    -- of two neighbours the first is told
    ∷ (pool zero_row other_field (lent 9) (lent 9) ⇒ (14 ∷ 0 ∷ 0 ∷ image zeros ++ (lent 9 ++ lent 9)))
    ∷ (pool other_field left_over (lent 9) (lent 9) ⇒ (14 ∷ 0 ∷ 0 ∷ image zeros ++ (lent 9 ++ lent 9)))
    ∷ (pool left_plane other_length (lent 8) (lent 9) ⇒ (16 ∷ 0 ∷ 0 ∷ image zeros ++ (lent 8 ++ lent 9)))
    ∷ (pool left_plane other_field (lent 9) (lent 10) ⇒ (16 ∷ 0 ∷ 0 ∷ image zeros ++ (lent 9 ++ lent 10)))
    ∷ (pool left_plane other_pack (lent 8) (lent 9) ⇒ (16 ∷ 0 ∷ 0 ∷ image zeros ++ (lent 8 ++ lent 9)))
    ∷ (pool other_pack left_plane (lent 9) (lent 10) ⇒ (16 ∷ 0 ∷ 0 ∷ image zeros ++ (lent 9 ++ lent 10)))
    ∷ (pool other_pack left_over (lent 9) (lent 9) ⇒ (14 ∷ 0 ∷ 0 ∷ image zeros ++ (lent 9 ++ lent 9)))
    ∷ (pool left_plane left_over (lent 9) (lent 8) ⇒ (14 ∷ 0 ∷ 0 ∷ image zeros ++ (lent 9 ++ lent 8)))
    ∷ (pool zero_row right_plane (lent 8) (lent 9) ⇒ (14 ∷ 0 ∷ 0 ∷ image zeros ++ (lent 8 ++ lent 9)))
    -- and where none applies: two planes have the whole space and the line 010; 12 and 10 over three elements the plane and nothing; a
    -- receiver that holds nothing changes nothing
    ∷ (pool left_plane right_plane (lent 9) (lent 9)
    ⇒ (0 ∷ 3 ∷ 1 ∷ image three_rows ++ (1 ∷ 0 ∷ 0 ∷ 0 ∷ 1 ∷ 0 ∷ 0 ∷ 0 ∷ 1 ∷ 0 ∷ 1 ∷ 0 ∷ 0 ∷ 0 ∷ 0 ∷ 0 ∷ 0 ∷ 0 ∷ [])))
    ∷ (pool slanted level (lent 4) (lent 4)
    ⇒ (0 ∷ 2 ∷ 0 ∷ image (receiver 3 2 1 258 2 (1 ∷ 0 ∷ 0 ∷ 1 ∷ [])) ++ (1 ∷ 0 ∷ 0 ∷ 1 ∷ 0 ∷ 0 ∷ 0 ∷ 0 ∷ [])))
    ∷ (pool no_rows two_rows (lent 9) (lent 9)
    ⇒ (0 ∷ 2 ∷ 0 ∷ image two_rows ++ (1 ∷ 0 ∷ 1 ∷ 0 ∷ 1 ∷ 1 ∷ 0 ∷ 0 ∷ 0 ∷ 0 ∷ 0 ∷ 0 ∷ 0 ∷ 0 ∷ 0 ∷ 0 ∷ 0 ∷ 0 ∷ [])))
    -- Start: the refusal number, and the receiver, which is of all zeros where it refuses, the pack too
    ∷ (start 6 3 1 258 ⇒ (1 ∷ (image zeros)))
    ∷ (start 2 17 1 258 ⇒ (2 ∷ (image zeros)))
    ∷ (start 7 10 5 258 ⇒ (3 ∷ (image zeros)))
    ∷ (start 6 17 1 65535 ⇒ (1 ∷ (image zeros)))
    ∷ (start 2 17 8 0 ⇒ (2 ∷ (image zeros)))
    ∷ (start 2 3 1 258 ⇒ (0 ∷ (2 ∷ 3 ∷ 1 ∷ 0 ∷ 258 ∷ replicate 256 0)))
    ∷ (start 2 3 1 0 ⇒ (0 ∷ (2 ∷ 3 ∷ 1 ∷ 0 ∷ 0 ∷ replicate 256 0)))
    ∷ (start 2 3 1 65535 ⇒ (0 ∷ (2 ∷ 3 ∷ 1 ∷ 0 ∷ 65535 ∷ replicate 256 0)))
    -- Take, by value and lent: the refusal number, 1 for "raised", 1 for "idle", and the receiver; zeros are idle on a receiver of any
    -- dimension, but not where they are refused: two of them, or before an entry of q, or on no receiver. 17 for a pack that differs in the
    -- high byte alone, in the low one, or in both; before 4, 6 and idle, and after 14. The first pack and the last are as any other
    ∷ (take_value too_many_rows 258 (0 ∷ 1 ∷ 1 ∷ []) ⇒ (14 ∷ 0 ∷ 0 ∷ (image too_many_rows)))
    ∷ (take_value no_field 258 (0 ∷ 1 ∷ 1 ∷ []) ⇒ (14 ∷ 0 ∷ 0 ∷ (image no_field)))
    ∷ (take_value oversized 258 (0 ∷ 1 ∷ 1 ∷ []) ⇒ (14 ∷ 0 ∷ 0 ∷ (image oversized)))
    ∷ (take_value zero_row 258 (0 ∷ 1 ∷ 1 ∷ []) ⇒ (14 ∷ 0 ∷ 0 ∷ (image zero_row)))
    ∷ (take_value left_over 258 (0 ∷ 1 ∷ 1 ∷ []) ⇒ (14 ∷ 0 ∷ 0 ∷ (image left_over)))
    ∷ (take_value one_row 258 (0 ∷ 1 ∷ []) ⇒ (4 ∷ 0 ∷ 0 ∷ (image one_row)))
    ∷ (take_value one_row 258 (0 ∷ 1 ∷ 1 ∷ 0 ∷ []) ⇒ (4 ∷ 0 ∷ 0 ∷ (image one_row)))
    ∷ (take_value one_row 258 (0 ∷ 2 ∷ 1 ∷ []) ⇒ (6 ∷ 0 ∷ 0 ∷ (image one_row)))
    ∷ (take_value zeros 258 (2 ∷ []) ⇒ (14 ∷ 0 ∷ 0 ∷ (image zeros)))
    ∷ (take_value one_row 258 (2 ∷ []) ⇒ (4 ∷ 0 ∷ 0 ∷ (image one_row)))
    ∷ (take_value one_row 258 (0 ∷ 1 ∷ 1 ∷ []) ⇒ (0 ∷ 1 ∷ 0 ∷ (image two_rows)))
    ∷ (take_value one_row 258 (1 ∷ 1 ∷ 0 ∷ []) ⇒ (0 ∷ 0 ∷ 0 ∷ (image one_row)))
    ∷ (take_value one_row 258 (0 ∷ 0 ∷ 0 ∷ []) ⇒ (0 ∷ 0 ∷ 1 ∷ (image one_row)))
    ∷ (take_value no_rows 258 (0 ∷ 0 ∷ 0 ∷ []) ⇒ (0 ∷ 0 ∷ 1 ∷ (image no_rows)))
    ∷ (take_value three_rows 258 (0 ∷ 0 ∷ 0 ∷ []) ⇒ (0 ∷ 0 ∷ 1 ∷ (image three_rows)))
    ∷ (take_value three_rows 258 (1 ∷ 0 ∷ 1 ∷ []) ⇒ (0 ∷ 0 ∷ 0 ∷ (image three_rows)))
    ∷ (take_value one_row 258 (0 ∷ 0 ∷ []) ⇒ (4 ∷ 0 ∷ 0 ∷ (image one_row)))
    ∷ (take_value one_row 258 (0 ∷ 0 ∷ 2 ∷ []) ⇒ (6 ∷ 0 ∷ 0 ∷ (image one_row)))
    ∷ (take_value one_row 258 (2 ∷ 2 ∷ 2 ∷ []) ⇒ (6 ∷ 0 ∷ 0 ∷ (image one_row)))
    ∷ (take_value left_over 258 (0 ∷ 0 ∷ 0 ∷ []) ⇒ (14 ∷ 0 ∷ 0 ∷ (image left_over)))
    ∷ (take_value one_row 514 (0 ∷ 1 ∷ 1 ∷ []) ⇒ (17 ∷ 0 ∷ 0 ∷ (image one_row)))
    ∷ (take_value one_row 259 (0 ∷ 1 ∷ 1 ∷ []) ⇒ (17 ∷ 0 ∷ 0 ∷ (image one_row)))
    ∷ (take_value one_row 0 (1 ∷ 1 ∷ 0 ∷ []) ⇒ (17 ∷ 0 ∷ 0 ∷ (image one_row)))
    ∷ (take_value left_over 514 (0 ∷ 1 ∷ 1 ∷ []) ⇒ (14 ∷ 0 ∷ 0 ∷ (image left_over)))
    ∷ (take_value one_row 514 (0 ∷ 1 ∷ []) ⇒ (17 ∷ 0 ∷ 0 ∷ (image one_row)))
    ∷ (take_value one_row 514 (0 ∷ 2 ∷ 1 ∷ []) ⇒ (17 ∷ 0 ∷ 0 ∷ (image one_row)))
    ∷ (take_value one_row 514 (0 ∷ 0 ∷ 0 ∷ []) ⇒ (17 ∷ 0 ∷ 0 ∷ (image one_row)))
    ∷ (take_value first_pack 0 (0 ∷ 1 ∷ 1 ∷ []) ⇒ (0 ∷ 1 ∷ 0 ∷ (image first_plane)))
    ∷ (take_value first_pack 65535 (0 ∷ 1 ∷ 1 ∷ []) ⇒ (17 ∷ 0 ∷ 0 ∷ (image first_pack)))
    ∷ (take_value last_pack 65535 (0 ∷ 1 ∷ 1 ∷ []) ⇒ (0 ∷ 1 ∷ 0 ∷ (image last_plane)))
    ∷ (take_value last_pack 255 (0 ∷ 1 ∷ 1 ∷ []) ⇒ (17 ∷ 0 ∷ 0 ∷ (image last_pack)))
    ∷ (take_lent too_many_rows 258 (0 ∷ 1 ∷ 1 ∷ []) ⇒ (14 ∷ 0 ∷ 0 ∷ (image too_many_rows)))
    ∷ (take_lent no_field 258 (0 ∷ 1 ∷ 1 ∷ []) ⇒ (14 ∷ 0 ∷ 0 ∷ (image no_field)))
    ∷ (take_lent oversized 258 (0 ∷ 1 ∷ 1 ∷ []) ⇒ (14 ∷ 0 ∷ 0 ∷ (image oversized)))
    ∷ (take_lent zero_row 258 (0 ∷ 1 ∷ 1 ∷ []) ⇒ (14 ∷ 0 ∷ 0 ∷ (image zero_row)))
    ∷ (take_lent left_over 258 (0 ∷ 1 ∷ 1 ∷ []) ⇒ (14 ∷ 0 ∷ 0 ∷ (image left_over)))
    ∷ (take_lent one_row 258 (0 ∷ 1 ∷ []) ⇒ (4 ∷ 0 ∷ 0 ∷ (image one_row)))
    ∷ (take_lent one_row 258 (0 ∷ 1 ∷ 1 ∷ 0 ∷ []) ⇒ (4 ∷ 0 ∷ 0 ∷ (image one_row)))
    ∷ (take_lent one_row 258 (0 ∷ 2 ∷ 1 ∷ []) ⇒ (6 ∷ 0 ∷ 0 ∷ (image one_row)))
    ∷ (take_lent zeros 258 (2 ∷ []) ⇒ (14 ∷ 0 ∷ 0 ∷ (image zeros)))
    ∷ (take_lent one_row 258 (2 ∷ []) ⇒ (4 ∷ 0 ∷ 0 ∷ (image one_row)))
    ∷ (take_lent one_row 258 (0 ∷ 1 ∷ 1 ∷ []) ⇒ (0 ∷ 1 ∷ 0 ∷ (image two_rows)))
    ∷ (take_lent one_row 258 (1 ∷ 1 ∷ 0 ∷ []) ⇒ (0 ∷ 0 ∷ 0 ∷ (image one_row)))
    ∷ (take_lent one_row 258 (0 ∷ 0 ∷ 0 ∷ []) ⇒ (0 ∷ 0 ∷ 1 ∷ (image one_row)))
    ∷ (take_lent no_rows 258 (0 ∷ 0 ∷ 0 ∷ []) ⇒ (0 ∷ 0 ∷ 1 ∷ (image no_rows)))
    ∷ (take_lent three_rows 258 (0 ∷ 0 ∷ 0 ∷ []) ⇒ (0 ∷ 0 ∷ 1 ∷ (image three_rows)))
    ∷ (take_lent three_rows 258 (1 ∷ 0 ∷ 1 ∷ []) ⇒ (0 ∷ 0 ∷ 0 ∷ (image three_rows)))
    ∷ (take_lent one_row 258 (0 ∷ 0 ∷ []) ⇒ (4 ∷ 0 ∷ 0 ∷ (image one_row)))
    ∷ (take_lent one_row 258 (0 ∷ 0 ∷ 2 ∷ []) ⇒ (6 ∷ 0 ∷ 0 ∷ (image one_row)))
    ∷ (take_lent one_row 258 (2 ∷ 2 ∷ 2 ∷ []) ⇒ (6 ∷ 0 ∷ 0 ∷ (image one_row)))
    ∷ (take_lent left_over 258 (0 ∷ 0 ∷ 0 ∷ []) ⇒ (14 ∷ 0 ∷ 0 ∷ (image left_over)))
    ∷ (take_lent one_row 514 (0 ∷ 1 ∷ 1 ∷ []) ⇒ (17 ∷ 0 ∷ 0 ∷ (image one_row)))
    ∷ (take_lent one_row 259 (0 ∷ 1 ∷ 1 ∷ []) ⇒ (17 ∷ 0 ∷ 0 ∷ (image one_row)))
    ∷ (take_lent one_row 0 (1 ∷ 1 ∷ 0 ∷ []) ⇒ (17 ∷ 0 ∷ 0 ∷ (image one_row)))
    ∷ (take_lent left_over 514 (0 ∷ 1 ∷ 1 ∷ []) ⇒ (14 ∷ 0 ∷ 0 ∷ (image left_over)))
    ∷ (take_lent one_row 514 (0 ∷ 1 ∷ []) ⇒ (17 ∷ 0 ∷ 0 ∷ (image one_row)))
    ∷ (take_lent one_row 514 (0 ∷ 2 ∷ 1 ∷ []) ⇒ (17 ∷ 0 ∷ 0 ∷ (image one_row)))
    ∷ (take_lent one_row 514 (0 ∷ 0 ∷ 0 ∷ []) ⇒ (17 ∷ 0 ∷ 0 ∷ (image one_row)))
    ∷ (take_lent first_pack 0 (0 ∷ 1 ∷ 1 ∷ []) ⇒ (0 ∷ 1 ∷ 0 ∷ (image first_plane)))
    ∷ (take_lent first_pack 65535 (0 ∷ 1 ∷ 1 ∷ []) ⇒ (17 ∷ 0 ∷ 0 ∷ (image first_pack)))
    ∷ (take_lent last_pack 65535 (0 ∷ 1 ∷ 1 ∷ []) ⇒ (0 ∷ 1 ∷ 0 ∷ (image last_plane)))
    ∷ (take_lent last_pack 255 (0 ∷ 1 ∷ 1 ∷ []) ⇒ (17 ∷ 0 ∷ 0 ∷ (image last_pack)))
    -- Close: the refusal number, the index, the dimension, the identifying vector; whatever the pack
    ∷ (close too_many_rows 1 ⇒ (14 ∷ 0 ∷ 0 ∷ 0 ∷ []))
    ∷ (close zero_row 1 ⇒ (14 ∷ 0 ∷ 0 ∷ 0 ∷ []))
    ∷ (close behind_the_row 1 ⇒ (14 ∷ 0 ∷ 0 ∷ 0 ∷ []))
    ∷ (close too_many_rows 3 ⇒ (14 ∷ 0 ∷ 0 ∷ 0 ∷ []))
    ∷ (close one_row 3 ⇒ (10 ∷ 0 ∷ 0 ∷ 0 ∷ []))
    ∷ (close one_row 0 ⇒ (10 ∷ 0 ∷ 0 ∷ 0 ∷ []))
    ∷ (close one_row 1 ⇒ (8 ∷ 0 ∷ 1 ∷ 4 ∷ []))
    ∷ (close no_rows 2 ⇒ (8 ∷ 0 ∷ 0 ∷ 0 ∷ []))
    ∷ (close three_rows 1 ⇒ (9 ∷ 0 ∷ 3 ∷ 7 ∷ []))
    ∷ (close three_rows 3 ⇒ (10 ∷ 0 ∷ 0 ∷ 0 ∷ []))
    ∷ (close two_rows 1 ⇒ (0 ∷ 3 ∷ 2 ∷ 6 ∷ []))
    ∷ (close two_rows 2 ⇒ (0 ∷ 3 ∷ 2 ∷ 6 ∷ []))
    ∷ (close first_plane 1 ⇒ (0 ∷ 3 ∷ 2 ∷ 6 ∷ []))
    ∷ (close last_plane 1 ⇒ (0 ∷ 3 ∷ 2 ∷ 6 ∷ []))
    ∷ (close middle 1 ⇒ (0 ∷ 2 ∷ 1 ∷ 2 ∷ []))
    ∷ (close middle 2 ⇒ (0 ∷ 4 ∷ 1 ∷ 2 ∷ []))
    -- List: 11 for what is no settings line: nothing, no line feed, a fourth number, a leading zero, three of them, a blank, bytes after it,
    -- two numbers, none before a comma, a letter, four digits
    ∷ (list [] ⇒ refused11)
    ∷ (list (50 ∷ 44 ∷ 51 ∷ 44 ∷ 49 ∷ []) ⇒ refused11)
    ∷ (list (50 ∷ 44 ∷ 51 ∷ 44 ∷ 49 ∷ 44 ∷ 48 ∷ 10 ∷ []) ⇒ refused11)
    ∷ (list (50 ∷ 44 ∷ 48 ∷ 51 ∷ 44 ∷ 49 ∷ 10 ∷ []) ⇒ refused11)
    ∷ (list (50 ∷ 44 ∷ 51 ∷ 44 ∷ 48 ∷ 48 ∷ 48 ∷ 49 ∷ 10 ∷ []) ⇒ refused11)
    ∷ (list (50 ∷ 44 ∷ 32 ∷ 51 ∷ 44 ∷ 49 ∷ 10 ∷ []) ⇒ refused11)
    ∷ (list (50 ∷ 44 ∷ 51 ∷ 44 ∷ 49 ∷ 10 ∷ 10 ∷ []) ⇒ refused11)
    ∷ (list (50 ∷ 44 ∷ 51 ∷ 10 ∷ []) ⇒ refused11)
    ∷ (list (44 ∷ 51 ∷ 44 ∷ 49 ∷ 10 ∷ []) ⇒ refused11)
    ∷ (list (120 ∷ 44 ∷ 51 ∷ 44 ∷ 49 ∷ 10 ∷ []) ⇒ refused11)
    ∷ (list (49 ∷ 48 ∷ 48 ∷ 48 ∷ 44 ∷ 51 ∷ 44 ∷ 49 ∷ 10 ∷ []) ⇒ refused11)
    ∷ (list (50 ∷ 44 ∷ 49 ∷ 48 ∷ 48 ∷ 48 ∷ 44 ∷ 49 ∷ 10 ∷ []) ⇒ refused11)
    ∷ (list (50 ∷ 44 ∷ 51 ∷ 44 ∷ 49 ∷ 48 ∷ 48 ∷ 48 ∷ 10 ∷ []) ⇒ refused11)
    -- 1, 2, 3, 12, and of two the first
    ∷ (list (54 ∷ 44 ∷ 51 ∷ 44 ∷ 49 ∷ 10 ∷ []) ⇒ refused1)
    ∷ (list (50 ∷ 44 ∷ 49 ∷ 55 ∷ 44 ∷ 49 ∷ 10 ∷ []) ⇒ refused2)
    ∷ (list (50 ∷ 44 ∷ 48 ∷ 44 ∷ 48 ∷ 10 ∷ []) ⇒ refused2)
    ∷ (list (50 ∷ 44 ∷ 51 ∷ 44 ∷ 52 ∷ 10 ∷ []) ⇒ refused2)
    ∷ (list (50 ∷ 44 ∷ 49 ∷ 48 ∷ 48 ∷ 44 ∷ 49 ∷ 10 ∷ []) ⇒ refused2)
    ∷ (list (50 ∷ 44 ∷ 51 ∷ 44 ∷ 49 ∷ 48 ∷ 48 ∷ 10 ∷ []) ⇒ refused2)
    ∷ (list (55 ∷ 44 ∷ 49 ∷ 48 ∷ 44 ∷ 53 ∷ 10 ∷ []) ⇒ refused3)
    ∷ (list (50 ∷ 44 ∷ 49 ∷ 48 ∷ 44 ∷ 51 ∷ 10 ∷ []) ⇒ refused12)
    ∷ (list (54 ∷ 44 ∷ 51 ∷ 44 ∷ 49 ∷ []) ⇒ refused11)
    ∷ (list (54 ∷ 44 ∷ 49 ∷ 55 ∷ 44 ∷ 49 ∷ 10 ∷ []) ⇒ refused1)
    ∷ (list (50 ∷ 44 ∷ 49 ∷ 55 ∷ 44 ∷ 56 ∷ 10 ∷ []) ⇒ refused2)
    ∷ (list (48 ∷ 48 ∷ 48 ∷ 44 ∷ 51 ∷ 44 ∷ 49 ∷ 10 ∷ []) ⇒ refused11)
    ∷ (list (57 ∷ 57 ∷ 57 ∷ 44 ∷ 51 ∷ 44 ∷ 49 ∷ 10 ∷ []) ⇒ refused1)
    -- 12 for a count above 65,536: of those beside it, 65,535 is listed and 87,381 is not
    ∷ (listable 2 16 1 ⇒ (0 ∷ []))
    ∷ (listable 2 16 15 ⇒ (0 ∷ []))
    ∷ (listable 4 9 1 ⇒ (12 ∷ []))
    ∷ (list (52 ∷ 44 ∷ 57 ∷ 44 ∷ 49 ∷ 10 ∷ []) ⇒ refused12)
    -- and where none applies the header and the lines: `/` stands between rows
    ∷ (list (50 ∷ 44 ∷ 50 ∷ 44 ∷ 50 ∷ 10 ∷ []) ⇒
    (101 ∷ 120 ∷ 116 ∷ 101 ∷ 110 ∷ 100 ∷ 101 ∷ 100 ∷ 44 ∷ 102 ∷ 101 ∷ 114 ∷ 114 ∷ 101 ∷ 114 ∷ 115 ∷ 44 ∷ 114 ∷ 111 ∷ 119 ∷ 115 ∷ 10
    ∷ 48 ∷ 44 ∷ 48 ∷ 44 ∷ 49 ∷ 48 ∷ 47 ∷ 48 ∷ 49 ∷ 10 ∷ []))
    ∷ (list (48 ∷ 44 ∷ 51 ∷ 44 ∷ 49 ∷ 10 ∷ []) ⇒ refused1)
    -- the line writer, lent 320 bytes: a piece that exactly fills them fits, one byte more does not, and then all stays
    ∷ (write (lent 320) 316 (1 ∷ 2 ∷ 3 ∷ 4 ∷ []) ⇒ (1 ∷ 320 ∷ (replicate 316 165 ++ (1 ∷ 2 ∷ 3 ∷ 4 ∷ []))))
    ∷ (write (lent 320) 317 (1 ∷ 2 ∷ 3 ∷ 4 ∷ []) ⇒ (0 ∷ 317 ∷ lent 320))
    ∷ (write (lent 4) 0 (1 ∷ 2 ∷ 3 ∷ 4 ∷ 5 ∷ []) ⇒ (0 ∷ 0 ∷ lent 4))
    ∷ (write (lent 4) 4 [] ⇒ (1 ∷ 4 ∷ lent 4))
    ∷ []
