-- What answers tell, for the flat statement of demand 3 in proofs/FlatTheorem.
-- Assumes nothing.
use Rattle.std.specs.Prelude.{◌≡◌, List, ℕ, get_or, take, drop}
use Rattle.receive.specs.Answer.{Received, received_number, received_index, received_dimension, received_vector}
use Rattle.promise_recovery.specs.Demand.{little_endian}

-- the refusal number and the index that an answer of Receive or Close tells
abbrev pub tells : Received → ℕ → ℕ → Type 0
tells a number index = (received_number a ≡ number) × (received_index a ≡ index)

-- the dimension and the identifying vector that it tells
abbrev pub tells_space : Received → ℕ → ℕ → Type 0
tells_space a dimension vector = (received_dimension a ≡ dimension) × (received_vector a ≡ vector)

-- the same of the number that C gets back and of the bytes
abbrev pub reads : ℕ → List ℕ → ℕ → ℕ → Type 0
reads returned bytes number index = (returned ≡ number) × (little_endian (take 8 bytes) ≡ index)

-- and the same of the bytes after the index
abbrev pub reads_space : List ℕ → ℕ → ℕ → Type 0
reads_space bytes dimension vector = (get_or bytes 8 0 ≡ dimension) × (little_endian (drop 9 bytes) ≡ vector)
