-- The day file over bytes: a config, and the events of a day one behind the other. Assumes nothing: these are definitions.
use Rattle.std.specs.Prelude.{ℕ, zero, suc, ◌+◌, ◌*◌, cond, List, [], ◌∷◌, length, take, drop, replicate, Some, None, Option, nat_le, slice_index}
use Rattle.change.specs.Change.{most_parts}
use Rattle.change.specs.Records.{fixed}

-- the first two bytes are the benches and the depth; a shorter file holds no day
abbrev pub config_bytes : ℕ
config_bytes = 2

abbrev pub config_read : List ℕ → Option (ℕ × ℕ)
config_read bs = cond (nat_le config_bytes (length bs)) (Some (slice_index bs 0, slice_index bs 1)) None

-- an event that takes n bytes, if they are all there: how many it takes, and its eleven numbers
abbrev pub Taken : Type 0
Taken = Option (ℕ × List ℕ)

abbrev pub taken : ℕ → List ℕ → List ℕ → Taken
taken n event bs = cond (nat_le n (length bs)) (Some (n, event)) None

-- behind the kind stands a change's number: four bytes, low byte first
abbrev pub number_read : List ℕ → ℕ
number_read bs = slice_index bs 1 + 256 * slice_index bs 2 + 65536 * slice_index bs 3 + 16777216 * slice_index bs 4

-- 0, a number, a count of parts, and so many parts; of more than a change can have, the first ones stand in the event
abbrev pub parts_read : List ℕ → List ℕ
parts_read bs = take (slice_index bs 5) (drop 6 bs)

abbrev pub submission : List ℕ → Taken
submission bs = taken (6 + slice_index bs 5) (0 ∷ number_read bs ∷ slice_index bs 5 ∷ fixed most_parts (parts_read bs)) bs

-- 1 and a number
abbrev pub withdrawal : List ℕ → Taken
withdrawal bs = taken 5 (1 ∷ number_read bs ∷ replicate 9 0) bs

-- 2, a place among those running, and 1 for good
abbrev pub report : List ℕ → Taken
report bs = taken 3 (2 ∷ slice_index bs 1 ∷ slice_index bs 2 ∷ replicate 8 0) bs

-- the first byte says the kind; nothing is read of a kind that is unknown
abbrev pub of_kind : ℕ → List ℕ → Taken
of_kind zero bs = submission bs
of_kind (suc zero) bs = withdrawal bs
of_kind (suc (suc zero)) bs = report bs
of_kind (suc (suc (suc k))) bs = None

abbrev pub next_event : List ℕ → Taken
next_event bs = of_kind (slice_index bs 0) bs

-- one event behind the other, up to the first that ends early or is of no known kind; at most n of them
abbrev pub followed : Taken → (ℕ → List (List ℕ)) → List (List ℕ)
followed None rest = []
followed (Some t) rest = t.1 ∷ rest t.0

unfoldable pub events_from : ℕ → List ℕ → List (List ℕ)
events_from zero bs = []
events_from (suc n) bs = followed (next_event bs) (λ k. events_from n (drop k bs))

-- all of them: each takes a byte at least, so there are no more than bytes
abbrev pub events_of : List ℕ → List (List ℕ)
events_of bs = events_from (length bs) bs

-- the events of a day
abbrev pub events_in : List ℕ → List (List ℕ)
events_in bs = events_of (drop config_bytes bs)
