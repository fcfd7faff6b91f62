-- Records in the lent queue: how one is read and written, and a section of them. Assumes nothing: these are definitions.
use Rattle.std.specs.Prelude.{◌≡◌, ℕ, zero, suc, ◌+◌, ◌-◌, ◌*◌, ◌<◌, ◌≤◌, min, List, [], ◌∷◌, ◌++◌, length, take, drop, replicate, slice_index}
use Rattle.std.proofs.Common.{arith}
use Rattle.std.specs.List.{flat_map}
use Rattle.change.specs.declared.change.Change as declared
use Rattle.change.specs.Change.{Change, most_parts, part_limit, line}

-- a change's record: its number, its count of parts, and room for most_parts
abbrev pub change_width : ℕ
change_width = 10

pub some_numbers : 0 < change_width
some_numbers = omega arith

-- n records of width w, each read by f
abbrev pub rows : {A : Type 0} → (List ℕ → A) → ℕ → ℕ → List ℕ → List A
rows f w zero xs = []
rows f w (suc n) xs = f xs ∷ rows f w n (drop w xs)

-- exactly n numbers, 0 where the list has none
unfoldable pub fixed : ℕ → List ℕ → List ℕ
fixed n xs = take n (xs ++ replicate n 0)

-- the change that a record says
abbrev pub change_in : List ℕ → Change
change_in xs = record { number = slice_index xs 0; parts = take (min (slice_index xs 1) most_parts) (drop 2 xs) }

-- the record of a change
abbrev pub change_row : Change → List ℕ
change_row c = c.number ∷ length c.parts ∷ fixed most_parts c.parts

-- the change that the code's struct says
abbrev pub change_of : declared.Change → Change
change_of c = record { number = c.number; parts = take c.count c.parts }

-- the first n changes of a section
abbrev pub changes_in : ℕ → List ℕ → List Change
changes_in n xs = rows change_in change_width n xs

-- the numbers with a row written over what stood from `at` on
abbrev pub written : ℕ → List ℕ → List ℕ → List ℕ
written at row xs = take at xs ++ (row ++ drop (at + length row) xs)

-- n records of width w without the i-th: those before it, those after it, a record of 0, and what lies behind
abbrev pub row_out : ℕ → ℕ → ℕ → List ℕ → List ℕ
row_out w n i xs = take (w * i) xs ++ (take (w * (n - (i + 1))) (drop (w * (i + 1)) xs) ++ (replicate w 0 ++ drop (w * n) xs))

-- a section of n numbers: a record for each element, and 0 behind them
unfoldable pub table : {A : Type 0} → (A → List ℕ) → ℕ → List A → List ℕ
table row n xs = flat_map row xs ++ replicate (n - length (flat_map row xs)) 0

-- a change that is written and read again is the same, whatever lies behind its record
abbrev pub ChangeRoundTrip : Type 0
ChangeRoundTrip = (c : Change) (xs : List ℕ) → length c.parts ≤ most_parts → change_in (change_row c ++ xs) ≡ c

-- a table that says of each part how many of these changes touch it
abbrev pub Tallies : List ℕ → List Change → Type 0
Tallies ts cs = (p : ℕ) → p < part_limit → slice_index ts p ≡ length (line p cs)
