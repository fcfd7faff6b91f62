use Rattle.std.proofs.Common.{◌≡◌, ◌++◌, length, take, drop}
use Rattle.change.specs.Change.{most_parts}
use Rattle.change.specs.Records.{fixed}
use Rattle.change.proofs.records.tidy_change.Given as goal

abbrev pub invariant-loop-j : goal.invariant-loop-j
invariant-loop-j l =
    (l.row ≡ take 2 l.initial.row ++ (take l.j (fixed most_parts (take l.count (drop 2 l.initial.row))) ++ drop l.j (drop 2 l.initial.row)))
    × (length l.row ≡ length l.initial.row)
