use Rattle.std.proofs.Common.{◌≡◌, ◌+◌, List, ℕ, ◌++◌, length, take, drop}
use Rattle.change.specs.Change.{line}
use Rattle.change.specs.Listed.{changes_of}
use Rattle.run.proofs.run.Run.repeats_last.Given as goal

-- of the line, what was compared is its end
abbrev pub invariant-loop-c : goal.invariant-loop-c
invariant-loop-c l =
    (compared : List ℕ)
    × (line l.part (changes_of l.fn.landed) ≡ line l.part (changes_of l.c-iterator.iter) ++ compared)
    × (l.left + length compared ≡ l.d)
    × (drop l.left (take l.d l.self.numbers) ≡ compared)
