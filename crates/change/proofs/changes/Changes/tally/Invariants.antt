use Rattle.std.proofs.Common.{◌≡◌, ℕ, ◌+◌, ◌<◌, ◌≤◌, length, get_or}
use Rattle.change.specs.Change.{line}
use Rattle.change.specs.Listed.{changes_of}
use Rattle.change.proofs.changes.Changes.tally.Given as goal

abbrev pub invariant-loop-i : goal.invariant-loop-i
invariant-loop-i l =
    goal.iterator-loop-i.can_next l.i-iterator
    × goal.iterator-loop-i.is_finite l.i-iterator
    × ((p : ℕ) → p < 64 → get_or l.counts p 0 + length (line p (changes_of l.i-iterator.iter)) ≡ length (line p (changes_of l.fn.self)))
    × ((p : ℕ) → p < 64 → get_or l.stamps p 0 ≤ l.i-iterator.count)
    × (l.i-iterator.count + length (changes_of l.i-iterator.iter) ≡ length (changes_of l.fn.self))
    × (length l.counts ≡ 64)
