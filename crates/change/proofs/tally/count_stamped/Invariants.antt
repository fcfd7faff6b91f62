use Rattle.std.proofs.Common.{◌≡◌, ℕ, ◌+◌, ◌<◌, cond, length, get_or, take}
use Rattle.change.specs.Change.{has}
use Rattle.change.proofs.tally.count_stamped.Given as goal

abbrev pub invariant-loop-part : goal.invariant-loop-part
invariant-loop-part l =
    ((p : ℕ) → p < 64 → get_or l.counts p 0 ≡ get_or l.initial.counts p 0 + cond (has (take l.part-index l.part-items) p) 1 0)
    × ((p : ℕ) → p < 64 → get_or l.stamps p 0 ≡ cond (has (take l.part-index l.part-items) p) l.stamp (get_or l.initial.stamps p 0))
    × (length l.counts ≡ 64)
    × (length l.stamps ≡ 64)
