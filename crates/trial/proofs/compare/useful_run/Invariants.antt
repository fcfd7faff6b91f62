use Rattle.std.proofs.Common.{◌≡◌, ◌+◌, ◌≤◌, length}
use Rattle.change.specs.Change.{line}
use Rattle.change.specs.Listed.{changes_of}
use Rattle.trial.specs.Held.{landed_held}
use Rattle.trial.proofs.compare.useful_run.Given as goal

-- no more follow than were looked at
abbrev pub invariant-loop-c : goal.invariant-loop-c
invariant-loop-c l =
    (l.run.follows + length (changes_of l.c-iterator) ≤ l.n) × (l.run.begins ≡ length (line l.run.part (landed_held l.state.queue.now)))
