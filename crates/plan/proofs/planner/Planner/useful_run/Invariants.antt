use Rattle.std.proofs.Common.{◌≡◌, ◌+◌, ◌≤◌, ◌++◌, length, take}
use Rattle.change.specs.Change.{line}
use Rattle.change.specs.Listed.{changes_of}
use Rattle.plan.specs.Numbers.{first_waiting}
use Rattle.plan.proofs.planner.Planner.useful_run.Given as goal

abbrev pub invariant-loop-c : goal.invariant-loop-c
invariant-loop-c l =
    (l.run.part ≡ l.initial.run.part)
    × (l.run.begins ≡ l.initial.run.begins)
    × (take l.run.follows l.run.numbers ++ line l.part (changes_of l.c-iterator) ≡ line l.part (first_waiting l.n l.self.queue.now))
    × (l.run.follows + length (changes_of l.c-iterator) ≤ l.n)
