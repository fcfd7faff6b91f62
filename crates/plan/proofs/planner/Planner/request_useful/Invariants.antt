use Rattle.std.proofs.Common.{◌≡◌, ℕ, ◌-◌, List, ◌++◌, get_or, take, drop}
use Rattle.change.specs.Listed.{changes_of}
use Rattle.run.specs.Layout.{depth_at}
use Rattle.run.specs.Numbers.{landed_in, waiting_in}
use Rattle.run.specs.Records.{runs_in}
use Rattle.run.specs.Run.{Run}
use Rattle.plan.specs.Plan.{useful}
use Rattle.plan.specs.Numbers.{requested_of, useful_now}
use Rattle.plan.specs.Rows.{HoldsRuns}
use Rattle.plan.proofs.Looking.{still_looked}
use Rattle.plan.proofs.planner.Planner.request_useful.Given as goal

abbrev pub invariant-loop-i : goal.invariant-loop-i
invariant-loop-i l =
    let xs = l.self.queue.now in
    let k = l.i-iterator.count in
    let asked = λ (n : ℕ) (rs : List ℕ) (us : List Run). requested_of xs l.known.count l.known.numbers n rs us in
    goal.iterator-loop-i.can_next l.i-iterator
    × goal.iterator-loop-i.is_finite l.i-iterator
    × (changes_of l.i-iterator.iter ≡ still_looked xs k)
    × HoldsRuns (landed_in xs) l.running.count l.running.numbers (runs_in (landed_in xs) l.running.count l.running.numbers)
    × (asked l.running.count l.running.numbers (useful (get_or xs depth_at 0 - k) (landed_in xs ++ take k (waiting_in xs)) (drop k (waiting_in xs)))
    ≡ asked l.initial.running.count l.initial.running.numbers (useful_now xs))
