use Rattle.std.proofs.Common.{◌≡◌, ◌-◌, ◌++◌, get_or, take, drop}
use Rattle.change.specs.Listed.{changes_of}
use Rattle.run.specs.Layout.{depth_at}
use Rattle.run.specs.Numbers.{landed_in, waiting_in}
use Rattle.run.specs.Records.{run_of}
use Rattle.plan.specs.Plan.{among, useful}
use Rattle.plan.specs.Numbers.{useful_now}
use Rattle.plan.proofs.Looking.{still_looked}
use Rattle.plan.proofs.planner.Planner.find_useful.Given as goal

-- the stored run is among the useful runs of those that are left, if it is useful
abbrev pub invariant-loop-i : goal.invariant-loop-i
invariant-loop-i l =
    let xs = l.self.queue.now in
    let k = l.i-iterator.count in
    goal.iterator-loop-i.can_next l.i-iterator
    × goal.iterator-loop-i.is_finite l.i-iterator
    × (changes_of l.i-iterator.iter ≡ still_looked xs k)
    × (among (run_of (landed_in xs) l.fn.stored) (useful (get_or xs depth_at 0 - k) (landed_in xs ++ take k (waiting_in xs)) (drop k (waiting_in xs)))
    ≡ among (run_of (landed_in xs) l.fn.stored) (useful_now xs))
