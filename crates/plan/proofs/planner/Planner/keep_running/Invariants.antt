use Rattle.std.proofs.Common.{◌≡◌, ◌*◌, ◌≤◌, length, drop}
use Rattle.change.specs.Records.{table}
use Rattle.change.proofs.Chunks.{Left}
use Rattle.run.specs.Layout.{most_running, running_at}
use Rattle.run.specs.Numbers.{landed_in}
use Rattle.run.specs.Records.{run_row, run_width, runs_in}
use Rattle.plan.specs.Plan.{still_running}
use Rattle.plan.specs.Numbers.{useful_now}
use Rattle.plan.proofs.planner.Planner.keep_running.Given as goal

abbrev pub invariant-loop-row : goal.invariant-loop-row
invariant-loop-row l =
    let xs = l.self.queue.now in
    let k = length l.yielded in
    Left run_width l.n running_at xs l.row-iterator k
    × (l.kept.numbers ≡ table (run_row (landed_in xs)) (run_width * most_running) (still_running (useful_now xs) (runs_in (landed_in xs) k (drop running_at xs))))
    × (l.kept.count ≡ length (still_running (useful_now xs) (runs_in (landed_in xs) k (drop running_at xs))))
    × (l.kept.count ≤ k)
    × (k ≤ l.n)
