use Rattle.std.proofs.Common.{◌≡◌, ◌*◌, ◌≤◌, length, drop}
use Rattle.change.specs.Records.{table}
use Rattle.change.proofs.Chunks.{Left}
use Rattle.run.specs.Layout.{most_verdicts, verdicts_at}
use Rattle.run.specs.Numbers.{landed_in}
use Rattle.run.specs.Records.{verdict_row, verdict_width, verdicts_in}
use Rattle.plan.specs.Plan.{still_known}
use Rattle.plan.specs.Numbers.{useful_now}
use Rattle.plan.proofs.planner.Planner.keep_verdicts.Given as goal

abbrev pub invariant-loop-verdict : goal.invariant-loop-verdict
invariant-loop-verdict l =
    let xs = l.self.queue.now in
    let k = length l.yielded in
    Left verdict_width l.n verdicts_at xs l.verdict-iterator k
    × (l.kept.numbers ≡ table (verdict_row (landed_in xs)) (verdict_width * most_verdicts) (still_known (useful_now xs) (verdicts_in (landed_in xs) k (drop verdicts_at xs))))
    × (l.kept.count ≡ length (still_known (useful_now xs) (verdicts_in (landed_in xs) k (drop verdicts_at xs))))
    × (l.kept.count ≤ k)
    × (k ≤ l.n)
