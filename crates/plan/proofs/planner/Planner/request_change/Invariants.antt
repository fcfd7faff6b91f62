use Rattle.std.proofs.Common.{◌≡◌, ℕ, List, ◌++◌, drop}
use Rattle.run.specs.Numbers.{landed_in}
use Rattle.run.specs.Records.{runs_in}
use Rattle.run.specs.Run.{runs_on}
use Rattle.plan.specs.Numbers.{first_waiting, requested_of}
use Rattle.plan.specs.Rows.{HoldsRuns}
use Rattle.plan.proofs.planner.Planner.request_change.Given as goal

abbrev pub invariant-loop-part : goal.invariant-loop-part
invariant-loop-part l =
    let xs = l.self.queue.now in
    let runs = λ (ps : List ℕ). runs_on (landed_in xs ++ first_waiting l.w xs) l.fn.c.number ps in
    HoldsRuns (landed_in xs) l.running.count l.running.numbers (runs_in (landed_in xs) l.running.count l.running.numbers)
    × (requested_of xs l.known.count l.known.numbers l.running.count l.running.numbers (runs (drop l.part-index l.part-items))
    ≡ requested_of xs l.known.count l.known.numbers l.initial.running.count l.initial.running.numbers (runs l.part-items))
