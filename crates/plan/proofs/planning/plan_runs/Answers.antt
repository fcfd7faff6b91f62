use Rattle.std.proofs.Common.{◌≡◌, ℕ, List, get_or, drop, ap, ◌∙◌, subst, arith}
use Rattle.change.specs.Change.{Change}
use Rattle.change.proofs.Rows.{length-rows}
use Rattle.run.specs.Run.{Run, Verdict}
use Rattle.run.specs.Records.{run_in, run_width, runs_in, verdicts_in}
use Rattle.run.specs.Layout.{benches_at, running_count, queue_length, most_running, most_verdicts}
use Rattle.run.specs.Numbers.{landed_in, config_in, decode, encode}
use Rattle.run.proofs.Round.{run-records, verdict_records}
use Rattle.plan.specs.Plan.{still_running, still_known, request, planned}
use Rattle.plan.specs.Numbers.{useful_now, verdicts_now, running_now}
use Rattle.plan.specs.Rows.{HoldsRuns, HoldsVerdicts}
use Rattle.plan.proofs.Holding.{holds_read, holds_again, request_longer}
use Rattle.plan.proofs.Storing.{planned_is, planned_fits, running-counted}
use Rattle.plan.proofs.planning.plan_runs.Goals as goal

pub invariant_of-planner : goal.invariant_of-planner
invariant_of-planner c = record { ready = c.requires.ready }

pub request_useful-requires-clause-known : goal.request_useful-requires-clause-known
request_useful-requires-clause-known c =
    let xs : List ℕ = c.args.queue.now in
    let k = c.keep_verdicts.new.kept in
    holds_again (verdict_records (landed_in xs)) most_verdicts k.count k.numbers (still_known (useful_now xs) (verdicts_now xs)) c.keep_verdicts.ensures

pub request_useful-requires-clause-running : goal.request_useful-requires-clause-running
request_useful-requires-clause-running c =
    let xs : List ℕ = c.args.queue.now in
    let r = c.keep_running.new.kept in
    holds_again (run-records (landed_in xs)) most_running r.count r.numbers (still_running (useful_now xs) (running_now xs)) c.keep_running.ensures

pub overflow_sub-requested : goal.overflow_sub-requested
overflow_sub-requested c =
    let xs : List ℕ = c.args.queue.now in
    let cs : List Change = landed_in xs in
    let rs : List ℕ = c.keep_running.new.kept.numbers in
    let k : ℕ = c.keep_running.new.kept.count in
    let l = request_longer (get_or xs benches_at 0) (verdicts_in cs c.keep_verdicts.new.kept.count c.keep_verdicts.new.kept.numbers) (runs_in cs k rs) (useful_now xs) in
    omega (arith, l, c.request_useful.ensures.count, length-rows (run_in cs) run_width k rs)

pub returns : goal.returns
returns c =
    let xs : List ℕ = c.args.queue.now in
    let cs : List Change = landed_in xs in
    let us : List Run = useful_now xs in
    let vs : List Verdict = still_known us (verdicts_now xs) in
    let still : List Run = still_running us (running_now xs) in
    let b : ℕ = get_or xs benches_at 0 in
    let v : ℕ = c.keep_verdicts.new.kept.count in
    let k : ℕ = c.keep_running.new.kept.count in
    let n : ℕ = c.request_useful.new.running.count in
    let ys : List ℕ = c.keep_verdicts.new.kept.numbers in
    let rs : List ℕ = c.keep_running.new.kept.numbers in
    let zs : List ℕ = c.request_useful.new.running.numbers in
    let hv : HoldsVerdicts cs v ys vs = c.keep_verdicts.ensures in
    let hs : HoldsRuns cs k rs still = c.keep_running.ensures in
    let same : request b (verdicts_in cs v ys) (runs_in cs k rs) us ≡ request b vs still us =
    λ i. request b (holds_read (verdict_records cs) most_verdicts v ys vs hv i) (holds_read (run-records cs) most_running k rs still hs i) us in
    let hr : HoldsRuns cs n zs (request b vs still us) = subst (HoldsRuns cs n zs) same c.request_useful.ensures in
    let s = c.requires.ready.settled in
    let e : c.store.new.queue ≡ encode (config_in xs) (planned (config_in xs) (decode xs)) (drop queue_length xs) = c.store.ensures ∙ planned_is xs s ys zs v n hv hr k hs.count in
    record {
      is = e;
      fits = planned_fits xs s ys zs v n hv hr;
      running = ap (λ l. get_or l running_count 0) e ∙ running-counted (config_in xs) (planned (config_in xs) (decode xs)) (drop queue_length xs);
    }
