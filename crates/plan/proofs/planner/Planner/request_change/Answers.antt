use Rattle.std.proofs.Common.{◌≡◌, ℕ, ◌+◌, cond, ◌&&◌, ltb, List, [], ◌∷◌, ◌++◌, length, get_or, drop, sym, ap, ◌∙◌, subst, arith}
use Rattle.std.proofs.lemmas.List.{at_drop_all}
use Rattle.change.specs.Change.{Change, line}
use Rattle.change.specs.Records.{change_in, change_of, change_width}
use Rattle.change.proofs.Rows.{length-rows}
use Rattle.change.proofs.ChangeLaws.{length-line_le}
use Rattle.run.specs.Run.{Run, Verdict, runs_on}
use Rattle.run.specs.Records.{row_of, run_row, runs_in, verdicts_in, Ahead}
use Rattle.run.specs.Layout.{benches_at, most_running, waiting_at}
use Rattle.run.specs.Numbers.{landed_in}
use Rattle.run.proofs.Rows.{row_is}
use Rattle.run.proofs.Round.{run-records}
use Rattle.plan.specs.Plan.{lacks, request}
use Rattle.plan.specs.Numbers.{first_waiting, requested_of, run_behind}
use Rattle.plan.specs.Rows.{HoldsRuns}
use Rattle.plan.proofs.Ahead.{ahead_on}
use Rattle.plan.proofs.Holding.{request_one, holds_read, holds_again, request_full, request_none, request_more, runs_more}
use Rattle.plan.proofs.planner.Planner.request_change.Goals as goal

-- what is asked for depends on the parts alone
asked_of : (xs : List ℕ) (w number known : ℕ) (verdicts : List ℕ) (n : ℕ) (running ps qs : List ℕ) → ps ≡ qs →
    requested_of xs known verdicts n running (runs_on (landed_in xs ++ first_waiting w xs) number ps) ≡ requested_of xs known verdicts n running (runs_on (landed_in xs ++ first_waiting w xs) number qs)
asked_of xs w number known verdicts n running ps qs e = ap (λ l. requested_of xs known verdicts n running (runs_on (landed_in xs ++ first_waiting w xs) number l)) e

pub returns-then-running-benches : goal.returns-then-running-benches
returns-then-running-benches c =
    let xs : List ℕ = c.args.self.queue.now in
    let cs : List Change = landed_in xs in
    let s = c.loop-part.running in
    let rs : List Run = runs_in cs s.count s.numbers in
    let h : HoldsRuns cs s.count s.numbers rs = c.loop-part.invariant.0 in
    let ps : List ℕ = c.touched-part-items.result.now in
    let ks : List Verdict = verdicts_in cs c.args.known.now.count c.args.known.now.numbers in
    let full = request_full (get_or xs benches_at 0) ks rs (runs_on (cs ++ first_waiting c.args.w xs) c.args.c.number (drop c.loop-part.part-index ps)) (omega (arith, h.count, c.if-running-benches.true)) in
    let all = asked_of xs c.args.w c.args.c.number c.args.known.now.count c.args.known.now.numbers c.args.running.now.count c.args.running.now.numbers ps (change_of c.args.c).parts c.touched-part-items.ensures in
    subst (HoldsRuns cs s.count s.numbers) (sym full ∙ (c.loop-part.invariant.1 ∙ all)) h

pub loop-part-preserved : goal.loop-part-preserved
loop-part-preserved c =
    let xs : List ℕ = c.args.self.queue.now in
    let cs : List Change = landed_in xs in
    let ws : List Change = first_waiting c.args.w xs in
    let s = c.loop-part.running in
    let v = c.args.known.now in
    let ks : List Verdict = verdicts_in cs v.count v.numbers in
    let rs : List Run = runs_in cs s.count s.numbers in
    let ps : List ℕ = c.touched-part-items.result.now in
    let p : ℕ = c.loop-part.part-index in
    let q : ℕ = get_or ps p 0 in
    let m : ℕ = c.args.c.number in
    let r : Run = run_behind xs c.args.w m q in
    let b : ℕ = get_or xs benches_at 0 in
    let u = c.useful_run.result in
    let n' : ℕ = c.request_run.new.running.count in
    let ys : List ℕ = c.request_run.new.running.numbers in
    let a : Ahead cs r = ahead_on cs ws m q (omega (arith, length-line_le q ws, length-rows change_in change_width c.args.w (drop waiting_at xs), c.requires.near)) in
    let row : row_of u ≡ run_row cs r =
    row_is cs u (c.useful_run.ensures.begins ∙ ap (λ p. length (line p cs)) (sym c.useful_run.ensures.part)) (omega (arith, u.few, u.long)) ∙ ap (run_row cs) c.useful_run.ensures.value in
    let rs' : List Run = cond (ltb (length rs) b && lacks ks rs r) (rs ++ r ∷ []) rs in
    let h : HoldsRuns cs n' ys rs' =
    request_one cs b v.count s.count n' v.numbers s.numbers ys (row_of u) ks rs r c.requires.known c.loop-part.invariant.0 a row c.args.self.ready.benches c.request_run.ensures.row c.request_run.ensures.count in
    let later : List Run = runs_on (cs ++ ws) m (drop (p + 1) ps) in
    let more : runs_on (cs ++ ws) m (drop p ps) ≡ r ∷ later = runs_more (cs ++ ws) m ps p c.loop-part-test.true in (
      holds_again (run-records cs) most_running n' ys rs' h,
      ap (λ l. request b ks l later) (holds_read (run-records cs) most_running n' ys rs' h) ∙ (sym (request_more b ks rs later r) ∙ (ap (request b ks rs) (sym more) ∙ c.loop-part.invariant.1)),
    )

pub returns : goal.returns
returns c =
    let xs : List ℕ = c.args.self.queue.now in
    let cs : List Change = landed_in xs in
    let s = c.loop-part.running in
    let ks : List Verdict = verdicts_in cs c.args.known.now.count c.args.known.now.numbers in
    let rs : List Run = runs_in cs s.count s.numbers in
    let ps : List ℕ = c.touched-part-items.result.now in
    let b : ℕ = get_or xs benches_at 0 in
    let e = at_drop_all (λ qs. request b ks rs (runs_on (cs ++ first_waiting c.args.w xs) c.args.c.number qs)) ps c.loop-part.part-index (omega (arith, c.loop-part-test.false)) ∙ request_none b ks rs in
    let all = asked_of xs c.args.w c.args.c.number c.args.known.now.count c.args.known.now.numbers c.args.running.now.count c.args.running.now.numbers ps (change_of c.args.c).parts c.touched-part-items.ensures in
    subst (HoldsRuns cs s.count s.numbers) (sym e ∙ (c.loop-part.invariant.1 ∙ all)) c.loop-part.invariant.0
