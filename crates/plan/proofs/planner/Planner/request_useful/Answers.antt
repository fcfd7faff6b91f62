use Rattle.std.proofs.Common.{◌≡◌, ℕ, ◌+◌, ◌-◌, List, inl, ◌++◌, get_or, take, drop, sym, ap, ◌∙◌, subst, arith}
use native.Mathlib.Nat.{sub-zero}
use Rattle.std.proofs.lemmas.List.{append-nil}
use Rattle.change.specs.Change.{Change}
use Rattle.change.specs.Listed.{changes_of}
use Rattle.change.specs.Records.{change_of}
use Rattle.run.specs.Run.{Run, Verdict, runs_on}
use Rattle.run.specs.Records.{runs_in, verdicts_in}
use Rattle.run.specs.Layout.{benches_at, depth_at, waiting_count, most_running}
use Rattle.run.specs.Numbers.{landed_in, waiting_in}
use Rattle.run.proofs.Round.{run-records}
use Rattle.plan.specs.Plan.{request, useful}
use Rattle.plan.specs.Numbers.{first_waiting, requested_of}
use Rattle.plan.specs.Rows.{HoldsRuns}
use Rattle.plan.proofs.Looking.{look_all, look_counts, look_goes_on, look_inside, look_is, look_none}
use Rattle.plan.proofs.Among.{ahead_more, useful-all}
use Rattle.plan.proofs.Holding.{holds_read, holds_again, request_none, request-append}
use Rattle.plan.proofs.planner.Planner.request_useful.Goals as goal

pub loop-i-init : goal.loop-i-init
loop-i-init c =
    let xs : List ℕ = c.args.self.queue.now in
    let cs : List Change = landed_in xs in
    let d : ℕ = get_or xs depth_at 0 in
    let v = c.args.known.now in
    let s = c.args.running.now in
    let made = c.into_iter-i-iterator.result in
    let it = c.into_iter-i-iterator.ensures.into_iter_gives in
    let k : made.count ≡ 0 = ap (λ s. s.count) it ∙ c.enumerate-i-items.ensures.count in
    let all = look_all xs made.count (changes_of made.iter) k (ap (λ s. changes_of s.iter) it ∙ (ap changes_of c.enumerate-i-items.ensures.source ∙ c.looked_at.ensures)) in (
      (tt, tt, inl (look_counts xs made.count (changes_of made.iter) c.args.self.ready.depth all (omega (arith, k)))),
      tt,
      all,
      c.requires.running,
      ap (λ j. requested_of xs v.count v.numbers s.count s.numbers (useful (d - j) (cs ++ take j (waiting_in xs)) (drop j (waiting_in xs)))) k
          ∙ (λ i. requested_of xs v.count v.numbers s.count s.numbers (useful (sub-zero d i) (append-nil cs i) (waiting_in xs))),
    )

pub request_change-requires-clause-near : goal.request_change-requires-clause-near
request_change-requires-clause-near c =
    let s = c.in-Some.ensures.steps in
    omega (arith, s.1, c.args.self.ready.depth, look_inside c.args.self.queue.now c.loop-i.i-iterator.count (change_of c.in-Some.c) (changes_of c.loop-i.i-iterator.iter) (changes_of c.next.new.self.iter) c.loop-i.invariant.2 s.0)

pub loop-i-preserved : goal.loop-i-preserved
loop-i-preserved c =
    let xs : List ℕ = c.args.self.queue.now in
    let cs : List Change = landed_in xs in
    let ws : List Change = waiting_in xs in
    let v = c.args.known.now in
    let r = c.loop-i.running in
    let ks : List Verdict = verdicts_in cs v.count v.numbers in
    let rs : List Run = runs_in cs r.count r.numbers in
    let k : ℕ = c.loop-i.i-iterator.count in
    let b : ℕ = get_or xs benches_at 0 in
    let d : ℕ = get_or xs depth_at 0 in
    let x : Change = change_of c.in-Some.c in
    let n' : ℕ = c.request_change.new.running.count in
    let ys : List ℕ = c.request_change.new.running.numbers in
    let i = c.loop-i.invariant in
    let s = c.in-Some.ensures.steps in
    let left = changes_of c.loop-i.i-iterator.iter in
    let more = changes_of c.next.new.self.iter in
    let inside = look_inside xs k x left more i.2 s.0 in
    let on = look_goes_on xs k x left more i.2 s.0 c.args.self.ready.depth c.next.new.self.count s.2 in
    let fs : List Run = runs_on (cs ++ first_waiting k xs) x.number x.parts in
    let later : ℕ → List Run = λ j. useful (d - j) (cs ++ take j ws) (drop j ws) in
    let h : HoldsRuns cs n' ys (request b ks rs fs) = subst (λ j. HoldsRuns cs n' ys (request b ks rs (runs_on (cs ++ first_waiting j xs) x.number x.parts))) s.1 c.request_change.ensures in
    let m = ahead_more cs xs (get_or xs waiting_count 0) d k x (omega (arith, inside)) (omega (arith, inside)) (look_is xs k x left more i.2 s.0) in (
      (tt, tt, inl on.1),
      tt,
      on.0,
      holds_again (run-records cs) most_running n' ys (request b ks rs fs) h,
      ap (λ l. request b ks l (later c.next.new.self.count)) (holds_read (run-records cs) most_running n' ys (request b ks rs fs) h)
          ∙ (ap (λ j. request b ks (request b ks rs fs) (later j)) s.2
          ∙ (sym (request-append b ks rs fs (later (k + 1))) ∙ (ap (request b ks rs) (sym m) ∙ i.4))),
    )

pub returns : goal.returns
returns c =
    let xs : List ℕ = c.args.self.queue.now in
    let cs : List Change = landed_in xs in
    let ws : List Change = waiting_in xs in
    let v = c.args.known.now in
    let r = c.loop-i.running in
    let ks : List Verdict = verdicts_in cs v.count v.numbers in
    let rs : List Run = runs_in cs r.count r.numbers in
    let k : ℕ = c.loop-i.i-iterator.count in
    let b : ℕ = get_or xs benches_at 0 in
    let i = c.loop-i.invariant in
    let z = useful-all (get_or xs depth_at 0) k (cs ++ take k ws) ws (look_none xs k (sym i.2 ∙ c.in-None.ensures.steps.0.0)) in
    subst (HoldsRuns cs r.count r.numbers) (sym (ap (request b ks rs) z ∙ request_none b ks rs) ∙ i.4) i.3
