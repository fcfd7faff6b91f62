use Rattle.std.proofs.Common.{◌≡◌, ℕ, ◌+◌, ◌-◌, ◌*◌, ◌<◌, ◌≤◌, false, eqb, ◌||◌, List, [], ◌∷◌, ◌++◌, length, get_or, take, drop, sym, refl, ap, ◌∙◌, subst, arith}
use Rattle.std.proofs.lemmas.List.{length_push}
use Rattle.change.specs.Change.{Change}
use Rattle.change.specs.Listed.{changes_of}
use Rattle.change.specs.Records.{Tallies, change_of, changes_in}
use Rattle.change.proofs.ChangeLaws.{length-line_le}
use Rattle.change.proofs.Chunks.{left_all, chunk_inside, chunk_more, chunk_none, chunk_row}
use Rattle.change.proofs.Rows.{rest, rest_none}
use Rattle.run.specs.Layout.{verdicts_at, verdicts_count, waiting_at, waiting_count}
use Rattle.run.specs.Numbers.{Begins, landed_in, waiting_in}
use Rattle.run.specs.Records.{run_in, run_of, run_width, verdict_in, verdict_width, verdicts_in}
use Rattle.run.specs.Run.{Verdict, heard, runs_on}
use Rattle.run.proofs.Changed.{count_landed}
use Rattle.run.proofs.Heard.{heard_elsewhere, stored_fits}
use Rattle.decide.specs.Decide.{decision, decision_by, shares_any}
use Rattle.decide.specs.declared.decision.Decision.{Decision}
use Rattle.decide.specs.declared.decision.Decision.TheVariants.{Wait, Land, Reject}
use Rattle.decide.proofs.Moves.{tallies_land}
use Rattle.decide.proofs.Looks.{looked, looks_bad, looks_good, looks_in_vain, looks_on}
use Rattle.decide.proofs.Turns.{Underway, behind, behind_stays, by_runs, done, done_state, held_verdicts, lands, rejects, stays, taken_out, turned_decided, turned_held, turned_none}
use Rattle.decide.proofs.passing.pass.Goals as goal
use Rattle.decide.proofs.passing.pass.Goals.{else-parts-test, then-parts-test+in-Some-verdict+else-verdict-part+then-same_as+else-says_good, in-Wait, in-Land, in-Reject}

pub changes-init : goal.changes-init
changes-init c = turned_none c.args.queue.now c.args.tally.now c.requires.settled c.requires.tallied

pub changes-preserved-then-shares : goal.changes-preserved-then-shares
changes-preserved-then-shares c =
    let old : List ℕ = c.args.queue.now in
    let xs : List ℕ = c.changes.queue in
    let t = c.changes.invariant in
    let i : ℕ = c.changes.turn - c.changes.decided in
    let x : Change = change_of c.change_at-c.result in
    let lt : i < get_or xs waiting_count 0 = omega (arith, t.fewer, t.left, c.changes-test.true) in
    let e = sym c.loop-earlier.invariant ∙ (ap (shares_any x) c.in-Some.ensures.steps ∙ ap (λ b. b || shares_any x (changes_of c.next.new.self)) (sym c.if-shares.ensures)) in
    let d = behind old xs i x t.underway lt c.change_at-c.ensures e in
    turned_held old xs c.changes.tally c.changes.turn c.changes.decided t (stays old xs i x t.underway lt c.change_at-c.ensures d)

pub count_of-begins-requires : goal.count_of-begins-requires
count_of-begins-requires c = subst (Tallies c.changes.tally) (sym c.at-landed.ensures) c.changes.invariant.tallied

pub loop-verdict-init : goal.loop-verdict-init
loop-verdict-init c =
    let rows = c.records_at-verdict-items.ensures in
    let n : ℕ = get_or c.args.queue.now verdicts_count 0 in
    let cs : List Change = changes_of c.at-landed.result in (
      left_all verdict_width n verdicts_at c.changes.queue _ _ c.into_iter-verdict-iterator.ensures.into_iter_gives rows.size rows.rest,
      refl,
      ap (heard (run_of cs c.run_on_top-top.result)) (rest_none (verdict_in cs) verdict_width c.changes.queue verdicts_at n),
    )

pub same_as-requires-clause-fits : goal.same_as-requires-clause-fits
same_as-requires-clause-fits c =
    let xs : List ℕ = c.changes.queue in
    let cs : List Change = changes_of c.at-landed.result in
    let u : Underway c.args.queue.now xs (c.changes.turn - c.changes.decided) = c.changes.invariant.underway in
    let n : ℕ = get_or c.args.queue.now verdicts_count 0 in
    let k : ℕ = length c.loop-verdict.yielded in
    let ps : List ℕ = c.touched-part-items.result.now in
    let long : verdicts_at + verdict_width * n ≤ length xs = omega (arith, u.settled.long, u.settled.few_verdicts, u.count) in
    let it = c.loop-verdict.verdict-iterator in
    let next = c.next-in-loop-verdict.new.self in
    let v = c.in-Some-verdict.verdict.now in
    let i = c.loop-verdict.invariant in
    let inside = chunk_inside verdict_width n verdicts_at k xs (omega arith) long it i.0 v next c.in-Some-verdict.ensures.steps in
    let is = chunk_row verdict_width n verdicts_at k xs (omega arith) long it i.0 v next c.in-Some-verdict.ensures.steps in
    let r = c.read_run.ensures in
    stored_fits xs k cs c.read_run.result (r.part ∙ ap (λ l. get_or l 0 0) is) (r.begins ∙ ap (λ l. get_or l 1 0) is) (subst (λ l. Begins l (drop (verdicts_at + verdict_width * k) xs)) (sym c.at-landed.ensures) (u.settled.verdicts_fit k (omega (arith, u.count, inside))))

pub loop-verdict-preserved-then-verdict-part : goal.loop-verdict-preserved-then-verdict-part
loop-verdict-preserved-then-verdict-part c =
    let xs : List ℕ = c.changes.queue in
    let cs : List Change = changes_of c.at-landed.result in
    let u : Underway c.args.queue.now xs (c.changes.turn - c.changes.decided) = c.changes.invariant.underway in
    let n : ℕ = get_or c.args.queue.now verdicts_count 0 in
    let k : ℕ = length c.loop-verdict.yielded in
    let ps : List ℕ = c.touched-part-items.result.now in
    let long : verdicts_at + verdict_width * n ≤ length xs = omega (arith, u.settled.long, u.settled.few_verdicts, u.count) in
    let it = c.loop-verdict.verdict-iterator in
    let next = c.next-in-loop-verdict.new.self in
    let v = c.in-Some-verdict.verdict.now in
    let i = c.loop-verdict.invariant in
    let inside = chunk_inside verdict_width n verdicts_at k xs (omega arith) long it i.0 v next c.in-Some-verdict.ensures.steps in
    let is = chunk_row verdict_width n verdicts_at k xs (omega arith) long it i.0 v next c.in-Some-verdict.ensures.steps in
    let on : length (c.loop-verdict.yielded ++ c.in-Some-verdict.verdict ∷ []) ≡ k + 1 = length_push c.loop-verdict.yielded c.in-Some-verdict.verdict in (
      chunk_more verdict_width n verdicts_at k xs (omega arith) long it i.0 v next c.in-Some-verdict.ensures.steps c.loop-verdict.yielded c.in-Some-verdict.verdict refl,
      i.1,
      ap (λ j. heard (run_of cs c.run_on_top-top.result) (rest (verdict_in cs) verdict_width xs verdicts_at n j)) on
          ∙ (sym (heard_elsewhere cs xs n k (run_of cs c.run_on_top-top.result) long inside (λ e. c.if-verdict-part.true (ap (λ l. get_or l 0 0) is ∙ (e ∙ c.run_on_top-top.ensures.part)))) ∙ i.2),
    )

pub loop-verdict-preserved : goal.loop-verdict-preserved
loop-verdict-preserved c =
    let xs : List ℕ = c.changes.queue in
    let cs : List Change = changes_of c.at-landed.result in
    let u : Underway c.args.queue.now xs (c.changes.turn - c.changes.decided) = c.changes.invariant.underway in
    let n : ℕ = get_or c.args.queue.now verdicts_count 0 in
    let k : ℕ = length c.loop-verdict.yielded in
    let ps : List ℕ = c.touched-part-items.result.now in
    let long : verdicts_at + verdict_width * n ≤ length xs = omega (arith, u.settled.long, u.settled.few_verdicts, u.count) in
    let it = c.loop-verdict.verdict-iterator in
    let next = c.next-in-loop-verdict.new.self in
    let v = c.in-Some-verdict.verdict.now in
    let i = c.loop-verdict.invariant in
    let inside = chunk_inside verdict_width n verdicts_at k xs (omega arith) long it i.0 v next c.in-Some-verdict.ensures.steps in
    let is = chunk_row verdict_width n verdicts_at k xs (omega arith) long it i.0 v next c.in-Some-verdict.ensures.steps in
    let on : length (c.loop-verdict.yielded ++ c.in-Some-verdict.verdict ∷ []) ≡ k + 1 = length_push c.loop-verdict.yielded c.in-Some-verdict.verdict in (
      chunk_more verdict_width n verdicts_at k xs (omega arith) long it i.0 v next c.in-Some-verdict.ensures.steps c.loop-verdict.yielded c.in-Some-verdict.verdict refl,
      i.1,
      ap (λ j. heard (run_of cs c.run_on_top-top.result) (rest (verdict_in cs) verdict_width xs verdicts_at n j)) on
          ∙ looks_on cs xs n k c.parts.part-index c.change_at-c.result.number ps (run_of cs c.run_on_top-top.result) c.parts-test.true (c.run_on_top-top.ensures.value cs c.count_of-begins.ensures) i.2 (run_of cs c.read_run.result) c.same_as.result long inside (c.read_run.ensures.value cs ∙ ap (run_in cs) is) c.same_as.ensures c.if-same_as.false,
    )

pub parts-preserved-then-says_good : goal.parts-preserved-then-says_good
parts-preserved-then-says_good c =
    let xs : List ℕ = c.changes.queue in
    let cs : List Change = changes_of c.at-landed.result in
    let u : Underway c.args.queue.now xs (c.changes.turn - c.changes.decided) = c.changes.invariant.underway in
    let n : ℕ = get_or c.args.queue.now verdicts_count 0 in
    let k : ℕ = length c.loop-verdict.yielded in
    let ps : List ℕ = c.touched-part-items.result.now in
    let long : verdicts_at + verdict_width * n ≤ length xs = omega (arith, u.settled.long, u.settled.few_verdicts, u.count) in
    let it = c.loop-verdict.verdict-iterator in
    let next = c.next-in-loop-verdict.new.self in
    let v = c.in-Some-verdict.verdict.now in
    let i = c.loop-verdict.invariant in
    let inside = chunk_inside verdict_width n verdicts_at k xs (omega arith) long it i.0 v next c.in-Some-verdict.ensures.steps in
    let is = chunk_row verdict_width n verdicts_at k xs (omega arith) long it i.0 v next c.in-Some-verdict.ensures.steps in
    let l = looks_good cs xs n k c.parts.part-index c.change_at-c.result.number ps (run_of cs c.run_on_top-top.result) c.parts-test.true (c.run_on_top-top.ensures.value cs c.count_of-begins.ensures) i.2 (run_of cs c.read_run.result) c.same_as.result long inside (c.read_run.ensures.value cs ∙ ap (run_in cs) is) c.same_as.ensures c.parts.decision c.if-same_as.true (ap (λ l. eqb (get_or l run_width 0) 1) (sym is) ∙ (sym c.says_good.ensures ∙ c.if-says_good.true)) in
    rw i.1 (sym l ∙ c.parts.invariant)

pub parts-preserved : goal.parts-preserved
parts-preserved c =
    let xs : List ℕ = c.changes.queue in
    let cs : List Change = changes_of c.at-landed.result in
    let u : Underway c.args.queue.now xs (c.changes.turn - c.changes.decided) = c.changes.invariant.underway in
    let n : ℕ = get_or c.args.queue.now verdicts_count 0 in
    let k : ℕ = length c.loop-verdict.yielded in
    let ps : List ℕ = c.touched-part-items.result.now in
    let long : verdicts_at + verdict_width * n ≤ length xs = omega (arith, u.settled.long, u.settled.few_verdicts, u.count) in
    let i = c.loop-verdict.invariant in
    let end = chunk_none verdict_width n verdicts_at k xs (omega arith) long c.loop-verdict.verdict-iterator i.0 c.in-None-verdict.ensures.steps.1.0 in
    sym (looks_in_vain cs xs n k c.parts.part-index c.change_at-c.result.number ps (run_of cs c.run_on_top-top.result) c.parts-test.true (c.run_on_top-top.ensures.value cs c.count_of-begins.ensures) i.2 c.parts.decision end) ∙ c.parts.invariant

pub land-requires : goal.land-requires
land-requires c =
    let xs : List ℕ = c.changes.queue in
    let u : Underway c.args.queue.now xs (c.changes.turn - c.changes.decided) = c.changes.invariant.underway in
    let lt : c.changes.turn - c.changes.decided < get_or xs waiting_count 0 = omega (arith, c.changes.invariant.fewer, c.changes.invariant.left, c.changes-test.true) in
    let o = taken_out c.args.queue.now xs (c.changes.turn - c.changes.decided) (change_of c.change_at-c.result) u lt c.change_at-c.ensures c.take_out.new.queue c.take_out.ensures in
    record { settled = o.0; few = o.1 }

pub count_parts-requires : goal.count_parts-requires
count_parts-requires c =
    λ p lt. omega (arith, c.changes.invariant.tallied p lt, length-line_le p (landed_in c.changes.queue), count_landed c.changes.queue, c.changes.invariant.underway.settled.few_landed)

pub reject-requires : goal.reject-requires
reject-requires c =
    let xs : List ℕ = c.changes.queue in
    let u : Underway c.args.queue.now xs (c.changes.turn - c.changes.decided) = c.changes.invariant.underway in
    let lt : c.changes.turn - c.changes.decided < get_or xs waiting_count 0 = omega (arith, c.changes.invariant.fewer, c.changes.invariant.left, c.changes-test.true) in
    let o = taken_out c.args.queue.now xs (c.changes.turn - c.changes.decided) (change_of c.change_at-c.result) u lt c.change_at-c.ensures c.take_out-in-Reject.new.queue c.take_out-in-Reject.ensures in
    record { settled = o.0; few = o.2 }

pub changes-preserved : goal.changes-preserved
changes-preserved c =
    let old : List ℕ = c.args.queue.now in
    let xs : List ℕ = c.changes.queue in
    let cs : List Change = changes_of c.at-landed.result in
    let ls : List Change = landed_in xs in
    let i : ℕ = c.changes.turn - c.changes.decided in
    let n : ℕ = get_or old verdicts_count 0 in
    let ps : List ℕ = c.touched-part-items.result.now in
    let vs : List Verdict = verdicts_in cs n (drop verdicts_at xs) in
    let x : Change = change_of c.change_at-c.result in
    let long : verdicts_at + verdict_width * n ≤ length xs = omega (arith, c.changes.invariant.underway.settled.long, c.changes.invariant.underway.settled.few_verdicts, c.changes.invariant.underway.count) in
    let u : Underway old xs i = c.changes.invariant.underway in
    let lt : i < get_or xs waiting_count 0 = omega (arith, c.changes.invariant.fewer, c.changes.invariant.left, c.changes-test.true) in
    let free : shares_any x (changes_in i (drop waiting_at xs)) ≡ false = sym c.loop-earlier.invariant ∙ ap (shares_any x) c.in-None.ensures.steps.0 in
    let l : c.parts-test.decision ≡ decision_by Land (runs_on cs x.number ps) vs = elim c.parts-test.branch [
      | else-parts-test w ↦ w.decision-is ∙ (sym (looked cs vs c.parts.part-index x.number ps c.parts.decision (omega (arith, w.parts-test.false))) ∙ c.parts.invariant)
      | then-parts-test+in-Some-verdict+else-verdict-part+then-same_as+else-says_good w ↦
          let k : ℕ = length w.loop-verdict.yielded in
          let it = w.loop-verdict.verdict-iterator in
          let next = w.next-in-loop-verdict.new.self in
          let v = w.in-Some-verdict.verdict.now in
          let i = w.loop-verdict.invariant in
          let inside = chunk_inside verdict_width n verdicts_at k xs (omega arith) long it i.0 v next w.in-Some-verdict.ensures.steps in
          let is = chunk_row verdict_width n verdicts_at k xs (omega arith) long it i.0 v next w.in-Some-verdict.ensures.steps in
          w.decision-is
          ∙ (sym (looks_bad cs xs n k c.parts.part-index c.change_at-c.result.number ps (run_of cs w.run_on_top-top.result) w.parts-test.true (w.run_on_top-top.ensures.value cs w.count_of-begins.ensures) i.2 (run_of cs w.read_run.result) w.same_as.result long inside (w.read_run.ensures.value cs ∙ ap (run_in cs) is) w.same_as.ensures c.parts.decision w.if-same_as.true (ap (λ l. eqb (get_or l run_width 0) 1) (sym is) ∙ (sym w.says_good.ensures ∙ w.if-says_good.false)))
          ∙ c.parts.invariant)
    ] in
    let by_all : decision_by Land (runs_on cs x.number ps) vs ≡ decision_by Land (runs_on ls x.number x.parts) (verdicts_in ls n (drop verdicts_at xs)) =
    λ j. decision_by Land (runs_on (c.at-landed.ensures j) x.number (c.touched-part-items.ensures j)) (verdicts_in (c.at-landed.ensures j) n (drop verdicts_at xs)) in
    let d : (y : Decision) → c.parts-test.decision ≡ y → decision (held_verdicts xs) (take i (waiting_in xs)) ls x ≡ y =
    λ y e. by_runs old xs i x u lt c.change_at-c.ensures n y refl free (sym by_all ∙ (sym l ∙ e)) in
    let more = turned_decided old xs c.changes.tally c.changes.turn c.changes.decided c.changes.invariant in
    elim c.match-decision.branch [
      | in-Wait w ↦
          rw (w.queue-is, w.decided-is, w.tally-is) (turned_held old xs c.changes.tally c.changes.turn c.changes.decided c.changes.invariant (stays old xs i x u lt c.change_at-c.ensures (d Wait w.in-Wait.is)))
      | in-Land w ↦
          let m = lands old xs i x u lt c.change_at-c.ensures w.take_out.new.queue w.take_out.ensures w.land.new.queue w.land.ensures (d Land w.in-Land.is) in
          let t = tallies_land c.changes.tally w.count_parts.new.counts ls x c.changes.invariant.tallied w.count_parts.ensures in
          rw (w.queue-is, w.decided-is, w.tally-is) (more w.land.new.queue w.count_parts.new.counts m.0 m.1 (subst (Tallies w.count_parts.new.counts) (sym m.2) t))
      | in-Reject w ↦
          let m = rejects old xs i x u lt c.change_at-c.ensures w.take_out-in-Reject.new.queue w.take_out-in-Reject.ensures w.reject.new.queue w.reject.ensures (d Reject w.in-Reject.is) in
          rw (w.queue-is, w.decided-is, w.tally-is) (more w.reject.new.queue c.changes.tally m.0 m.1 (subst (Tallies c.changes.tally) (sym m.2) c.changes.invariant.tallied))
    ]

pub returns : goal.returns
returns c =
    let t = c.changes.invariant in
    let i : ℕ = c.changes.turn - c.changes.decided in
    let all : get_or c.changes.queue waiting_count 0 ≤ i = omega (arith, t.fewer, t.left, c.changes-test.false) in
    record {
      passed = done c.args.queue.now c.changes.queue i t.underway all;
      state = done_state c.args.queue.now c.changes.queue i t.underway all;
      behind = behind_stays c.args.queue.now c.changes.queue i t.underway;
      settled = t.underway.settled;
      tallied = t.tallied;
    }
