use Rattle.std.proofs.Common.{◌≡◌, ℕ, ◌+◌, ◌*◌, ◌≤◌, true, false, List, [], ◌∷◌, ◌++◌, length, get_or, drop, sym, refl, ap, ◌∙◌, arith, length-drop}
use Rattle.std.proofs.lemmas.List.{length_push}
use Rattle.change.specs.Change.{Change}
use Rattle.change.specs.Records.{table, written}
use Rattle.change.proofs.Chunks.{left_all, chunk_inside, chunk_more, chunk_none, chunk_row}
use Rattle.change.proofs.Rows.{length-rows}
use Rattle.run.specs.Run.{Run}
use Rattle.run.specs.Records.{run_of, run_in, run_row, run_width, runs_in, Ahead}
use Rattle.run.specs.Layout.{running_at, running_count, most_running}
use Rattle.run.specs.Numbers.{landed_in}
use Rattle.run.proofs.Rows.{run_in_row, length-run_row}
use Rattle.plan.specs.Plan.{among, still_running}
use Rattle.plan.specs.Numbers.{useful_now}
use Rattle.plan.proofs.Among.{useful_ahead}
use Rattle.change.proofs.Tables.{table_none}
use Rattle.plan.proofs.Passed.{keep_yes, keep_no, kept_held, stored_at}
use Rattle.plan.proofs.planner.Planner.keep_running.Goals as goal

pub loop-row-init : goal.loop-row-init
loop-row-init c =
    let rows = c.records_at-row-items.ensures in (
      left_all run_width (get_or c.args.self.queue.now running_count 0) running_at c.args.self.queue.now _ _ c.into_iter-row-iterator.ensures.into_iter_gives rows.size rows.rest,
      c.requires.room ∙ sym (table_none (run_row (landed_in c.args.self.queue.now)) (run_width * most_running)),
      c.requires.none,
      omega (arith, c.requires.none),
      omega arith,
    )

pub find_useful-requires : goal.find_useful-requires
find_useful-requires c =
    let xs : List ℕ = c.args.self.queue.now in
    let cs : List Change = landed_in xs in
    let us : List Run = useful_now xs in
    let n : ℕ = get_or xs running_count 0 in
    let k : ℕ = length c.loop-row.yielded in
    let at : ℕ = running_at + run_width * k in
    let s = c.args.self.ready.settled in
    let long : running_at + run_width * n ≤ length xs = omega (arith, s.long, s.few_running) in
    let it = c.loop-row.row-iterator in
    let next = c.next.new.self in
    let i = c.loop-row.invariant in
    let inside = chunk_inside run_width n running_at k xs (omega arith) long it i.0 c.in-Some.row.now next c.in-Some.ensures.steps in
    let is = chunk_row run_width n running_at k xs (omega arith) long it i.0 c.in-Some.row.now next c.in-Some.ensures.steps in
    let e = c.read_run.ensures in
    stored_at cs xs at run_width c.read_run.result (omega arith) (e.part ∙ ap (λ l. get_or l 0 0) is) (e.begins ∙ ap (λ l. get_or l 1 0) is) (s.running_fit k inside)

pub push-requires : goal.push-requires
push-requires c =
    let xs : List ℕ = c.args.self.queue.now in
    let cs : List Change = landed_in xs in
    let us : List Run = useful_now xs in
    let n : ℕ = get_or xs running_count 0 in
    let k : ℕ = length c.loop-row.yielded in
    let at : ℕ = running_at + run_width * k in
    let s = c.args.self.ready.settled in
    let long : running_at + run_width * n ≤ length xs = omega (arith, s.long, s.few_running) in
    let it = c.loop-row.row-iterator in
    let next = c.next.new.self in
    let i = c.loop-row.invariant in
    let inside = chunk_inside run_width n running_at k xs (omega arith) long it i.0 c.in-Some.row.now next c.in-Some.ensures.steps in
    let is = chunk_row run_width n running_at k xs (omega arith) long it i.0 c.in-Some.row.now next c.in-Some.ensures.steps in
    omega (arith, i.3, inside, s.few_running)

pub loop-row-preserved-in-Some-find_useful : goal.loop-row-preserved-in-Some-find_useful
loop-row-preserved-in-Some-find_useful c =
    let xs : List ℕ = c.args.self.queue.now in
    let cs : List Change = landed_in xs in
    let us : List Run = useful_now xs in
    let n : ℕ = get_or xs running_count 0 in
    let k : ℕ = length c.loop-row.yielded in
    let at : ℕ = running_at + run_width * k in
    let s = c.args.self.ready.settled in
    let long : running_at + run_width * n ≤ length xs = omega (arith, s.long, s.few_running) in
    let it = c.loop-row.row-iterator in
    let next = c.next.new.self in
    let i = c.loop-row.invariant in
    let inside = chunk_inside run_width n running_at k xs (omega arith) long it i.0 c.in-Some.row.now next c.in-Some.ensures.steps in
    let is = chunk_row run_width n running_at k xs (omega arith) long it i.0 c.in-Some.row.now next c.in-Some.ensures.steps in
    let x : Run = run_in cs (drop at xs) in
    let r : run_of cs c.read_run.result ≡ x = c.read_run.ensures.value cs ∙ (ap (run_in cs) is ∙ run_in_row cs (drop at xs) run_width (omega arith) (omega (arith, length-drop at xs, long, inside))) in
    let on : length (c.loop-row.yielded ++ c.in-Some.row ∷ []) ≡ k + 1 = length_push c.loop-row.yielded c.in-Some.row in
    let left = chunk_more run_width n running_at k xs (omega arith) long it i.0 c.in-Some.row.now next c.in-Some.ensures.steps c.loop-row.yielded c.in-Some.row refl in
    let so_far : ℕ → List Run = λ j. still_running us (runs_in cs j (drop running_at xs)) in
    let e = c.in-Some-find_useful.ensures in
    let a : among x us ≡ true = ap (λ q. among q us) (sym r) ∙ e.0 in
    let p : c.push.new.self.numbers ≡ written (run_width * c.loop-row.kept.count) (run_row cs x) c.loop-row.kept.numbers =
    c.push.ensures.numbers ∙ ap (λ l. written (run_width * c.loop-row.kept.count) l c.loop-row.kept.numbers) (e.1 ∙ ap (run_row cs) r) in
    let y = keep_yes (run_in cs) (run_row cs) run_width (run_width * most_running) (length-run_row cs) (λ (v : Run). among v us) xs running_at k x refl a c.loop-row.kept.numbers c.loop-row.kept.count i.1 i.2
    (omega (arith, i.3, inside, s.few_running)) in (
      left,
      p ∙ (y.0 ∙ ap (λ j. table (run_row cs) (run_width * most_running) (so_far j)) (sym on)),
      c.push.ensures.count ∙ (y.1 ∙ ap (λ j. length (so_far j)) (sym on)),
      omega (arith, c.push.ensures.count, i.3, on),
      omega (arith, on, inside),
    )

pub loop-row-preserved : goal.loop-row-preserved
loop-row-preserved c =
    let xs : List ℕ = c.args.self.queue.now in
    let cs : List Change = landed_in xs in
    let us : List Run = useful_now xs in
    let n : ℕ = get_or xs running_count 0 in
    let k : ℕ = length c.loop-row.yielded in
    let at : ℕ = running_at + run_width * k in
    let s = c.args.self.ready.settled in
    let long : running_at + run_width * n ≤ length xs = omega (arith, s.long, s.few_running) in
    let it = c.loop-row.row-iterator in
    let next = c.next.new.self in
    let i = c.loop-row.invariant in
    let inside = chunk_inside run_width n running_at k xs (omega arith) long it i.0 c.in-Some.row.now next c.in-Some.ensures.steps in
    let is = chunk_row run_width n running_at k xs (omega arith) long it i.0 c.in-Some.row.now next c.in-Some.ensures.steps in
    let x : Run = run_in cs (drop at xs) in
    let r : run_of cs c.read_run.result ≡ x = c.read_run.ensures.value cs ∙ (ap (run_in cs) is ∙ run_in_row cs (drop at xs) run_width (omega arith) (omega (arith, length-drop at xs, long, inside))) in
    let on : length (c.loop-row.yielded ++ c.in-Some.row ∷ []) ≡ k + 1 = length_push c.loop-row.yielded c.in-Some.row in
    let left = chunk_more run_width n running_at k xs (omega arith) long it i.0 c.in-Some.row.now next c.in-Some.ensures.steps c.loop-row.yielded c.in-Some.row refl in
    let so_far : ℕ → List Run = λ j. still_running us (runs_in cs j (drop running_at xs)) in
    let a : among x us ≡ false = ap (λ q. among q us) (sym r) ∙ c.in_default.ensures in
    let y = keep_no (run_in cs) (run_row cs) run_width (run_width * most_running) (length-run_row cs) (λ (v : Run). among v us) xs running_at k x refl a in
    let same : so_far k ≡ so_far (length (c.loop-row.yielded ++ c.in-Some.row ∷ [])) = sym y ∙ ap so_far (sym on) in (
      left,
      i.1 ∙ ap (table (run_row cs) (run_width * most_running)) same,
      i.2 ∙ ap length same,
      omega (arith, i.3, on),
      omega (arith, on, inside),
    )

pub returns : goal.returns
returns c =
    let xs : List ℕ = c.args.self.queue.now in
    let cs : List Change = landed_in xs in
    let us : List Run = useful_now xs in
    let n : ℕ = get_or xs running_count 0 in
    let k : ℕ = length c.loop-row.yielded in
    let s = c.args.self.ready.settled in
    let i = c.loop-row.invariant in
    let long : running_at + run_width * n ≤ length xs = omega (arith, s.long, s.few_running) in
    let end = chunk_none run_width n running_at k xs (omega arith) long c.loop-row.row-iterator i.0 c.in-None.ensures.steps.1.0 in
    let e : k ≡ n = omega (arith, end, i.4) in
    let so_far : ℕ → List Run = λ j. still_running us (runs_in cs j (drop running_at xs)) in
    kept_held (run_row cs) (Ahead cs) run_width most_running c.loop-row.kept.count (λ (v : Run). among v us) (λ v h. useful_ahead xs c.args.self.tally.now v c.args.self.ready h) c.loop-row.kept.numbers
    (runs_in cs n (drop running_at xs)) (omega (arith, length-rows (run_in cs) run_width n (drop running_at xs), s.few_running)) (i.1 ∙ ap (λ j. table (run_row cs) (run_width * most_running) (so_far j)) e) (i.2 ∙ ap (λ j. length (so_far j)) e)
