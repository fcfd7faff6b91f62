use Rattle.std.proofs.Common.{◌≡◌, ℕ, ◌+◌, ◌*◌, ◌≤◌, true, false, Bool, cond, eqb, List, [], ◌∷◌, ◌++◌, length, get_or, take, drop, sym, refl, ap, ◌∙◌, arith, length-drop}
use Rattle.std.proofs.lemmas.List.{length_push, get_or-take}
use Rattle.change.specs.Change.{Change}
use Rattle.change.specs.Records.{table, written}
use Rattle.change.proofs.Chunks.{left_all, chunk_inside, chunk_more, chunk_none, chunk_row}
use Rattle.change.proofs.Rows.{length-rows}
use Rattle.run.specs.Run.{Run, Verdict}
use Rattle.run.specs.Records.{run_of, run_in, run_row, row_of, run_width, verdict_in, verdict_row, verdict_row_of, verdict_width, verdicts_in, AheadVerdict}
use Rattle.run.specs.declared.run.Run as declared
use Rattle.run.specs.Layout.{verdicts_at, verdicts_count, most_verdicts}
use Rattle.run.specs.Numbers.{landed_in}
use Rattle.run.proofs.Rows.{run_in_row, length-verdict_row}
use Rattle.plan.specs.Plan.{among, still_known}
use Rattle.plan.specs.Numbers.{useful_now}
use Rattle.plan.proofs.Among.{useful_ahead}
use Rattle.change.proofs.Tables.{table_none}
use Rattle.plan.proofs.Passed.{keep_yes, keep_no, kept_held, stored_at}
use Rattle.plan.proofs.planner.Planner.keep_verdicts.Goals as goal

-- the row that is written is the verdict's
verdict_written : (cs : List Change) (xs v : List ℕ) (at : ℕ) (s u : declared.Run) (good : Bool) → v ≡ take verdict_width (drop at xs) → good ≡ eqb (get_or v run_width 0) 1 → row_of u ≡ run_row cs (run_of cs s) → run_of cs s ≡ run_in cs (drop at xs) →
    verdict_row_of u good ≡ verdict_row cs (verdict_in cs (drop at xs))
unfolding verdict_row
verdict_written cs xs v at s u good is g e r =
    let says = g ∙ ap (λ w. eqb w 1) (ap (λ l. get_or l run_width 0) is ∙ get_or-take verdict_width (drop at xs) run_width 0 (omega arith)) in
    λ i. (e ∙ ap (run_row cs) r) i ++ cond (says i) 1 0 ∷ []

pub loop-verdict-init : goal.loop-verdict-init
loop-verdict-init c =
    let rows = c.records_at-verdict-items.ensures in (
      left_all verdict_width (get_or c.args.self.queue.now verdicts_count 0) verdicts_at c.args.self.queue.now _ _ c.into_iter-verdict-iterator.ensures.into_iter_gives rows.size rows.rest,
      c.requires.room ∙ sym (table_none (verdict_row (landed_in c.args.self.queue.now)) (verdict_width * most_verdicts)),
      c.requires.none,
      omega (arith, c.requires.none),
      omega arith,
    )

pub find_useful-requires : goal.find_useful-requires
find_useful-requires c =
    let xs : List ℕ = c.args.self.queue.now in
    let cs : List Change = landed_in xs in
    let us : List Run = useful_now xs in
    let n : ℕ = get_or xs verdicts_count 0 in
    let k : ℕ = length c.loop-verdict.yielded in
    let at : ℕ = verdicts_at + verdict_width * k in
    let s = c.args.self.ready.settled in
    let long : verdicts_at + verdict_width * n ≤ length xs = omega (arith, s.long, s.few_verdicts) in
    let it = c.loop-verdict.verdict-iterator in
    let next = c.next.new.self in
    let i = c.loop-verdict.invariant in
    let inside = chunk_inside verdict_width n verdicts_at k xs (omega arith) long it i.0 c.in-Some.verdict.now next c.in-Some.ensures.steps in
    let is = chunk_row verdict_width n verdicts_at k xs (omega arith) long it i.0 c.in-Some.verdict.now next c.in-Some.ensures.steps in
    let e = c.read_run.ensures in
    stored_at cs xs at verdict_width c.read_run.result (omega arith) (e.part ∙ ap (λ l. get_or l 0 0) is) (e.begins ∙ ap (λ l. get_or l 1 0) is) (s.verdicts_fit k inside)

pub push-requires : goal.push-requires
push-requires c =
    let xs : List ℕ = c.args.self.queue.now in
    let cs : List Change = landed_in xs in
    let us : List Run = useful_now xs in
    let n : ℕ = get_or xs verdicts_count 0 in
    let k : ℕ = length c.loop-verdict.yielded in
    let at : ℕ = verdicts_at + verdict_width * k in
    let s = c.args.self.ready.settled in
    let long : verdicts_at + verdict_width * n ≤ length xs = omega (arith, s.long, s.few_verdicts) in
    let it = c.loop-verdict.verdict-iterator in
    let next = c.next.new.self in
    let i = c.loop-verdict.invariant in
    let inside = chunk_inside verdict_width n verdicts_at k xs (omega arith) long it i.0 c.in-Some.verdict.now next c.in-Some.ensures.steps in
    let is = chunk_row verdict_width n verdicts_at k xs (omega arith) long it i.0 c.in-Some.verdict.now next c.in-Some.ensures.steps in
    omega (arith, i.3, inside, s.few_verdicts)

pub loop-verdict-preserved-in-Some-find_useful : goal.loop-verdict-preserved-in-Some-find_useful
loop-verdict-preserved-in-Some-find_useful c =
    let xs : List ℕ = c.args.self.queue.now in
    let cs : List Change = landed_in xs in
    let us : List Run = useful_now xs in
    let n : ℕ = get_or xs verdicts_count 0 in
    let k : ℕ = length c.loop-verdict.yielded in
    let at : ℕ = verdicts_at + verdict_width * k in
    let s = c.args.self.ready.settled in
    let long : verdicts_at + verdict_width * n ≤ length xs = omega (arith, s.long, s.few_verdicts) in
    let it = c.loop-verdict.verdict-iterator in
    let next = c.next.new.self in
    let i = c.loop-verdict.invariant in
    let inside = chunk_inside verdict_width n verdicts_at k xs (omega arith) long it i.0 c.in-Some.verdict.now next c.in-Some.ensures.steps in
    let is = chunk_row verdict_width n verdicts_at k xs (omega arith) long it i.0 c.in-Some.verdict.now next c.in-Some.ensures.steps in
    let x : Verdict = verdict_in cs (drop at xs) in
    let r : run_of cs c.read_run.result ≡ x.run = c.read_run.ensures.value cs ∙ (ap (run_in cs) is ∙ run_in_row cs (drop at xs) verdict_width (omega arith) (omega (arith, length-drop at xs, long, inside))) in
    let on : length (c.loop-verdict.yielded ++ c.in-Some.verdict ∷ []) ≡ k + 1 = length_push c.loop-verdict.yielded c.in-Some.verdict in
    let left = chunk_more verdict_width n verdicts_at k xs (omega arith) long it i.0 c.in-Some.verdict.now next c.in-Some.ensures.steps c.loop-verdict.yielded c.in-Some.verdict refl in
    let so_far : ℕ → List Verdict = λ j. still_known us (verdicts_in cs j (drop verdicts_at xs)) in
    let e = c.in-Some-find_useful.ensures in
    let a : among x.run us ≡ true = ap (λ q. among q us) (sym r) ∙ e.0 in
    let p : c.push.new.self.numbers ≡ written (verdict_width * c.loop-verdict.kept.count) (verdict_row cs x) c.loop-verdict.kept.numbers =
    c.push.ensures.numbers ∙ ap (λ l. written (verdict_width * c.loop-verdict.kept.count) l c.loop-verdict.kept.numbers) (verdict_written cs xs c.in-Some.verdict.now at c.read_run.result c.in-Some-find_useful.run' c.says_good-good.result is c.says_good-good.ensures e.1 r) in
    let y = keep_yes (verdict_in cs) (verdict_row cs) verdict_width (verdict_width * most_verdicts) (length-verdict_row cs) (λ (v : Verdict). among v.run us) xs verdicts_at k x refl a c.loop-verdict.kept.numbers c.loop-verdict.kept.count i.1 i.2
    (omega (arith, i.3, inside, s.few_verdicts)) in (
      left,
      p ∙ (y.0 ∙ ap (λ j. table (verdict_row cs) (verdict_width * most_verdicts) (so_far j)) (sym on)),
      c.push.ensures.count ∙ (y.1 ∙ ap (λ j. length (so_far j)) (sym on)),
      omega (arith, c.push.ensures.count, i.3, on),
      omega (arith, on, inside),
    )

pub loop-verdict-preserved : goal.loop-verdict-preserved
loop-verdict-preserved c =
    let xs : List ℕ = c.args.self.queue.now in
    let cs : List Change = landed_in xs in
    let us : List Run = useful_now xs in
    let n : ℕ = get_or xs verdicts_count 0 in
    let k : ℕ = length c.loop-verdict.yielded in
    let at : ℕ = verdicts_at + verdict_width * k in
    let s = c.args.self.ready.settled in
    let long : verdicts_at + verdict_width * n ≤ length xs = omega (arith, s.long, s.few_verdicts) in
    let it = c.loop-verdict.verdict-iterator in
    let next = c.next.new.self in
    let i = c.loop-verdict.invariant in
    let inside = chunk_inside verdict_width n verdicts_at k xs (omega arith) long it i.0 c.in-Some.verdict.now next c.in-Some.ensures.steps in
    let is = chunk_row verdict_width n verdicts_at k xs (omega arith) long it i.0 c.in-Some.verdict.now next c.in-Some.ensures.steps in
    let x : Verdict = verdict_in cs (drop at xs) in
    let r : run_of cs c.read_run.result ≡ x.run = c.read_run.ensures.value cs ∙ (ap (run_in cs) is ∙ run_in_row cs (drop at xs) verdict_width (omega arith) (omega (arith, length-drop at xs, long, inside))) in
    let on : length (c.loop-verdict.yielded ++ c.in-Some.verdict ∷ []) ≡ k + 1 = length_push c.loop-verdict.yielded c.in-Some.verdict in
    let left = chunk_more verdict_width n verdicts_at k xs (omega arith) long it i.0 c.in-Some.verdict.now next c.in-Some.ensures.steps c.loop-verdict.yielded c.in-Some.verdict refl in
    let so_far : ℕ → List Verdict = λ j. still_known us (verdicts_in cs j (drop verdicts_at xs)) in
    let a : among x.run us ≡ false = ap (λ q. among q us) (sym r) ∙ c.in_default.ensures in
    let y = keep_no (verdict_in cs) (verdict_row cs) verdict_width (verdict_width * most_verdicts) (length-verdict_row cs) (λ (v : Verdict). among v.run us) xs verdicts_at k x refl a in
    let same : so_far k ≡ so_far (length (c.loop-verdict.yielded ++ c.in-Some.verdict ∷ [])) = sym y ∙ ap so_far (sym on) in (
      left,
      i.1 ∙ ap (table (verdict_row cs) (verdict_width * most_verdicts)) same,
      i.2 ∙ ap length same,
      omega (arith, i.3, on),
      omega (arith, on, inside),
    )

pub returns : goal.returns
returns c =
    let xs : List ℕ = c.args.self.queue.now in
    let cs : List Change = landed_in xs in
    let us : List Run = useful_now xs in
    let n : ℕ = get_or xs verdicts_count 0 in
    let k : ℕ = length c.loop-verdict.yielded in
    let s = c.args.self.ready.settled in
    let i = c.loop-verdict.invariant in
    let long : verdicts_at + verdict_width * n ≤ length xs = omega (arith, s.long, s.few_verdicts) in
    let end = chunk_none verdict_width n verdicts_at k xs (omega arith) long c.loop-verdict.verdict-iterator i.0 c.in-None.ensures.steps.1.0 in
    let e : k ≡ n = omega (arith, end, i.4) in
    let so_far : ℕ → List Verdict = λ j. still_known us (verdicts_in cs j (drop verdicts_at xs)) in
    kept_held (verdict_row cs) (AheadVerdict cs) verdict_width most_verdicts c.loop-verdict.kept.count (λ (v : Verdict). among v.run us) (λ v h. useful_ahead xs c.args.self.tally.now v.run c.args.self.ready h) c.loop-verdict.kept.numbers
    (verdicts_in cs n (drop verdicts_at xs)) (omega (arith, length-rows (verdict_in cs) verdict_width n (drop verdicts_at xs), s.few_verdicts)) (i.1 ∙ ap (λ j. table (verdict_row cs) (verdict_width * most_verdicts) (so_far j)) e) (i.2 ∙ ap (λ j. length (so_far j)) e)
