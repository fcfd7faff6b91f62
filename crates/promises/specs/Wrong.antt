-- Six wrong queues, each the queue with one rule changed, and a day for each on which it breaks a promise. Assumes nothing: these are definitions.
use Rattle.std.specs.Prelude.{◌≡◌, ℕ, zero, suc, ◌-◌, Bool, true, false, cond, not, ◌&&◌, ◌||◌, List, [], ◌∷◌, ◌++◌, length, drop, ◌==◌, nat_lt}
use Rattle.std.specs.List.{flat_map}
use Rattle.decide.specs.declared.decision.Decision.{Decision}
use Rattle.decide.specs.declared.decision.Decision.TheVariants.{Wait, Land, Reject}
use Rattle.change.specs.Change.{Change, has, line, numbered}
use Rattle.run.specs.Run.{Run, Verdict, same_list, runs_on}
use Rattle.run.specs.State.{Config, Queue, empty}
use Rattle.serial.specs.Serial.{Bench, serial_landed}
use Rattle.decide.specs.Decide.{any_bad, all_good, decision_by, shares_any, decision, by_decision, Passed}
use Rattle.plan.specs.Plan.{useful, among, kept, still_running, request, useful_in, with_runs}
use Rattle.queue.specs.Queue.{Event, submit, report, accepts, recorded, with_passed, step}
use Rattle.queue.specs.WorkedDay.{change, run}
use Rattle.promises.specs.Day.{arrivals_with, reported_by, Truthful, said_good, not_waiting, held}

-- the rules that the wrong queues change
pub record Rules : Type 0 where
  pub decides : List Verdict → List Change → List Change → Change → Decision  -- by verdicts, those that wait before it and those that landed
  pub looks : ℕ → List Change → List Change → List Run  -- the useful runs
  pub keeps : List Run → Run → Bool  -- whether a verdict on the run is kept, by the useful runs
  pub stays : List Change → List Change → Run → Bool  -- whether the run stays on its bench, by landed and waiting

-- the queue's own rules
abbrev pub own : Rules
own = record { decides = decision; looks = useful; keeps = λ us r. among r us; stays = λ landed waiting r. true }

unfoldable pub pass_under : Rules → List Verdict → List Change → List Change → List Change → List Change → Passed
pass_under w vs held landed rejected [] = record { landed = landed; waiting = held; rejected = rejected }
pass_under w vs held landed rejected (c ∷ cs) =
    by_decision (w.decides vs held landed c) (pass_under w vs (held ++ c ∷ []) landed rejected cs) (pass_under w vs held (landed ++ c ∷ []) rejected cs)
    (pass_under w vs held landed (rejected ++ c ∷ []) cs)

unfoldable pub decided_under : Rules → Queue → Queue
decided_under w q = with_passed q (pass_under w q.verdicts [] q.landed q.rejected q.waiting)

unfoldable pub planned_under : Rules → Config → Queue → Queue
planned_under w t q =
    let us = w.looks t.depth q.landed q.waiting in
    let vs = kept (λ v. w.keeps us v.run) q.verdicts in
    let still = still_running us q.running in
    with_runs q vs still (kept (w.stays q.landed q.waiting) (request t.benches vs still us))

unfoldable pub step_under : Rules → Config → Queue → Event → Queue
step_under w t q e = planned_under w t (decided_under w (recorded q e))

-- with its own rules it is the queue
abbrev pub OwnRules : Type 0
OwnRules = (t : Config) (q : Queue) (e : Event) → step_under own t q e ≡ step t q e

-- a day of a wrong queue, with its arrivals and the reports taken
pub record Played : Type 0 where
  pub queue : Queue
  pub arrivals : List Change
  pub reports : List Verdict

abbrev pub with_taken : Rules → Config → Event → Played → Played
with_taken w t e d = record {
  queue = step_under w t d.queue e;
  arrivals = arrivals_with e d.arrivals;
  reports = d.reports ++ reported_by d.queue e;
}

unfoldable pub played_from : Rules → Config → Played → List Event → Played
played_from w t d [] = d
played_from w t d (e ∷ es) = played_from w t (cond (accepts t d.queue e) (with_taken w t e d) d) es

abbrev pub played : Rules → Config → List Event → Played
played w t es = played_from w t (record { queue = empty; arrivals = []; reports = [] }) es

-- a part's line that no report said good of
abbrev pub LandsUntested : Rules → Config → List Event → ℕ → List ℕ → Type 0
LandsUntested w t es p ns =
    let d = played w t es in
    (line p d.queue.landed ≡ ns) × (said_good (run p ns) d.reports ≡ false)

-- with reports that are what the bench says, a change is rejected that serial testing lands
abbrev pub RejectsGood : Rules → Config → List Event → Bench → ℕ → Type 0
RejectsGood w t es bench n =
    let d = played w t es in
    Truthful bench d.reports
    × (numbered n d.queue.rejected ≡ true)
    × (numbered n (serial_landed bench [] (not_waiting d.arrivals d.queue.waiting)) ≡ true)

-- a bench is free, and a useful run is neither running nor known
abbrev pub LeavesIdle : Rules → Config → List Event → Run → Type 0
LeavesIdle w t es r =
    let q = (played w t es).queue in
    (nat_lt (length q.running) t.benches ≡ true) × (among r (useful_in t q) ≡ true) × (among r (held q) ≡ false)

abbrev pub config_of : ℕ → ℕ → Config
config_of b k = record { benches = b; depth = k }

-- 1 and 2. A verdict counts for every run of its part that ends in the same changes.
abbrev pub last_of : ℕ → List ℕ → List ℕ
last_of k ns = drop (length ns - k) ns

abbrev pub same_end : ℕ → Run → Run → Bool
same_end k r s = r.part == s.part && same_list (last_of k r.changes) (last_of k s.changes)

-- the first verdict that counts for the run, as a verdict on it
abbrev pub counting_for : ℕ → List Verdict → Run → List Verdict
counting_for k [] r = []
counting_for k (v ∷ vs) r = cond (same_end k r v.run) (record { run = r; good = v.good } ∷ []) (counting_for k vs r)

abbrev pub decides_by_end : ℕ → List Verdict → List Change → List Change → Change → Decision
decides_by_end k vs held landed c =
    let rs = runs_on landed c.number c.parts in
    cond (shares_any c held) Wait (decision_by Land rs (flat_map (counting_for k vs) rs))

abbrev pub ends_like_one : ℕ → List Run → Run → Bool
ends_like_one k [] r = false
ends_like_one k (u ∷ us) r = same_end k u r || ends_like_one k us r

abbrev pub by_end : ℕ → Rules
by_end k = record { decides = decides_by_end k; looks = useful; keeps = ends_like_one k; stays = own.stays }

-- 3. A change lands as soon as its useful runs are all good, though those before it wait.
abbrev pub eager_decision : List Verdict → List Change → List Change → Change → Decision
eager_decision vs held landed c = cond (all_good (runs_on (landed ++ held) c.number c.parts) vs) Land (decision vs held landed c)

abbrev pub eager : Rules
eager = record { decides = eager_decision; looks = useful; keeps = own.keeps; stays = own.stays }

-- 4. A change is rejected on a bad run that had a waiting change before it.
abbrev pub harsh_decision : List Verdict → List Change → List Change → Change → Decision
harsh_decision vs held landed c = cond (any_bad (runs_on (landed ++ held) c.number c.parts) vs) Reject (decision vs held landed c)

abbrev pub harsh : Rules
harsh = record { decides = harsh_decision; looks = useful; keeps = own.keeps; stays = own.stays }

-- 5. A change is run on top of what has landed, and lands on these runs, though one before it that shares a part still waits.
abbrev pub looks_past : ℕ → List Change → List Change → List Run
looks_past zero landed ws = []
looks_past (suc depth) landed [] = []
looks_past (suc depth) landed (c ∷ cs) = runs_on landed c.number c.parts ++ looks_past depth landed cs

abbrev pub past_others : Rules
past_others = record {
  decides = λ vs held landed c. decision_by Land (runs_on landed c.number c.parts) vs;
  looks = looks_past;
  keeps = own.keeps;
  stays = own.stays;
}

-- 6. A useful run is cancelled because its change is not the first that waits.
abbrev pub first_only : Rules
first_only = record { decides = decision; looks = useful; keeps = own.keeps; stays = λ landed waiting r. among r (useful 1 landed waiting) }

-- change 1 touches parts 0 and 1, changes 2 and 3 touch part 1; with four benches 0:1, 1:1, 1:1+2 and 1:1+2+3 run, in this order
abbrev pub three_submitted : List Event
three_submitted = submit (change 1 (0 ∷ 1 ∷ [])) ∷ submit (change 2 (1 ∷ [])) ∷ submit (change 3 (1 ∷ [])) ∷ []

-- 1. With the run 1:1+2 good and 0:1 bad, change 1 is rejected, and change 2 lands as 1:2, which never ran.
abbrev pub ByChangeAlone : Type 0
ByChangeAlone = LandsUntested (by_end 1) (config_of 4 3) (three_submitted ++ report 2 true ∷ report 0 false ∷ []) 1 (2 ∷ [])

-- 2. With the run 1:1+2+3 good, 0:1 bad and then 1:2 good, change 3 lands as 1:2+3, which never ran.
abbrev pub ByLastTwo : Type 0
ByLastTwo = LandsUntested (by_end 2) (config_of 4 3) (three_submitted ++ report 3 true ∷ report 0 false ∷ report 0 true ∷ []) 1 (2 ∷ 3 ∷ [])

-- 3. With the run 1:1+2 good, change 2 lands before change 1 as 1:2, which never ran.
abbrev pub BeforeOthers : Type 0
BeforeOthers = LandsUntested eager (config_of 4 3) (three_submitted ++ report 2 true ∷ []) 1 (2 ∷ [])

-- 4. Changes 1 and 2 touch part 0, and the part is bad whenever 1 is in it. The run 0:1+2 is reported bad, and change 2 is rejected.
abbrev pub bad_with_one : Bench
bad_with_one p ns = not (has ns 1)

abbrev pub OnOthersFault : Type 0
OnOthersFault = RejectsGood harsh (config_of 2 2) (submit (change 1 (0 ∷ [])) ∷ submit (change 2 (0 ∷ [])) ∷ report 1 false ∷ []) bad_with_one 2

-- 5. Changes 1 and 2 touch part 0, and only 2 before 1 is bad. The run 0:2 is good, so 2 lands; then 0:2+1 is bad, and change 1 is rejected.
abbrev pub bad_out_of_order : Bench
bad_out_of_order p ns = not (same_list ns (2 ∷ 1 ∷ []))

abbrev pub PastOneThatWaits : Type 0
PastOneThatWaits = RejectsGood past_others (config_of 2 2) (submit (change 1 (0 ∷ [])) ∷ submit (change 2 (0 ∷ [])) ∷ report 1 true ∷ report 0 false ∷ []) bad_out_of_order 1

-- 6. Changes 1 and 2 touch a part each, there are two benches, and 1:2 does not run.
abbrev pub FirstAlone : Type 0
FirstAlone = LeavesIdle first_only (config_of 2 2) (submit (change 1 (0 ∷ [])) ∷ submit (change 2 (1 ∷ [])) ∷ []) (run 1 (2 ∷ []))

abbrev pub WrongQueues : Type 0
WrongQueues = OwnRules × ByChangeAlone × ByLastTwo × BeforeOthers × OnOthersFault × PastOneThatWaits × FirstAlone
