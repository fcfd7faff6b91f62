-- What is written down of a day, and the words in which the promises are stated. Assumes nothing: these are definitions.
use Rattle.std.specs.Prelude.{◌≡◌, ℕ, suc, ◌+◌, ◌-◌, ◌*◌, ◌≤◌, Bool, true, false, cond, not, ◌&&◌, ◌||◌, List, [], ◌∷◌, ◌++◌, map, length, slice_index_or}
use Rattle.std.specs.List.{AllByRecursion}
use Rattle.change.specs.Change.{most_parts, Change, line, numbered, dropped}
use Rattle.run.specs.Run.{Run, Verdict, same_run}
use Rattle.run.specs.State.{Config, Queue, empty}
use Rattle.serial.specs.Serial.{Bench}
use Rattle.plan.specs.Plan.{among, kept, useful_in}
use Rattle.queue.specs.Queue.{Event, submit, withdraw, report, accepts, no_run, step, after}

-- what a witness writes down of the events that are taken
pub record Log : Type 0 where
  pub arrivals : List Change  -- the changes submitted and not withdrawn, in arrival order
  pub withdrawn : ℕ  -- how many were withdrawn
  pub reports : List Verdict  -- the runs reported, each with what was said of it
  pub requests : List Run  -- the runs requested

-- nothing written yet
abbrev pub blank : Log
blank = record { arrivals = []; withdrawn = 0; reports = []; requests = [] }

-- a submitted change arrives last; a withdrawn one never arrived
abbrev pub arrivals_with : Event → List Change → List Change
arrivals_with (submit c) cs = cs ++ c ∷ []
arrivals_with (withdraw n) cs = dropped n cs
arrivals_with (report i g) cs = cs

-- a withdrawal is counted
abbrev pub withdrawn_by : Event → ℕ
withdrawn_by (submit c) = 0
withdrawn_by (withdraw n) = 1
withdrawn_by (report i g) = 0

-- a report is of the run at its place
abbrev pub reported_by : Queue → Event → List Verdict
reported_by q (submit c) = []
reported_by q (withdraw n) = []
reported_by q (report i g) = record { run = slice_index_or q.running i no_run; good = g } ∷ []

-- the runs that run now and did not before
abbrev pub new_runs : List Run → List Run → List Run
new_runs before now = kept (λ r. not (among r before)) now

-- an event that is taken is written down
abbrev pub with_event : Config → Queue → Event → Log → Log
with_event t q e g = record {
  arrivals = arrivals_with e g.arrivals;
  withdrawn = withdrawn_by e + g.withdrawn;
  reports = g.reports ++ reported_by q e;
  requests = g.requests ++ new_runs q.running (step t q e).running;
}

-- events that are not taken are not written down
unfoldable pub log : Config → Queue → List Event → Log → Log
log t q [] g = g
log t q (e ∷ es) g = log t (after t q e) es (cond (accepts t q e) (with_event t q e g) g)

-- the log of a day that begins with an empty queue
abbrev pub logged : Config → List Event → Log
logged t es = log t empty es blank

-- each verdict is what the bench says of its run
abbrev pub Truthful : Bench → List Verdict → Type 0
Truthful bench vs = AllByRecursion (λ v. v.good ≡ bench v.run.part v.run.changes) vs

-- one of the verdicts says good of the run
abbrev pub said_good : Run → List Verdict → Bool
said_good r [] = false
said_good r (v ∷ vs) = same_run r v.run && v.good || said_good r vs

-- of these changes, those that do not wait
abbrev pub not_waiting : List Change → List Change → List Change
not_waiting [] ws = []
not_waiting (c ∷ cs) ws = cond (numbered c.number ws) (not_waiting cs ws) (c ∷ not_waiting cs ws)

-- on every part the same changes landed in the same order, and in all the same numbers landed and were rejected
abbrev pub SameDecisions : List Change → List Change → List Change → List Change → Type 0
SameDecisions landed rejected landed' rejected' =
    ((p : ℕ) → line p landed ≡ line p landed') × ((n : ℕ) → numbered n landed ≡ numbered n landed') × ((n : ℕ) → numbered n rejected ≡ numbered n rejected')

-- the runs that are known or running
abbrev pub held : Queue → List Run
held q = map (λ v. v.run) q.verdicts ++ q.running

-- no run stands in the list twice
abbrev pub Different : List Run → Type 0
Different [] = Unit {0}
Different (r ∷ rs) = (among r rs ≡ false) × Different rs

-- how many parts these changes touch, counted for each change
abbrev pub parts_in : List Change → ℕ
parts_in [] = 0
parts_in (c ∷ cs) = length c.parts + parts_in cs

-- the run is its part's whole landed line, and then at most so many changes
pub record AheadBy (landed : List Change) (most : ℕ) (r : Run) : Type 0 where
  pub following : List ℕ
  pub is : r.changes ≡ line r.part landed ++ following
  pub few : length following ≤ most

-- how far a queue is from having decided all: those that wait count most, then the useful runs of which nothing is known
abbrev pub measure : Config → Queue → ℕ
measure t q = length q.waiting * suc (most_parts * t.depth) + (length (useful_in t q) - length q.verdicts)

-- the event submits no change
abbrev pub NotSubmit : Event → Type 0
NotSubmit (submit c) = ⊥
NotSubmit (withdraw n) = Unit {0}
NotSubmit (report i g) = Unit {0}

-- each of the events is taken in its turn, and none submits a change
abbrev pub AllTaken : Config → Queue → List Event → Type 0
AllTaken t q [] = Unit {0}
AllTaken t q (e ∷ es) = NotSubmit e × (accepts t q e ≡ true) × AllTaken t (after t q e) es
