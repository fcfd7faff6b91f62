-- What planning reads from the lent numbers, and what it writes there. Assumes nothing: these are definitions.
use Rattle.std.specs.Prelude.{◌≡◌, ℕ, ◌≤◌, true, false, List, [], ◌∷◌, ◌++◌, drop, Some, None, Option, slice_index, slice_index_or}
use Rattle.change.specs.Change.{Change}
use Rattle.change.specs.Records.{changes_in, Tallies}
use Rattle.run.specs.Run.{Run, Verdict, run_on, runs_on}
use Rattle.run.specs.Records.{runs_in, verdicts_in, row_of, run_row}
use Rattle.run.specs.declared.run.Run as declared
use Rattle.run.specs.Layout.{most_benches, most_depth, benches_at, depth_at, landed_count, waiting_count, rejected_count, verdicts_count, running_count, waiting_at, verdicts_at, running_at}
use Rattle.run.specs.State.{Queue}
use Rattle.run.specs.Numbers.{Sections, sections, config_in, decode, landed_in, waiting_in, Settled}
use Rattle.plan.specs.Plan.{among, useful, still_known, still_running, request, planned}
use Rattle.plan.specs.Rows.{HoldsRuns, HoldsVerdicts}

-- numbers that a step works on, their config in bounds, with the tally of what has landed
pub record Ready (xs ts : List ℕ) : Type 0 where
  pub settled : Settled xs
  pub benches : slice_index_or xs benches_at 0 ≤ most_benches
  pub depth : slice_index_or xs depth_at 0 ≤ most_depth
  pub tally : Tallies ts (landed_in xs)

-- the first n of those that wait
abbrev pub first_waiting : ℕ → List ℕ → List Change
first_waiting n xs = changes_in n (drop waiting_at xs)

-- the run of the part with all that has landed, the first n that wait, and then the change of this number
abbrev pub run_behind : List ℕ → ℕ → ℕ → ℕ → Run
run_behind xs n number part = run_on (landed_in xs ++ first_waiting n xs) number part

-- a change's runs on top of all that has landed and the first n that wait
abbrev pub runs_behind : List ℕ → ℕ → Change → List Run
runs_behind xs n c = runs_on (landed_in xs ++ first_waiting n xs) c.number c.parts

-- the useful runs, and what stands of verdicts and of running runs
abbrev pub useful_now : List ℕ → List Run
useful_now xs = useful (slice_index xs depth_at) (landed_in xs) (waiting_in xs)

abbrev pub verdicts_now : List ℕ → List Verdict
verdicts_now xs = verdicts_in (landed_in xs) (slice_index xs verdicts_count) (drop verdicts_at xs)

abbrev pub running_now : List ℕ → List Run
running_now xs = runs_in (landed_in xs) (slice_index xs running_count) (drop running_at xs)

-- a stored run is useful, and written anew its row is this one; or it is not
abbrev pub Found : List ℕ → Run → Option declared.Run → Type 0
Found xs r (Some u) = (among r (useful_now xs) ≡ true) × (row_of u ≡ run_row (landed_in xs) r)
Found xs r None = among r (useful_now xs) ≡ false

-- a section holds the n verdicts, the n runs, that it says on top of what has landed
abbrev pub StoredVerdicts : List ℕ → ℕ → List ℕ → Type 0
StoredVerdicts xs n section = HoldsVerdicts (landed_in xs) n section (verdicts_in (landed_in xs) n section)

abbrev pub StoredRuns : List ℕ → ℕ → List ℕ → Type 0
StoredRuns xs n section = HoldsRuns (landed_in xs) n section (runs_in (landed_in xs) n section)

-- a section holds the n verdicts, the n running runs, that are still useful
abbrev pub KeptVerdicts : List ℕ → ℕ → List ℕ → Type 0
KeptVerdicts xs n section = HoldsVerdicts (landed_in xs) n section (still_known (useful_now xs) (verdicts_now xs))

abbrev pub KeptRuns : List ℕ → ℕ → List ℕ → Type 0
KeptRuns xs n section = HoldsRuns (landed_in xs) n section (still_running (useful_now xs) (running_now xs))

-- what runs once these runs were requested on top of the n that run, where so many verdicts are held
abbrev pub requested_of : List ℕ → ℕ → List ℕ → ℕ → List ℕ → List Run → List Run
requested_of xs known verdicts n running us = request (slice_index xs benches_at) (verdicts_in (landed_in xs) known verdicts) (runs_in (landed_in xs) n running) us

-- a section holds the m runs that run then
abbrev pub Requested : List ℕ → ℕ → List ℕ → ℕ → List ℕ → List Run → ℕ → List ℕ → Type 0
Requested xs known verdicts n running us m section = HoldsRuns (landed_in xs) m section (requested_of xs known verdicts n running us)

-- the state that the numbers say, planned
abbrev pub planned_in : List ℕ → Queue
planned_in xs = planned (config_in xs) (decode xs)

-- the sections with verdicts and running runs replaced, and their counters
abbrev pub with_running : List ℕ → List ℕ → ℕ → List ℕ → ℕ → ℕ → Sections
with_running xs verdicts known running n requested = record {
  counters = slice_index xs benches_at ∷ slice_index xs depth_at ∷ slice_index xs landed_count ∷ slice_index xs waiting_count ∷ slice_index xs rejected_count ∷ known ∷ n ∷ requested ∷ [];
  landed = (sections xs).landed;
  waiting = (sections xs).waiting;
  rejected = (sections xs).rejected;
  verdicts = verdicts;
  running = running;
  behind = (sections xs).behind;
}
