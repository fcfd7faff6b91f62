-- Runs and verdicts as records of the lent queue. Assumes nothing: these are definitions.
use Rattle.std.proofs.Common.{arith}
use Rattle.std.specs.Prelude.{◌≡◌, ℕ, ◌-◌, ◌<◌, ◌≤◌, min, Bool, cond, List, [], ◌∷◌, ◌++◌, length, take, drop, ◌==◌, slice_index}
use Rattle.change.specs.Change.{Change, line}
use Rattle.change.specs.Records.{fixed, rows}
use Rattle.run.specs.Limits.{most_following}
use Rattle.run.specs.Run.{Run, Verdict}
use Rattle.run.specs.declared.run.Run as declared

-- a run's record: its part, how many of the part's landed changes it begins with, how many follow, and room for these
abbrev pub run_width : ℕ
run_width = 19

pub some_in_run : 0 < run_width
some_in_run = omega arith

-- a verdict's record: a run's, and then 1 for good
abbrev pub verdict_width : ℕ
verdict_width = 20

pub some_in_verdict : 0 < verdict_width
some_in_verdict = omega arith

-- the run that a record says, on top of what has landed
abbrev pub run_in : List Change → List ℕ → Run
run_in landed xs = record {
  part = slice_index xs 0;
  changes = take (slice_index xs 1) (line (slice_index xs 0) landed) ++ take (min (slice_index xs 2) most_following) (drop 3 xs);
}

-- the run that the code's struct says
abbrev pub run_of : List Change → declared.Run → Run
run_of landed r = record { part = r.part; changes = take r.begins (line r.part landed) ++ take r.follows r.numbers }

-- the record of the code's struct: what it begins with is a count, and 0 stands behind the numbers that follow
abbrev pub row_of : declared.Run → List ℕ
row_of r = r.part ∷ r.begins ∷ r.follows ∷ fixed most_following (take r.follows r.numbers)

-- the record of a verdict on it
abbrev pub verdict_row_of : declared.Run → Bool → List ℕ
verdict_row_of r good = row_of r ++ cond good 1 0 ∷ []

abbrev pub verdict_in : List Change → List ℕ → Verdict
verdict_in landed xs = record { run = run_in landed xs; good = (slice_index xs run_width == 1) }

abbrev pub runs_in : List Change → ℕ → List ℕ → List Run
runs_in landed n xs = rows (run_in landed) run_width n xs

abbrev pub verdicts_in : List Change → ℕ → List ℕ → List Verdict
verdicts_in landed n xs = rows (verdict_in landed) verdict_width n xs

-- the record of a run: it begins with all landed changes of its part
unfoldable pub run_row : List Change → Run → List ℕ
run_row landed r =
    r.part ∷ length (line r.part landed) ∷ (length r.changes - length (line r.part landed))
    ∷ fixed most_following (drop (length (line r.part landed)) r.changes)

unfoldable pub verdict_row : List Change → Verdict → List ℕ
verdict_row landed v = run_row landed v.run ++ cond v.good 1 0 ∷ []

-- a run that begins with all landed changes of its part, and goes on with few enough for its record
pub record Ahead (landed : List Change) (r : Run) : Type 0 where
  pub following : List ℕ
  pub is : r.changes ≡ line r.part landed ++ following
  pub few : length following ≤ most_following

abbrev pub AheadVerdict : List Change → Verdict → Type 0
AheadVerdict landed v = Ahead landed v.run
