-- Runs as rows of numbers, and sections that hold a row for each. Assumes nothing: these are definitions.
use Rattle.std.specs.Prelude.{◌≡◌, ℕ, ◌*◌, ◌≤◌, Bool, false, not, ◌&&◌, ◌||◌, List, [], ◌∷◌, length, take, nat_lt}
use Rattle.std.specs.List.{AllByRecursion}
use Rattle.change.specs.Change.{Change}
use Rattle.change.specs.Records.{rows, table}
use Rattle.run.specs.Run.{Run, Verdict, same_list}
use Rattle.run.specs.Records.{run_width, verdict_width, run_row, verdict_row, Ahead, AheadVerdict}
use Rattle.run.specs.Layout.{most_verdicts, most_running}

-- one of these rows is the row
abbrev pub has_row : List ℕ → List (List ℕ) → Bool
has_row row [] = false
has_row row (x ∷ xs) = same_list row x || has_row row xs

-- of n records of width w, each one's run
abbrev pub run_rows : ℕ → ℕ → List ℕ → List (List ℕ)
run_rows w n xs = rows (take run_width) w n xs

-- a section of `most` records of width w holds these: a row for each, 0 behind, and each has a property
pub record Holds {A : Type 0} (row : A → List ℕ) (P : A → Type 0) (w most n : ℕ) (xs : List ℕ) (ys : List A) : Type 0 where
  pub is : xs ≡ table row (w * most) ys
  pub all : AllByRecursion P ys
  pub count : n ≡ length ys
  pub few : n ≤ most

abbrev pub HoldsRuns : List Change → ℕ → List ℕ → List Run → Type 0
HoldsRuns landed n xs rs = Holds (run_row landed) (Ahead landed) run_width most_running n xs rs

abbrev pub HoldsVerdicts : List Change → ℕ → List ℕ → List Verdict → Type 0
HoldsVerdicts landed n xs vs = Holds (verdict_row landed) (AheadVerdict landed) verdict_width most_verdicts n xs vs

-- a bench is free, and none of the rows of verdicts and of running runs is the row
abbrev pub lacks_row : ℕ → ℕ → List ℕ → ℕ → List ℕ → List ℕ → Bool
lacks_row benches known verdicts n running row = nat_lt n benches && (not (has_row row (run_rows verdict_width known verdicts)) && not (has_row row (run_rows run_width n running)))
