-- The queue's state, and its config. Assumes nothing: these are definitions.
use Rattle.std.specs.Prelude.{ℕ, List, []}
use Rattle.change.specs.Change.{Change}
use Rattle.run.specs.Run.{Run, Verdict}

-- how many runs run at once, and how many of those that wait are looked at
pub record Config : Type 0 where
  pub benches : ℕ
  pub depth : ℕ

pub record Queue : Type 0 where
  pub landed : List Change
  pub waiting : List Change  -- in the order of their arrival
  pub rejected : List Change
  pub verdicts : List Verdict  -- those that are still useful
  pub running : List Run  -- in the order of their request
  pub requested : ℕ  -- how many runs were requested in all

abbrev pub empty : Queue
empty = record { landed = []; waiting = []; rejected = []; verdicts = []; running = []; requested = 0 }
