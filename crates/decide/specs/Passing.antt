-- The pass on the lent numbers. Assumes nothing: these are definitions.
use Rattle.std.specs.Prelude.{ℕ, List, []}
use Rattle.run.specs.Numbers.{Sections, landed_in, waiting_in, rejected_in, with_changes, decode}
use Rattle.run.specs.State.{Queue}
use Rattle.decide.specs.Decide.{Passed, pass}

-- where every change stands after the pass over the queue that these numbers say
abbrev pub passed_in : List ℕ → Passed
passed_in xs = pass (decode xs).verdicts [] (landed_in xs) (rejected_in xs) (waiting_in xs)

-- the numbers with every change where it stands then
abbrev pub passed_sections : List ℕ → Sections
passed_sections xs = with_changes xs (passed_in xs).landed (passed_in xs).waiting (passed_in xs).rejected

-- the state with every change where it stands then
abbrev pub passed_state : List ℕ → Queue
passed_state xs = record {
  landed = (passed_in xs).landed;
  waiting = (passed_in xs).waiting;
  rejected = (passed_in xs).rejected;
  verdicts = (decode xs).verdicts;
  running = (decode xs).running;
  requested = (decode xs).requested;
}
