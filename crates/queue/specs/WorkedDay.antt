-- A day worked out by hand: two benches, depth 3, and a bench that says bad of part 0 with changes 1 and 2 only.
use Rattle.std.specs.Prelude.{◌≡◌, ℕ, true, false, List, [], ◌∷◌, map, take}
use Rattle.change.specs.Change.{Change}
use Rattle.run.specs.Run.{Run}
use Rattle.run.specs.State.{Config, Queue, empty}
use Rattle.queue.specs.Queue.{Event, submit, withdraw, report, replayed}

abbrev pub change : ℕ → List ℕ → Change
change n ps = record { number = n; parts = ps }

abbrev pub run : ℕ → List ℕ → Run
run p ns = record { part = p; changes = ns }

abbrev pub two_three : Config
two_three = record { benches = 2; depth = 3 }

-- reports name a place among the running
abbrev pub worked : List Event
worked =
    submit (change 1 (0 ∷ [])) ∷ submit (change 2 (0 ∷ 1 ∷ [])) ∷ submit (change 3 (1 ∷ [])) ∷ submit (change 4 (2 ∷ []))
    ∷ report 0 true ∷ report 0 false ∷ report 2 true ∷ report 1 true ∷ submit (change 5 (1 ∷ 2 ∷ [])) ∷ report 0 true ∷ withdraw 5
    ∷ submit (change 3 (1 ∷ [])) ∷ []

-- what a line of the day shows
pub record Shown : Type 0 where
  pub landed : List ℕ
  pub waits : List ℕ
  pub back : List ℕ
  pub out : List Run
  pub asked : ℕ

abbrev pub numbers : List Change → List ℕ
numbers cs = map (λ c. c.number) cs

abbrev pub shown : Queue → Shown
shown q = record { landed = numbers q.landed; waits = numbers q.waiting; back = numbers q.rejected; out = q.running; asked = q.requested }

-- the state after so many events of the day
abbrev pub worked_after : ℕ → Shown
worked_after n = shown (replayed two_three empty (take n worked))

abbrev pub row : List ℕ → List ℕ → List ℕ → List Run → ℕ → Shown
row ls ws bs rs n = record { landed = ls; waits = ws; back = bs; out = rs; asked = n }

abbrev pub WorkedDay : Type 0
WorkedDay =
    map worked_after (2 ∷ 5 ∷ 6 ∷ 8 ∷ 9 ∷ 10 ∷ 11 ∷ [])
    ≡ row [] (1 ∷ 2 ∷ []) [] (run 0 (1 ∷ []) ∷ run 0 (1 ∷ 2 ∷ []) ∷ []) 2
    ∷ row (1 ∷ []) (2 ∷ 3 ∷ 4 ∷ []) [] (run 0 (1 ∷ 2 ∷ []) ∷ run 1 (2 ∷ []) ∷ []) 3
    ∷ row (1 ∷ []) (3 ∷ 4 ∷ []) (2 ∷ []) (run 1 (3 ∷ []) ∷ run 2 (4 ∷ []) ∷ []) 5
    ∷ row (1 ∷ 4 ∷ []) (3 ∷ []) (2 ∷ []) (run 1 (3 ∷ []) ∷ []) 5
    ∷ row (1 ∷ 4 ∷ []) (3 ∷ 5 ∷ []) (2 ∷ []) (run 1 (3 ∷ []) ∷ run 1 (3 ∷ 5 ∷ []) ∷ []) 6
    ∷ row (1 ∷ 4 ∷ 3 ∷ []) (5 ∷ []) (2 ∷ []) (run 1 (3 ∷ 5 ∷ []) ∷ run 2 (4 ∷ 5 ∷ []) ∷ []) 7
    ∷ row (1 ∷ 4 ∷ 3 ∷ []) [] (2 ∷ []) [] 7
    ∷ []
