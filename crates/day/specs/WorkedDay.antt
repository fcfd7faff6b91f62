-- The worked day as a file says it, and as it is printed. Assumes nothing: these are definitions and statements.
use Rattle.std.specs.Prelude.{◌≡◌, ℕ, List, [], ◌∷◌, map, take, codes}
use Rattle.queue.specs.Events.{event_in}
use Rattle.run.specs.State.{empty}
use Rattle.queue.specs.Queue.{replayed}
use Rattle.queue.specs.WorkedDay.{two_three, worked}
use Rattle.day.specs.DayFile.{events_in}
use Rattle.day.specs.Text.{line_text}

-- the bytes of tests/days/worked.day
abbrev pub worked_bytes : List ℕ
worked_bytes =
    2 ∷ 3 ∷ 0 ∷ 1 ∷ 0 ∷ 0 ∷ 0 ∷ 1 ∷ 0 ∷ 0 ∷ 2 ∷ 0 ∷ 0 ∷ 0 ∷ 2 ∷ 0 ∷ 1 ∷ 0 ∷ 3 ∷ 0 ∷ 0 ∷ 0 ∷ 1 ∷ 1 ∷ 0 ∷ 4 ∷ 0 ∷ 0 ∷ 0 ∷ 1 ∷ 2 ∷ 2 ∷ 0 ∷ 1 ∷ 2 ∷ 0 ∷ 0 ∷ 2 ∷ 2 ∷ 1
    ∷ 2 ∷ 1 ∷ 1 ∷ 0 ∷ 5 ∷ 0 ∷ 0 ∷ 0 ∷ 2 ∷ 1 ∷ 2 ∷ 2 ∷ 0 ∷ 1 ∷ 1 ∷ 5 ∷ 0 ∷ 0 ∷ 0 ∷ 0 ∷ 3 ∷ 0 ∷ 0 ∷ 0 ∷ 1 ∷ 1 ∷ []

-- they say the events of the worked day
abbrev pub WorkedFile : Type 0
WorkedFile = map event_in (events_in worked_bytes) ≡ worked

-- the line after so many events
abbrev pub worked_line : ℕ → List ℕ
worked_line n = line_text (replayed two_three empty (take n worked))

abbrev pub WorkedLines : Type 0
WorkedLines =
    map worked_line (2 ∷ 5 ∷ 6 ∷ 8 ∷ 9 ∷ 10 ∷ 11 ∷ [])
    ≡ codes "landed waits 1 2 back out 0:1 0:1+2 asked 2"
    ∷ codes "landed 1 waits 2 3 4 back out 0:1+2 1:2 asked 3"
    ∷ codes "landed 1 waits 3 4 back 2 out 1:3 2:4 asked 5"
    ∷ codes "landed 1 4 waits 3 back 2 out 1:3 asked 5"
    ∷ codes "landed 1 4 waits 3 5 back 2 out 1:3 1:3+5 asked 6"
    ∷ codes "landed 1 4 3 waits 5 back 2 out 1:3+5 2:4+5 asked 7"
    ∷ codes "landed 1 4 3 waits back 2 out asked 7"
    ∷ []
